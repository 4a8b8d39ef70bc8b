-- The walk from the last element up to the innermost open one.
use Rattle.std.proofs.Common.{◌≡◌, ℕ, zero, suc, ◌+◌, ◌<◌, ◌≤◌, false, List, Some, None, Option, sym, refl, ap, ◌∙◌, ⊎_elim, arith, MatchOption}
use Rattle.std.proofs.lemmas.Bool.{cases_eq, cases_lt, ne_eqb, cond-false}
use Rattle.model.specs.Receipt.{Element, Receipt, Lawful, count_of, level_at, nearest, parent_of, last_where, same_rank, innermost, last_inside}
use Rattle.model.proofs.Relatives.{parent_none, parent_some, between, nearest_is}
use Rattle.model.proofs.Search.{last_none, last_is, apart_rank, same_rank_lem}

-- What a walk from the last element upwards has found: all after `at` lies below it, and `previous` is the child that it came from.
pub record Reached (r : Receipt) (at : ℕ) (previous : Option ℕ) : Type 0 where
  pub in_it : at < count_of r
  pub deeper : (k : ℕ) → at < k → k < count_of r → level_at r at < level_at r k
  pub high : r.depth ≤ level_at r at + 1
  pub from : MatchOption previous (at + 1 ≡ count_of r) (λ q. (parent_of r q ≡ Some at) × ((k : ℕ) → q < k → k < count_of r → level_at r q < level_at r k))

reached_up : (r : Receipt) → Lawful r → (at p : ℕ) (previous : Option ℕ) → Reached r at previous → r.depth ≤ level_at r at → parent_of r at ≡ Some p → Reached r p (Some at)
reached_up r l at p previous w high e =
    let s = parent_some r at p e in
    record {
      in_it = omega arith;
      deeper = λ k a b. ⊎_elim (λ c. let x = between r l at p k e a c in omega arith)
          (λ c. ⊎_elim (λ (q : k ≡ at). let x = ap (level_at r) q in omega arith) (λ ne. let x = w.deeper k (omega arith) b in omega arith) (cases_eq k at)) (cases_lt k at);
      high = omega arith;
      from = (e, w.deeper);
    }

-- The walk has not gone past the first element.
abbrev pub Climbed : Receipt → Option ℕ → Option ℕ → Type 0
Climbed r None previous = ⊥
Climbed r (Some at) previous = Reached r at previous

pub climbed_up : (r : Receipt) → Lawful r → 0 < r.depth → (at : ℕ) (previous o : Option ℕ) → Reached r at previous → r.depth ≤ level_at r at → o ≡ parent_of r at → Climbed r o (Some at)
climbed_up r l d at previous None w high e = let z = parent_none r l at w.in_it (sym e) in omega arith
climbed_up r l d at previous (Some p) w high e = reached_up r l at p previous w high (sym e)

reached_previous : (r : Receipt) (at : ℕ) (previous : Option ℕ) → Reached r at previous → last_where (λ j. same_rank (parent_of r j) (Some at)) (count_of r) ≡ previous
reached_previous r at None w = last_none _ (count_of r) (λ j h. apart_rank (parent_of r j) at (λ e. let s = parent_some r j at e in omega (arith, w.from)))
reached_previous r at (Some q) w =
    let s = parent_some r q at w.from.0 in
    last_is _ (count_of r) q s.0 (same_rank_lem (parent_of r q) at w.from.0)
    (λ j a b. apart_rank (parent_of r j) at (λ e. let t = parent_some r j at e in omega (arith, w.from.1 j a b)))

pub reached_place : (r : Receipt) (at : ℕ) (previous : Option ℕ) → Reached r at previous → level_at r at < r.depth → (Some at ≡ innermost r) × (previous ≡ last_inside r)
reached_place r at previous w low =
    let up : innermost r ≡ Some at = nearest_is r r.depth (count_of r) at w.in_it (omega (arith, w.high)) (λ j a b q. let x = w.deeper j a b in omega arith) in
    (sym up, sym (ap (λ u. last_where (λ j. same_rank (parent_of r j) u) (count_of r)) up ∙ reached_previous r at previous w))

-- Where nothing is open, the next element has no relatives.
nearest_at_zero : (es : List Element) (v n : ℕ) → v ≡ 0 → nearest es v n ≡ None
unfolding nearest
nearest_at_zero es v zero e = refl
nearest_at_zero es v (suc n) e = cond-false _ (Some n) (nearest es v n) (ne_eqb _ v (λ q. omega arith)) ∙ nearest_at_zero es v n e

same_as_none : (o : Option ℕ) → same_rank o None ≡ false
same_as_none None = refl
same_as_none (Some a) = refl

pub no_place : (r : Receipt) → r.depth ≡ 0 → (None ≡ innermost r) × (None ≡ last_inside r)
no_place r e =
    let up = nearest_at_zero r.elements r.depth (count_of r) e in
    (sym up, sym (last_none _ (count_of r) (λ j h. ap (same_rank (parent_of r j)) up ∙ same_as_none (parent_of r j))))
