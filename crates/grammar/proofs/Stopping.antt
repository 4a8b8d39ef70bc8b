-- Stopping: where a machine stops is the place at which the bytes break the set of texts that it takes.
use Rattle.std.proofs.Common.{◌≡◌, ℕ, zero, suc, ◌+◌, ◌-◌, ◌<◌, ◌≤◌, Bool, cond, List, [], ◌∷◌, ◌++◌, length, take, sym, refl, ap, ◌∙◌, ⊎_elim, add-one, arith}
use Rattle.std.proofs.lemmas.Bool.{cases_lt}
use Rattle.model.specs.Places.{Texts, BreaksIn}
use Rattle.grammar.specs.Machines.{Next, dead, go, Out, taken, stops, runs}

pub clash : (n : ℕ) → stops n ≡ taken → ⊥
clash n e = cc

pub one_place : (L : Texts) (t : List ℕ) (p q : ℕ) → BreaksIn L t p → BreaksIn L t q → q ≡ p
one_place L t p q d e =
    ⊎_elim (λ (h : p < q). absurd (d.at (omega (arith, e.within)) (e.before (p + 1) (omega arith))))
    (λ (h : q ≤ p). ⊎_elim (λ (k : q < p). absurd (e.at (omega (arith, d.within)) (d.before (q + 1) (omega arith)))) (λ (k : p ≤ q). omega arith) (cases_lt q p))
    (cases_lt p q)

left_at_end : (v : Bool) (left : ℕ) → cond v taken (stops 0) ≡ stops left → left ≡ 0
left_at_end v left e = grind arith

-- what follows a byte
abbrev goes_on : {S : Type 0} → (S → ℕ → Next S) → (S → Bool) → List ℕ → Next S → Out
goes_on on ends t dead = stops (suc (length t))
goes_on on ends t (go s) = runs on ends s t

abbrev Viable : {S : Type 0} → (S → ℕ → Next S) → (S → Bool) → S → List ℕ → Type 0
Viable on ends s t = (u : List ℕ) × (runs on ends s (t ++ u) ≡ taken)

record Stop {S : Type 0} (on : S → ℕ → Next S) (ends : S → Bool) (s : S) (t : List ℕ) (p : ℕ) : Type 0 where
  before : (q : ℕ) → q ≤ p → Viable on ends s (take q t)
  at : p < length t → Viable on ends s (take (suc p) t) → ⊥

-- Every state can be brought to an end.
module _ {S : Type 0} (on : S → ℕ → Next S) (ends : S → Bool) (ends_so : (s : S) → Viable on ends s []) where
  left_le : (t : List ℕ) (s : S) (left : ℕ) → runs on ends s t ≡ stops left → left ≤ length t
  left_le [] s left e = omega (arith, left_at_end _ left e)
  left_le (b ∷ t) s left e = by (on s b) (left_le t) e
    where
      by : (n : Next S) → ((r : S) (l : ℕ) → runs on ends r t ≡ stops l → l ≤ length t) → goes_on on ends t n ≡ stops left → left ≤ suc (length t)
      by dead ih g = let k : suc (length t) ≡ left = cc in omega arith
      by (go r) ih g = omega (arith, ih r left g)

  -- one byte further
  further : (s r : S) (b : ℕ) (t : List ℕ) → on s b ≡ go r → Viable on ends r t → Viable on ends s (b ∷ t)
  further s r b t e (u, g) = (u, ap (goes_on on ends (t ++ u)) e ∙ g)

  nearer : (s r : S) (b : ℕ) (t : List ℕ) → on s b ≡ go r → Viable on ends s (b ∷ t) → Viable on ends r t
  nearer s r b t e (u, g) = (u, sym (ap (goes_on on ends (t ++ u)) e) ∙ g)

  first : (s : S) (t : List ℕ) (q : ℕ) → q ≤ 0 → Viable on ends s (take q t)
  first s t zero h = ends_so s
  first s t (suc q) h = absurd (omega arith)

  stop_first : (s : S) (b : ℕ) (t : List ℕ) → on s b ≡ dead → Stop on ends s (b ∷ t) 0
  stop_first s b t e = record { before = first s (b ∷ t); at = λ h v. clash _ (sym (ap (goes_on on ends (take 0 t ++ v.0)) e) ∙ v.1) }

  stop_next : (s r : S) (b : ℕ) (t : List ℕ) (p : ℕ) → on s b ≡ go r → Stop on ends r t p → Stop on ends s (b ∷ t) (suc p)
  stop_next s r b t p e d = record { before = till; at = λ h v. d.at (omega arith) (nearer s r b (take (suc p) t) e v) }
    where
      till : (q : ℕ) → q ≤ suc p → Viable on ends s (take q (b ∷ t))
      till zero h = ends_so s
      till (suc q) h = further s r b (take q t) e (d.before q (omega arith))

  stop : (t : List ℕ) (s : S) (p left : ℕ) → length t ≡ p + left → runs on ends s t ≡ stops left → Stop on ends s t p
  stop [] s zero left h e = record { before = first s []; at = λ k v. omega arith }
  stop [] s (suc p) left h e = absurd (omega arith)
  stop (b ∷ t) s p left h e = by (on s b) refl p h (stop t) e
    where
      by : (n : Next S) → on s b ≡ n → (p : ℕ) → suc (length t) ≡ p + left → ((r : S) (p l : ℕ) → length t ≡ p + l → runs on ends r t ≡ stops l → Stop on ends r t p) → goes_on on ends t n ≡ stops left → Stop on ends s (b ∷ t) p
      by dead k zero h ih g = stop_first s b t k
      by dead k (suc p) h ih g = let z : suc (length t) ≡ left = cc in absurd (omega arith)
      by (go r) k zero h ih g = absurd (omega (arith, left_le t r left g))
      by (go r) k (suc p) h ih g = stop_next s r b t p k (ih r p left (omega arith) g)

  -- The machine takes the texts of a set and no others.
  pub breaks_in : (L : Texts) (begin : S) → ((t : List ℕ) → runs on ends begin t ≡ taken → L t) → ((t : List ℕ) → L t → runs on ends begin t ≡ taken) → (t : List ℕ) (left : ℕ) → runs on ends begin t ≡ stops left → BreaksIn L t (length t - left)
  breaks_in L begin sound complete t left e =
      let k : left ≤ length t = left_le t begin left e in
      let d : Stop on ends begin t (length t - left) = stop t begin (length t - left) left (omega arith) e in
      record {
        within = omega arith;
        before = λ q h. let v = d.before q h in (v.0, sound (take q t ++ v.0) v.1);
        at = λ h v. d.at h (v.0, rw (← add-one (length t - left)) (complete _ v.1));
        whole = λ q. clash left (sym e ∙ complete t q);
      }
