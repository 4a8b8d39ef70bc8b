-- Where an element's relatives stand.
use Rattle.std.proofs.Common.{◌≡◌, ℕ, ◌<◌, ltb, IfSome, Some, None, Option, sym, arith}
use Rattle.std.proofs.lemmas.Bool.{ltb-true, and_parts}
use Rattle.std.proofs.lemmas.Bool.Decides.{nat_tests}
use Rattle.model.specs.Receipt.{Receipt, within, count_of, parent_of, first_child_of, next_sibling_of, previous_sibling_of}
use Rattle.model.proofs.Relatives.{parent_some}
use Rattle.model.proofs.Search.{last_some, first_some, same_is}

-- An answer at a rank is one at an element.
pub within_some : (r : Receipt) (i q : ℕ) (o : Option ℕ) → within r i o ≡ Some q → (i < count_of r) × (o ≡ Some q)
within_some r i q o e = grind (arith, nat_tests)

pub parent_bound : (r : Receipt) (i : ℕ) (o : Option ℕ) → o ≡ parent_of r i → IfSome o (λ p. (p < i) × (i < count_of r))
parent_bound r i None e = tt
parent_bound r i (Some p) e = let s = parent_some r i p (sym e) in (s.1, s.0)

pub child_bound : (r : Receipt) (i : ℕ) (o : Option ℕ) → o ≡ first_child_of r i → IfSome o (λ c. (i < c) × (c < count_of r))
child_bound r i None e = tt
child_bound r i (Some c) e =
    let w = within_some r i c _ (sym e) in
    let s = first_some _ (count_of r) c w.1 in
    let p = parent_some r c i (same_is (parent_of r c) (Some i) s.1) in
    (p.1, s.0)

pub next_bound : (r : Receipt) (i : ℕ) (o : Option ℕ) → o ≡ next_sibling_of r i → IfSome o (λ s. (i < s) × (s < count_of r))
next_bound r i None e = tt
next_bound r i (Some q) e =
    let w = within_some r i q _ (sym e) in
    let s = first_some _ (count_of r) q w.1 in
    (ltb-true i q (and_parts (ltb i q) _ s.1).0, s.0)

pub previous_bound : (r : Receipt) (i : ℕ) (o : Option ℕ) → o ≡ previous_sibling_of r i → IfSome o (λ s. (s < i) × (i < count_of r))
previous_bound r i None e = tt
previous_bound r i (Some q) e =
    let w = within_some r i q _ (sym e) in
    let s = last_some _ i q w.1 in
    (s.0, w.0)
