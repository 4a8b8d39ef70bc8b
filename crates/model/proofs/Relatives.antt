-- Parents: that they exist, which one it is, and what stands between.
use Rattle.std.proofs.Common.{◌≡◌, ℕ, zero, suc, ◌+◌, ◌-◌, ◌<◌, ◌≤◌, ltb, Some, None, Option, ⊎_elim, add-one, arith}
use Rattle.std.proofs.lemmas.Bool.{cases_eq, cond-true, lt-ltb}
use Rattle.std.proofs.lemmas.Bool.Decides.{nat_tests}
use Rattle.std.proofs.lemmas.Option.{none-some}
use Rattle.model.specs.Receipt.{Receipt, Lawful, within, count_of, level_at, nearest, parent_of}

-- An answer at an element is that answer.
pub inside : (r : Receipt) (i : ℕ) (o : Option ℕ) → i < count_of r → within r i o ≡ o
inside r i o h = cond-true (ltb i (count_of r)) o None (lt-ltb i (count_of r) h)

pub nearest_some : (r : Receipt) (v k p : ℕ) → nearest r.elements v k ≡ Some p → (p < k) × (level_at r p + 1 ≡ v)
unfolding nearest
nearest_some r v zero p e = absurd (none-some p e)
nearest_some r v (suc k) p e = let ih = nearest_some r v k p in grind (arith, nat_tests)

pub nearest_none : (r : Receipt) (v k : ℕ) → nearest r.elements v k ≡ None → (j : ℕ) → j < k → level_at r j + 1 ≡ v → ⊥
unfolding nearest
nearest_none r v zero e j h q = omega arith
nearest_none r v (suc k) e j h q = let ih = nearest_none r v k in grind (arith, nat_tests)

pub parent_some : (r : Receipt) (i p : ℕ) → parent_of r i ≡ Some p → (i < count_of r) × (p < i) × (level_at r p + 1 ≡ level_at r i)
parent_some r i p e = let s = nearest_some r (level_at r i) i p in grind (arith, nat_tests)

nearest_none_less : (r : Receipt) (v k : ℕ) → nearest r.elements v (suc k) ≡ None → nearest r.elements v k ≡ None
unfolding nearest
nearest_none_less r v k e = grind (arith, nat_tests)

nearest_exists : (r : Receipt) → Lawful r → (k v : ℕ) → k < count_of r → 1 ≤ v → v ≤ level_at r k + 1 → nearest r.elements v (suc k) ≡ None → ⊥
nearest_exists r l zero v h one up e = let f = l.first h in let q : level_at r 0 + 1 ≡ v = omega arith in nearest_none r v 1 e 0 (omega arith) q
nearest_exists r l (suc k) v h one up e =
    let ne : level_at r (suc k) + 1 ≡ v → ⊥ = nearest_none r v (suc (suc k)) e (suc k) (omega arith) in
    let s = simp add-one at (l.later k (omega arith)).1 in
    let step : level_at r (suc k) ≤ level_at r k + 1 = omega arith in
    nearest_exists r l k v (omega arith) one (omega arith) (nearest_none_less r v (suc k) e)

pub parent_none : (r : Receipt) → Lawful r → (i : ℕ) → i < count_of r → parent_of r i ≡ None → level_at r i ≡ 0
parent_none r l zero h e = l.first h
parent_none r l (suc k) h e =
    let s = simp add-one at (l.later k (omega arith)).1 in
    let step : level_at r (suc k) ≤ level_at r k + 1 = omega arith in
    let b : nearest r.elements (level_at r (suc k)) (suc k) ≡ None = grind (arith, nat_tests) in
    let misses = nearest_exists r l k (level_at r (suc k)) in
    ⊎_elim (λ z. z) (λ ne. absurd (misses (omega arith) (omega arith) step b)) (cases_eq (level_at r (suc k)) 0)

-- No nearer place has that level.
pub nearest_no_nearer : (r : Receipt) (v k p : ℕ) → nearest r.elements v k ≡ Some p → (j : ℕ) → p < j → j < k → level_at r j + 1 ≡ v → ⊥
unfolding nearest
nearest_no_nearer r v zero p e j a b q = omega arith
nearest_no_nearer r v (suc k) p e j a b q = let ih = nearest_no_nearer r v k p in grind (arith, nat_tests)

-- `nearest`, from what it means.
pub nearest_is : (r : Receipt) (v k p : ℕ) → p < k → level_at r p + 1 ≡ v → ((j : ℕ) → p < j → j < k → level_at r j + 1 ≡ v → ⊥) → nearest r.elements v k ≡ Some p
unfolding nearest
nearest_is r v zero p h q misses = absurd (omega arith)
nearest_is r v (suc k) p h q misses = let ih = λ (b : p < k). nearest_is r v k p b q (λ j a c. misses j a (omega arith)) in let n = misses k in grind (arith, nat_tests)

-- What stands between an element and its parent is no higher than the element.
between_from : (r : Receipt) → Lawful r → (i p : ℕ) → i < count_of r → nearest r.elements (level_at r i) i ≡ Some p → (m k : ℕ) → k + m ≡ i → p < k → level_at r i ≤ level_at r k
between_from r l i p h e zero k s a = let q : k ≡ i = omega arith in grind arith
between_from r l i p h e (suc m) k s a =
    let ih = between_from r l i p h e m (k + 1) (omega arith) (omega arith) in
    let up = (l.later k (omega arith)).1 in
    let ne = nearest_no_nearer r (level_at r i) i p e k a (omega arith) in
    omega arith

pub between : (r : Receipt) → Lawful r → (i p k : ℕ) → parent_of r i ≡ Some p → p < k → k < i → level_at r i ≤ level_at r k
between r l i p k e a b =
    let s = parent_some r i p e in
    let f : nearest r.elements (level_at r i) i ≡ Some p = grind (arith, nat_tests) in
    between_from r l i p s.0 f (i - k) k (omega arith) a
