-- Whether some rank passes: equal tests, the rank that passes, and two searches in either order.
use Rattle.std.proofs.Common.{◌≡◌, ℕ, zero, suc, ◌<◌, Bool, true, ◌&&◌, eqb, refl, ap, ◌∙◌, ⊎_elim, arith}
use Rattle.std.proofs.lemmas.Bool.{cases_eq, eq-eqb, eqb-true, or_left, or_right, or_cases, and_parts, and_from}
use Rattle.model.specs.Selection.{Set, some_below, alone}

pub some_cong : (p q : Set) (n : ℕ) → ((j : ℕ) → j < n → p j ≡ q j) → some_below p n ≡ some_below q n
unfolding some_below
some_cong p q zero h = refl
some_cong p q (suc n) h = let ih = some_cong p q n (λ j b. h j (omega arith)) in let t = h n (omega arith) in cc

pub some_from : (p : Set) (n k : ℕ) → k < n → p k ≡ true → some_below p n ≡ true
unfolding some_below
some_from p zero k h t = absurd (omega arith)
some_from p (suc n) k h t = ⊎_elim
    (λ (e : k ≡ n). or_left (p n) (some_below p n) (cc))
    (λ ne. or_right (p n) (some_below p n) (some_from p n k (omega arith) t))
    (cases_eq k n)

pub some_found : (p : Set) (n : ℕ) → some_below p n ≡ true → (k : ℕ) × (k < n) × (p k ≡ true)
unfolding some_below
some_found p zero e = cc
some_found p (suc n) e = ⊎_elim
    (λ (t : p n ≡ true). (n, omega arith, t))
    (λ (t : some_below p n ≡ true). let s = some_found p n t in (s.0, omega arith, s.2))
    (or_cases (p n) (some_below p n) e)

same_truth : (a b : Bool) → (a ≡ true → b ≡ true) → (b ≡ true → a ≡ true) → a ≡ b
same_truth a b f g = grind arith

-- Among all ranks, one alone passes where it passes.
pub some_alone : (g : Set) (n y : ℕ) → y < n → some_below (λ x. alone y x && g x) n ≡ g y
some_alone g n y h = same_truth (some_below (λ x. alone y x && g x) n) (g y)
    (λ t.
    let s = some_found (λ x. alone y x && g x) n t in
    let b = and_parts (eqb y s.0) (g s.0) s.2 in
    let e : y ≡ s.0 = eqb-true y s.0 b.0 in
    ap g e ∙ b.1)
    (λ t. some_from (λ x. alone y x && g x) n y h (and_from (eqb y y) (g y) (eq-eqb y y refl) t))

-- Some y passes g and is led to from some x, if and only if some x leads to some y that passes g.
pub some_swap : (from g : Set) (l : ℕ → ℕ → Bool) (n : ℕ) → some_below (λ y. some_below (λ x. from x && l x y) n && g y) n ≡ some_below (λ x. from x && some_below (λ y. l x y && g y) n) n
some_swap from g l n =
    same_truth (some_below (λ y. some_below (λ x. from x && l x y) n && g y) n) (some_below (λ x. from x && some_below (λ y. l x y && g y) n) n)
    (λ t.
    let s = some_found (λ y. some_below (λ x. from x && l x y) n && g y) n t in
    let b = and_parts (some_below (λ x. from x && l x s.0) n) (g s.0) s.2 in
    let u = some_found (λ x. from x && l x s.0) n b.0 in
    let c = and_parts (from u.0) (l u.0 s.0) u.2 in
    let d = some_from (λ y. l u.0 y && g y) n s.0 s.1 (and_from (l u.0 s.0) (g s.0) c.1 b.1) in
    some_from (λ x. from x && some_below (λ y. l x y && g y) n) n u.0 u.1 (and_from (from u.0) (some_below (λ y. l u.0 y && g y) n) c.0 d))
    (λ t.
    let s = some_found (λ x. from x && some_below (λ y. l x y && g y) n) n t in
    let b = and_parts (from s.0) (some_below (λ y. l s.0 y && g y) n) s.2 in
    let u = some_found (λ y. l s.0 y && g y) n b.1 in
    let c = and_parts (l s.0 u.0) (g u.0) u.2 in
    let d = some_from (λ x. from x && l x u.0) n s.0 s.1 (and_from (from s.0) (l s.0 u.0) b.0 c.0) in
    some_from (λ y. some_below (λ x. from x && l x y) n && g y) n u.0 u.1 (and_from (some_below (λ x. from x && l x u.0) n) (g u.0) d c.1))
