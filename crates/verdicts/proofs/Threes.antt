-- Three verdicts ordered by what they tell: undecided may become anything, in and out stay.
use Rattle.std.proofs.Common.{◌≡◌, ℕ, zero, suc, ◌<◌, ◌≤◌, Bool, true, false, cond, not, ◌&&◌, ◌||◌, ⊎_elim, arith}
use Rattle.std.specs.Prelude.{◌≢◌}
use Rattle.std.proofs.lemmas.Bool.{cases_eq}
use Rattle.model.specs.Verdict.{plainly, or_over, yes_no, Three, is_out, undecided, is_in, lower, higher, swapped, three}

-- what the first verdict decides, the second has
pub record Kept (v w : Three) : Type 0 where
  pub still_in : v ≡ is_in → w ≡ is_in
  pub still_out : v ≡ is_out → w ≡ is_out

-- Over the same ranks the `or` is kept where each verdict is.
pub kept_over : (p p' : ℕ → Bool) (f f' : ℕ → Three) (n : ℕ) → ((j : ℕ) → j < n → p' j ≡ p j) → ((j : ℕ) → j < n → Kept (f j) (f' j)) → Kept (or_over three p f n) (or_over three p' f' n)
unfolding or_over
kept_over p p' f f' zero e k = record { still_in = λ h. h; still_out = λ h. h }
kept_over p p' f f' (suc n) e k = rw (e n (omega arith)) (by (p n) (k n (omega arith)) (kept_over p p' f f' n (λ j h. e j (omega arith)) (λ j h. k j (omega arith))))
  where
    by : (b : Bool) {v v' w w' : Three} → Kept v v' → Kept w w' → Kept (cond b (higher v w) w) (cond b (higher v' w') w')
    by b h k = grind arith

-- More ranks of which none passes add nothing, and any others leave in what is in.
pub over_none : (p : ℕ → Bool) (f : ℕ → Three) (n m : ℕ) → n ≤ m → ((j : ℕ) → n ≤ j → j < m → p j ≡ false) → or_over three p f m ≡ or_over three p f n
unfolding or_over
over_none p f n zero h e = let z : n ≡ 0 = omega arith in cc
over_none p f n (suc m) h e = ⊎_elim
    (λ (z : n ≡ suc m). cc)
    (λ ne. cc (e m (omega arith) (omega arith), over_none p f n m (omega arith) (λ j a b. e j a (omega arith))))
    (cases_eq n (suc m))

pub over_in : (p : ℕ → Bool) (f : ℕ → Three) (n m : ℕ) → n ≤ m → or_over three p f n ≡ is_in → or_over three p f m ≡ is_in
unfolding or_over
over_in p f n zero h e = let z : n ≡ 0 = omega arith in cc
over_in p f n (suc m) h e = ⊎_elim
    (λ (z : n ≡ suc m). cc)
    (λ ne. let ih = over_in p f n m (omega arith) e in grind arith)
    (cases_eq n (suc m))

-- An axis part: where the axis may grow, it decided nothing but in; elsewhere nothing is added.
pub kept_along : (g g' : Bool) (v w w' : Three) → Kept v w → (g ≡ false → (g' ≡ false) × (w' ≡ w)) → (w ≡ is_in → w' ≡ is_in) → Kept (higher (cond g undecided is_out) v) (higher (cond g' undecided is_out) w')
kept_along g g' v w w' k none stays = grind arith

-- What three verdicts decide, joined, is what yes and no say, joined.
pub told_and : (a b : Bool) {v w : Three} → Kept v (plainly three a) → Kept w (plainly three b) → Kept (lower v w) (plainly three (a && b))
told_and a b h k = grind arith

pub told_or : (a b : Bool) {v w : Three} → Kept v (plainly three a) → Kept w (plainly three b) → Kept (higher v w) (plainly three (a || b))
told_or a b h k = grind arith

pub told_not : (a : Bool) {v : Three} → Kept v (plainly three a) → Kept (swapped v) (plainly three (not a))
told_not a h = grind arith

pub told_over : (p : ℕ → Bool) (f : ℕ → Three) (g : ℕ → Bool) (n : ℕ) → ((j : ℕ) → j < n → Kept (f j) (plainly three (g j))) → Kept (or_over three p f n) (plainly three (or_over yes_no p g n))
unfolding or_over
told_over p f g zero k = record { still_in = λ h. h; still_out = λ h. h }
told_over p f g (suc n) k = by (p n) (g n) (or_over yes_no p g n) (k n (omega arith)) (told_over p f g n (λ j h. k j (omega arith)))
  where
    by : (b x y : Bool) {v w : Three} → Kept v (plainly three x) → Kept w (plainly three y) → Kept (cond b (higher v w) w) (plainly three (cond b (x || y) y))
    by true x y h k = told_or x y h k
    by false x y h k = k

pub told_along : (g b : Bool) (v : Three) → Kept v (plainly three b) → Kept (higher (cond g undecided is_out) v) (plainly three (cond g false false || b))
told_along g b v k = grind arith

pub told_in : (b : Bool) → plainly three b ≡ is_in → b ≡ true
told_in b e = grind arith

pub told_out : (b : Bool) → plainly three b ≡ is_out → b ≡ false
told_out b e = grind arith

-- The `or` of decided verdicts is decided.
pub decided_over : (p : ℕ → Bool) (f : ℕ → Three) (n : ℕ) → ((j : ℕ) → j < n → f j ≢ undecided) → or_over three p f n ≢ undecided
unfolding or_over
decided_over p f zero d = grind arith
decided_over p f (suc n) d = let ih = decided_over p f n (λ j h. d j (omega arith)) in grind (arith, d n (omega arith))
