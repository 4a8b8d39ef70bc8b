-- Laws of what is listed over ranks.
use Rattle.std.proofs.Common.{◌≡◌, ℕ, zero, suc, ◌<◌, List, [], ◌++◌, Some, Option, sym, ap, ◌∙◌, ⊎_elim, arith}
use Rattle.std.specs.List.{ContainsAt as Has, AllByRecursion as All}
use Rattle.std.proofs.ByRecursion.{All-append, has_append_left, has_append_right, has_push}
use Rattle.std.proofs.lemmas.Bool.{cases_eq}
use Rattle.model.specs.Show.{if_any, listed}

-- What turns lists into lists part by part turns one listing into another if it does so at each rank.
pub listed_through : {A B : Type 0} (g : List A → List B) → g [] ≡ [] → ((xs ys : List A) → g (xs ++ ys) ≡ g xs ++ g ys)
    → (f : ℕ → Option A) (h : ℕ → Option B) (n : ℕ) → ((k : ℕ) → k < n → g (if_any (f k)) ≡ if_any (h k)) → g (listed f n) ≡ listed h n
unfolding listed
listed_through g none parts f h zero each = none
listed_through g none parts f h (suc n) each =
    let ih = listed_through g none parts f h n (λ k b. each k (omega arith)) in
    rw (parts (listed f n) (if_any (f n)), ih, each n (omega arith))

pub listed_all : {A : Type 0} (P : A → Type 0) (f : ℕ → Option A) (n : ℕ) → ((k : ℕ) → k < n → All P (if_any (f k))) → All P (listed f n)
unfolding listed
listed_all P f zero each = tt
listed_all P f (suc n) each = All-append P (listed f n) (if_any (f n)) (listed_all P f n (λ k b. each k (omega arith))) (each n (omega arith))

pub listed_has : {A : Type 0} (f : ℕ → Option A) (n k : ℕ) (a : A) → k < n → f k ≡ Some a → Has (listed f n) a
unfolding listed
listed_has f zero k a h e = absurd (omega arith)
listed_has f (suc n) k a h e = ⊎_elim
    (λ (q : k ≡ n). has_append_right (listed f n) (if_any (f n)) a (let u : f n ≡ Some a = ap f (sym q) ∙ e in rw u (has_push [] a)))
    (λ ne. has_append_left (listed f n) (if_any (f n)) a (listed_has f n k a (omega arith) e))
    (cases_eq k n)
