-- The least rank that passes a test: from what it means, and what it passed over.
use Rattle.std.proofs.Common.{◌≡◌, ℕ, zero, suc, ◌<◌, Bool, true, false, Some, None, sym, ap, ◌∙◌, ⊎_elim, arith}
use Rattle.std.proofs.lemmas.Bool.{cases_eq, false_from_ne_true}
use Rattle.std.proofs.lemmas.Option.{none-some}
use Rattle.model.specs.Receipt.{first_where}
use Rattle.model.proofs.Search.{first_new, first_more, first_found, first_some, or_else_some}

pub first_is : (f : ℕ → Bool) (n q : ℕ) → q < n → f q ≡ true → ((j : ℕ) → j < q → f j ≡ false) → first_where f n ≡ Some q
first_is f zero q h t misses = absurd (omega arith)
first_is f (suc n) q h t misses = ⊎_elim
    (λ (e : q ≡ n). let u : f n ≡ true = cc in first_new f n (λ j b. misses j (omega arith)) u ∙ ap Some (sym e))
    (λ ne. first_more f n q (omega arith) t ∙ first_is f n q (omega arith) t misses)
    (cases_eq q n)

pub first_none_all : (f : ℕ → Bool) (n : ℕ) → first_where f n ≡ None → (j : ℕ) → j < n → f j ≡ false
first_none_all f n e j h = false_from_ne_true (f j) (λ t. let s = first_found f n j h t in none-some s.0 (sym e ∙ s.1))

pub first_least : (f : ℕ → Bool) (n q : ℕ) → first_where f n ≡ Some q → (j : ℕ) → j < q → f j ≡ false
unfolding first_where
first_least f zero q e j h = absurd (none-some q e)
first_least f (suc n) q e j h = ⊎_elim
    (λ a. first_least f n q a j h)
    (λ b. first_none_all f n b.0 j (let s = first_some f (suc n) q e in omega arith))
    (or_else_some (first_where f n) _ q e)
