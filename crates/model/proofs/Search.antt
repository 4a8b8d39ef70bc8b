-- Searches: the greatest and the least rank that passes a test, and when two answers are the same rank.
use Rattle.std.proofs.Common.{◌≡◌, ℕ, zero, suc, ◌<◌, Bool, true, false, Some, None, Option, sym, refl, ap, ◌∙◌, ◌⊎◌, inl, inr, ⊎_elim, arith}
use Rattle.std.proofs.lemmas.Bool.{cases_eq, ne_eqb, eq-eqb, eqb-true, false≢true}
use Rattle.std.proofs.lemmas.Option.{none-some, cond_some}
use Rattle.model.specs.Receipt.{last_where, first_where, or_else, same_rank}

-- Equal tests find the same; no place that passes finds none; the nearest one is found.
pub last_cong : (f g : ℕ → Bool) (n : ℕ) → ((j : ℕ) → j < n → f j ≡ g j) → last_where f n ≡ last_where g n
unfolding last_where
last_cong f g zero h = refl
last_cong f g (suc n) h = let ih = last_cong f g n (λ j b. h j (omega arith)) in let t = h n (omega arith) in cc

pub last_none : (f : ℕ → Bool) (n : ℕ) → ((j : ℕ) → j < n → f j ≡ false) → last_where f n ≡ None
unfolding last_where
last_none f zero h = refl
last_none f (suc n) h = let ih = last_none f n (λ j b. h j (omega arith)) in let t = h n (omega arith) in rw t ih

pub last_is : (f : ℕ → Bool) (n q : ℕ) → q < n → f q ≡ true → ((j : ℕ) → q < j → j < n → f j ≡ false) → last_where f n ≡ Some q
unfolding last_where
last_is f zero q h t misses = absurd (omega arith)
last_is f (suc n) q h t misses = let ih = λ (b : q < n). last_is f n q b t (λ j a c. misses j a (omega arith)) in let u = misses n in grind arith

pub first_cong : (f g : ℕ → Bool) (n : ℕ) → ((j : ℕ) → j < n → f j ≡ g j) → first_where f n ≡ first_where g n
unfolding first_where
first_cong f g zero h = refl
first_cong f g (suc n) h = let ih = first_cong f g n (λ j b. h j (omega arith)) in let t = h n (omega arith) in cc

pub first_none : (f : ℕ → Bool) (n : ℕ) → ((j : ℕ) → j < n → f j ≡ false) → first_where f n ≡ None
unfolding first_where
first_none f zero h = refl
first_none f (suc n) h = let ih = first_none f n (λ j b. h j (omega arith)) in let t = h n (omega arith) in rw (ih, t)

-- What an `or_else` that found something found it in.
pub or_else_some : (a b : Option ℕ) (q : ℕ) → or_else a b ≡ Some q → (a ≡ Some q) ⊎ ((a ≡ None) × (b ≡ Some q))
or_else_some None b q e = inr (refl, e)
or_else_some (Some a) b q e = inl e

or_none : (a : Option ℕ) → or_else a None ≡ a
or_none None = refl
or_none (Some a) = refl

or_some : (a : Option ℕ) (x : ℕ) → (k : ℕ) × (or_else a (Some x) ≡ Some k)
or_some None x = (x, refl)
or_some (Some a) x = (a, refl)

pub first_found : (f : ℕ → Bool) (n q : ℕ) → q < n → f q ≡ true → (k : ℕ) × (first_where f n ≡ Some k)
unfolding first_where
first_found f zero q h t = absurd (omega arith)
first_found f (suc n) q h t = ⊎_elim
    (λ (e : q ≡ n). let u : f n ≡ true = cc in let s = or_some (first_where f n) n in (s.0, rw u s.1))
    (λ ne. let ih = first_found f n q (omega arith) t in (ih.0, rw ih.1 refl))
    (cases_eq q n)

-- Where one below n passes already, one more place changes nothing.
pub first_more : (f : ℕ → Bool) (n q : ℕ) → q < n → f q ≡ true → first_where f (suc n) ≡ first_where f n
unfolding first_where
first_more f n q h t = let s = first_found f n q h t in rw s.1 refl

pub first_new : (f : ℕ → Bool) (n : ℕ) → ((j : ℕ) → j < n → f j ≡ false) → f n ≡ true → first_where f (suc n) ≡ Some n
unfolding first_where
first_new f n misses t = rw (first_none f n misses, t)

pub first_same : (f : ℕ → Bool) (n : ℕ) → f n ≡ false → first_where f (suc n) ≡ first_where f n
unfolding first_where
first_same f n t = rw t (or_none (first_where f n))

pub apart_rank : (a : Option ℕ) (b : ℕ) → (a ≡ Some b → ⊥) → same_rank a (Some b) ≡ false
apart_rank None b h = refl
apart_rank (Some a) b h = ne_eqb a b (λ e. h (ap Some e))

pub same_parts : (a b : Option ℕ) → same_rank a b ≡ true → (x : ℕ) × (a ≡ Some x) × (b ≡ Some x)
same_parts None b e = absurd (false≢true e)
same_parts (Some a) None e = absurd (false≢true e)
same_parts (Some a) (Some b) e = (a, refl, ap Some (sym (eqb-true a b e)))

pub same_is : (a b : Option ℕ) → same_rank a b ≡ true → a ≡ b
same_is a b e = let s = same_parts a b e in s.1 ∙ sym s.2

pub same_rank_lem : (a : Option ℕ) (b : ℕ) → a ≡ Some b → same_rank a (Some b) ≡ true
same_rank_lem a b e = rw e (eq-eqb b b refl)

pub same_rank_sym : (a b : Option ℕ) → same_rank a b ≡ true → same_rank b a ≡ true
same_rank_sym a b e = let s = same_parts a b e in ap (same_rank b) s.1 ∙ same_rank_lem b s.0 s.2

-- What a search found, and what it passed over.
pub last_some : (f : ℕ → Bool) (n q : ℕ) → last_where f n ≡ Some q → (q < n) × (f q ≡ true) × ((j : ℕ) → q < j → j < n → f j ≡ false)
unfolding last_where
last_some f zero q e = absurd (none-some q e)
last_some f (suc n) q e = let ih = last_some f n q in (grind arith, grind arith, λ j a b. grind arith)

pub last_none_all : (f : ℕ → Bool) (n : ℕ) → last_where f n ≡ None → (j : ℕ) → j < n → f j ≡ false
unfolding last_where
last_none_all f zero e j h = absurd (omega arith)
last_none_all f (suc n) e j h = let ih = last_none_all f n in grind arith

pub first_some : (f : ℕ → Bool) (n q : ℕ) → first_where f n ≡ Some q → (q < n) × (f q ≡ true)
unfolding first_where
first_some f zero q e = absurd (none-some q e)
first_some f (suc n) q e = ⊎_elim
    (λ a. let ih = first_some f n q a in (omega arith, ih.1))
    (λ b. let s = cond_some (f n) n q b.1 in (omega arith, (let u : f q ≡ true = cc in u)))
    (or_else_some (first_where f n) _ q e)
