-- A query counts at most the greatest length exactly if it is lawful, and then it counts its length.
use Rattle.std.proofs.Common.{◌≡◌, ℕ, ◌≤◌, Bool, true, cond, refl, ap, arith}
use Rattle.std.proofs.lemmas.Bool.{and_parts, cond_both}
use Rattle.model.specs.Limits.{most_length}
use Rattle.model.specs.Query.{Test, any, named, Path, last, then, Step, plain, filtered, Filter, holds, both, either, negated, path_length, step_length, filter_length}
use Rattle.table.specs.Lawful.{test_labelled, path_labelled, step_labelled, filter_labelled}
use Rattle.table.specs.Lengths.{too_much, test_cost, path_cost, step_cost, filter_cost}

test_sound : (t : Test) → test_cost t ≤ most_length → (test_cost t ≡ 0) × (test_labelled t ≡ true)
test_sound any h = (refl, refl)
test_sound (named l) h = cond_both (test_labelled (named l)) 0 too_much (λ c. c ≤ most_length → (c ≡ 0) × (test_labelled (named l) ≡ true)) (λ e _. (refl, e)) (λ _ k. absurd (omega arith)) h

mutual
  pub path_sound : (q : Path) → path_cost q ≤ most_length → (path_length q ≡ path_cost q) × (path_labelled q ≡ true)
  path_sound (last s) h = step_sound s h
  path_sound (then s p) h = let a = step_sound s (omega arith) in let b = path_sound p (omega arith) in (omega arith, simp (a.1, b.1))

  step_sound : (s : Step) → step_cost s ≤ most_length → (step_length s ≡ step_cost s) × (step_labelled s ≡ true)
  step_sound (plain x t) h = let a = test_sound t (omega arith) in (omega arith, a.1)
  step_sound (filtered x t f) h = let a = test_sound t (omega arith) in let b = filter_sound f (omega arith) in (omega arith, simp (a.1, b.1))

  filter_sound : (f : Filter) → filter_cost f ≤ most_length → (filter_length f ≡ filter_cost f) × (filter_labelled f ≡ true)
  filter_sound (holds p) h = path_sound p h
  filter_sound (both f g) h = let a = filter_sound f (omega arith) in let b = filter_sound g (omega arith) in (omega arith, simp (a.1, b.1))
  filter_sound (either f g) h = let a = filter_sound f (omega arith) in let b = filter_sound g (omega arith) in (omega arith, simp (a.1, b.1))
  filter_sound (negated f) h = let a = filter_sound f (omega arith) in (omega arith, a.1)

test_free : (t : Test) → test_labelled t ≡ true → test_cost t ≡ 0
test_free any e = refl
test_free (named l) e = ap (λ (b : Bool). cond {A = ℕ} b 0 too_much) e

mutual
  pub path_free : (q : Path) → path_labelled q ≡ true → path_cost q ≡ path_length q
  path_free (last s) e = step_free s e
  path_free (then s p) e = grind (arith, step_free s, path_free p, and_parts (step_labelled s) (path_labelled p) e)

  step_free : (s : Step) → step_labelled s ≡ true → step_cost s ≡ step_length s
  step_free (plain x t) e = omega (arith, test_free t e)
  step_free (filtered x t f) e = grind (arith, test_free t, filter_free f, and_parts (test_labelled t) (filter_labelled f) e)

  filter_free : (f : Filter) → filter_labelled f ≡ true → filter_cost f ≡ filter_length f
  filter_free (holds p) e = path_free p e
  filter_free (both f g) e = grind (arith, filter_free f, filter_free g, and_parts (filter_labelled f) (filter_labelled g) e)
  filter_free (either f g) e = grind (arith, filter_free f, filter_free g, and_parts (filter_labelled f) (filter_labelled g) e)
  filter_free (negated f) e = omega (arith, filter_free f e)

mutual
  pub path_some : (q : Path) → 1 ≤ path_length q
  path_some (last s) = step_some s
  path_some (then s p) = omega (arith, step_some s)

  step_some : (s : Step) → 1 ≤ step_length s
  step_some (plain x t) = omega arith
  step_some (filtered x t f) = omega arith
