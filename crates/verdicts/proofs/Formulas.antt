-- The formula of a query, asked for yes or no, is the selection.
use Rattle.std.proofs.Common.{◌≡◌, ℕ, zero, suc, ◌<◌, Bool, true, false, cond, ◌&&◌, ◌||◌, eqb, sym, refl, ap, ◌∙◌, arith}
use Rattle.std.proofs.Math.Bool.{and_assoc, and_comm}
use Rattle.std.proofs.lemmas.Bool.{lt-ltb}
use Rattle.model.specs.declared.axis.Axis.{Axis}
use Rattle.model.specs.Receipt.{Receipt, count_of}
use Rattle.model.specs.Axes.{leads, inverse, grows}
use Rattle.model.specs.Query.{Test, Path, last, then, Step, plain, filtered, Filter, holds, both, either, negated, axis_of}
use Rattle.model.specs.Selection.{Set, some_below, passes, reached, alone, path_keeps, step_keeps, filter_holds, start, selects}
use Rattle.model.specs.Verdict.{Formula, test, first, conj, along, step_here, path_formula, filter_formula, step_from, path_from, plainly, or_over, verdict, yes_no}
use Rattle.plane.proofs.Steady.{leads_inverse}
use Rattle.verdicts.specs.Laws.{FormulaIsSelection}
use Rattle.verdicts.proofs.SomeBelow.{some_cong, some_alone, some_swap}

-- The `or` of yes and no over some ranks asks whether one of them passes.
or_over_lem : (p f : ℕ → Bool) (n : ℕ) → or_over yes_no p f n ≡ some_below (λ x. p x && f x) n
unfolding or_over some_below
or_over_lem p f zero = refl
or_over_lem p f (suc n) = by (p n) (f n) (or_over_lem p f n)
  where
    by : (b c : Bool) {s t : Bool} → s ≡ t → cond b (c || s) s ≡ ((b && c) || t)
    by b c e = grind arith

nothing_unseen : (g b : Bool) → (cond g false false || b) ≡ b
nothing_unseen g b = grind arith

plainly_yes : (b : Bool) → plainly yes_no b ≡ b
plainly_yes b = grind arith

module _ (r : Receipt) where
  abbrev says : Formula → Set
  says f y = verdict yes_no r f y

  says_along : (a : Axis) (f : Formula) (x : ℕ) → says (along a f) x ≡ some_below (λ y. leads r a x y && says f y) (count_of r)
  unfolding verdict
  says_along a f x = nothing_unseen (grows r a x) (or_over yes_no (leads r a x) (says f) (count_of r)) ∙ or_over_lem (leads r a x) (says f) (count_of r)

  says_test : (t : Test) (x : ℕ) → says (test t) x ≡ passes r t x
  unfolding verdict
  says_test t x = plainly_yes (passes r t x)

  -- A step keeps something if and only if its axis leads from the set to an element where f holds.
  kept_along : (a : Axis) (from keeps : Set) (f : Formula) → ((y : ℕ) → y < count_of r → keeps y ≡ (reached r a from y && says f y)) → some_below keeps (count_of r) ≡ some_below (λ x. from x && says (along a f) x) (count_of r)
  kept_along a from keeps f h =
      some_cong keeps (λ y. reached r a from y && says f y) (count_of r) h
      ∙ some_swap from (says f) (leads r a) (count_of r)
      ∙ some_cong (λ x. from x && some_below (λ y. leads r a x y && says f y) (count_of r)) (λ x. from x && says (along a f) x) (count_of r) (λ x b. ap (λ c. from x && c) (sym (says_along a f x)))

  mutual
    unfolding verdict

    path_says : (p : Path) (from : Set) → some_below (path_keeps r p from) (count_of r) ≡ some_below (λ x. from x && says (path_formula p) x) (count_of r)
    path_says (last s) from = kept_along (axis_of s) from (step_keeps r s from) (step_here s) (step_says s from)
    path_says (then s p) from =
        path_says p (step_keeps r s from) ∙ kept_along (axis_of s) from (λ y. step_keeps r s from y && says (path_formula p) y) (conj (step_here s) (path_formula p))
        (λ y h. ap (λ b. b && says (path_formula p) y) (step_says s from y h) ∙ and_assoc (reached r (axis_of s) from y) (says (step_here s) y) (says (path_formula p) y))

    step_says : (s : Step) (from : Set) (y : ℕ) → y < count_of r → step_keeps r s from y ≡ (reached r (axis_of s) from y && says (step_here s) y)
    step_says (plain a t) from y h = ap (λ b. reached r a from y && b) (sym (says_test t y))
    step_says (filtered a t f) from y h =
        and_assoc (reached r a from y) (passes r t y) (filter_holds r f y)
        ∙ ap (λ b. reached r a from y && b) (cc (says_test t y, filter_says f y h))

    filter_says : (f : Filter) (y : ℕ) → y < count_of r → filter_holds r f y ≡ says (filter_formula f) y
    filter_says (holds p) y h = path_says p (alone y) ∙ some_alone (says (path_formula p)) (count_of r) y h
    filter_says (both f g) y h = cc (filter_says f y h, filter_says g y h)
    filter_says (either f g) y h = cc (filter_says f y h, filter_says g y h)
    filter_says (negated f) y h = cc (filter_says f y h)

  -- An axis leads here from where `before` holds: `before` holds along the inverse axis.
  says_back : (a : Axis) (from : Set) (before : Formula) → ((x : ℕ) → x < count_of r → from x ≡ says before x) → (y : ℕ) → reached r a from y ≡ says (along (inverse a) before) y
  says_back a from before e y =
      some_cong (λ x. from x && leads r a x y) (λ x. leads r (inverse a) y x && says before x) (count_of r)
      (λ x h. let l = leads_inverse r a y x in let f = e x h in let c = and_comm (from x) (leads r a x y) in cc)
      ∙ sym (says_along (inverse a) before y)

  step_back : (s : Step) (from : Set) (before : Formula) → ((x : ℕ) → x < count_of r → from x ≡ says before x) → (y : ℕ) → y < count_of r → step_keeps r s from y ≡ says (step_from before s) y
  unfolding verdict
  step_back s from before e y h =
      step_says s from y h ∙ and_comm (reached r (axis_of s) from y) (says (step_here s) y)
      ∙ ap (λ b. says (step_here s) y && b) (says_back (axis_of s) from before e y)

  path_back : (p : Path) (from : Set) (before : Formula) → ((x : ℕ) → x < count_of r → from x ≡ says before x) → (y : ℕ) → y < count_of r → path_keeps r p from y ≡ says (path_from before p) y
  path_back (last s) from before e y h = step_back s from before e y h
  path_back (then s p) from before e y h = path_back p (step_keeps r s from) (step_from before s) (step_back s from before e) y h

  says_first : (x : ℕ) → x < count_of r → start r x ≡ says first x
  unfolding verdict
  says_first x h = let l = lt-ltb 0 (count_of r) (omega arith) in let c = and_comm (eqb x 0) true in let p = plainly_yes (eqb x 0) in cc

pub formula_is_selection : FormulaIsSelection
unfolding selects
formula_is_selection r q y h = let l = lt-ltb y (count_of r) h in let e = path_back r q (start r) first (says_first r) y h in rw l (sym e)
