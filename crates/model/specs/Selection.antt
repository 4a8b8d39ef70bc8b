-- What a query selects: a path turns a set of elements into another, step by step.
use Rattle.std.specs.Prelude.{ℕ, zero, suc, Bool, true, false, not, ◌&&◌, ◌||◌, ◌==◌, nat_lt}
use Rattle.model.specs.declared.axis.Axis.{Axis}
use Rattle.model.specs.Receipt.{Receipt, count_of, label_at}
use Rattle.model.specs.Axes.{leads}
use Rattle.model.specs.Query.{Test, any, named, Path, last, then, Step, plain, filtered, Filter, holds, both, either, negated}

-- A set of elements, by whether it has each rank.
abbrev pub Set : Type 0
Set = ℕ → Bool

-- whether some rank below n passes
unfoldable pub some_below : Set → ℕ → Bool
some_below p zero = false
some_below p (suc k) = p k || some_below p k

abbrev pub passes : Receipt → Test → ℕ → Bool
passes r any y = true
passes r (named label) y = label_at r y == label

-- whether the axis leads to y from some element of the set
abbrev pub reached : Receipt → Axis → Set → ℕ → Bool
reached r a from y = some_below (λ x. from x && leads r a x y) (count_of r)

abbrev pub alone : ℕ → Set
alone x y = x == y

-- A step keeps y if its axis leads to y, y passes the test and the filter holds at y.
abbrev mutual
  pub path_keeps : Receipt → Path → Set → Set
  path_keeps r (last s) from = step_keeps r s from
  path_keeps r (then s p) from = path_keeps r p (step_keeps r s from)

  pub step_keeps : Receipt → Step → Set → Set
  step_keeps r (plain a t) from y = reached r a from y && passes r t y
  step_keeps r (filtered a t f) from y = (reached r a from y && passes r t y) && filter_holds r f y

  pub filter_holds : Receipt → Filter → ℕ → Bool
  filter_holds r (holds p) y = some_below (path_keeps r p (alone y)) (count_of r)
  filter_holds r (both f g) y = filter_holds r f y && filter_holds r g y
  filter_holds r (either f g) y = filter_holds r f y || filter_holds r g y
  filter_holds r (negated f) y = not (filter_holds r f y)

-- A query starts from the first element, or from nothing on an empty receipt.
abbrev pub start : Receipt → Set
start r y = y == 0 && nat_lt 0 (count_of r)

unfoldable pub selects : Receipt → Path → ℕ → Bool
selects r q y = nat_lt y (count_of r) && path_keeps r q (start r) y
