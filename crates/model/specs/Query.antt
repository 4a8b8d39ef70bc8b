-- A query: a path of steps from the first element, whose steps may have filters.
use Rattle.std.specs.Prelude.{ℕ, ◌+◌}
use Rattle.model.specs.declared.axis.Axis.{Axis}

-- "*" passes every element, a name those with its label
pub data Test : Type 0 where
  any : Test
  named : ℕ → Test

mutual
  pub data Path : Type 0 where
    last : Step → Path
    then : Step → Path → Path

  pub data Step : Type 0 where
    plain : Axis → Test → Step
    filtered : Axis → Test → Filter → Step

  pub data Filter : Type 0 where
    holds : Path → Filter
    both : Filter → Filter → Filter
    either : Filter → Filter → Filter
    negated : Filter → Filter

abbrev pub axis_of : Step → Axis
axis_of (plain a t) = a
axis_of (filtered a t f) = a

-- The length counts all steps and all `and`, `or` and `not`.
abbrev mutual
  pub path_length : Path → ℕ
  path_length (last s) = step_length s
  path_length (then s p) = step_length s + path_length p

  pub step_length : Step → ℕ
  step_length (plain a t) = 1
  step_length (filtered a t f) = 1 + filter_length f

  pub filter_length : Filter → ℕ
  filter_length (holds p) = path_length p
  filter_length (both f g) = 1 + (filter_length f + filter_length g)
  filter_length (either f g) = 1 + (filter_length f + filter_length g)
  filter_length (negated f) = 1 + filter_length f
