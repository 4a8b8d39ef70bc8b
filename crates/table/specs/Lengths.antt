-- Lengths, part by part: what a piece of a query counts, and too much for a label that no element can have.
use Rattle.std.specs.Prelude.{◌≡◌, ℕ, ◌+◌, ◌<◌, min, cond, List, length, slice_index}
use Rattle.model.specs.Limits.{most_length}
use Rattle.model.specs.Query.{Test, any, named, Path, last, then, Step, plain, filtered, Filter, holds, both, either, negated}
use Rattle.table.specs.declared.part.Part.{Part}
use Rattle.table.specs.declared.part.Tag.{Tag}
use Rattle.table.specs.declared.part.Tag.TheVariants.{First, Any, Named, Filtered, Then, Along, And, Or, Not, Step as StepTag}
use Rattle.table.specs.declared.role.Role.{Role}
use Rattle.table.specs.declared.role.Role.TheVariants.{Testing, Asking, Reaching, Going, Filtering, Starting}
use Rattle.table.specs.Reading.{Asked, only, also, Piece, begins, asks, onward, path, filter, query, piece_at, pieces}
use Rattle.table.specs.Formulas.{seen}
use Rattle.table.specs.Lawful.{test_labelled}

abbrev pub too_much : ℕ
too_much = most_length + 1

abbrev pub test_cost : Test → ℕ
test_cost any = 0
test_cost (named l) = cond (test_labelled (named l)) 0 too_much

abbrev mutual
  pub path_cost : Path → ℕ
  path_cost (last s) = step_cost s
  path_cost (then s p) = step_cost s + path_cost p

  pub step_cost : Step → ℕ
  step_cost (plain a t) = 1 + test_cost t
  step_cost (filtered a t f) = 1 + (test_cost t + filter_cost f)

  pub filter_cost : Filter → ℕ
  filter_cost (holds p) = path_cost p
  filter_cost (both f g) = 1 + (filter_cost f + filter_cost g)
  filter_cost (either f g) = 1 + (filter_cost f + filter_cost g)
  filter_cost (negated f) = 1 + filter_cost f

abbrev pub asked_cost : Asked → ℕ
asked_cost (only t) = test_cost t
asked_cost (also t f) = test_cost t + filter_cost f

abbrev pub piece_cost : Piece → ℕ
piece_cost begins = 0
piece_cost (asks x) = asked_cost x
piece_cost (onward x p) = asked_cost x + path_cost p
piece_cost (path p) = path_cost p
piece_cost (filter f) = filter_cost f
piece_cost (query q) = path_cost q

abbrev pub cost_at : List Part → ℕ → ℕ
cost_at parts i = piece_cost (piece_at (pieces parts) i)

abbrev pub cost_from : Role → List Part → ℕ → ℕ → ℕ
cost_from = seen piece_cost

abbrev pub tag_cost : Tag → List Part → ℕ → ℕ → ℕ → ℕ
tag_cost First parts i j k = 0
tag_cost Any parts i j k = 0
tag_cost Named parts i j k = test_cost (named j)
tag_cost Filtered parts i j k = cost_from Testing parts i j + cost_from Filtering parts i k
tag_cost Then parts i j k = cost_from Asking parts i j + cost_from Going parts i k
tag_cost (Along a) parts i j k = 1 + cost_from Reaching parts i j
tag_cost And parts i j k = 1 + (cost_from Filtering parts i j + cost_from Filtering parts i k)
tag_cost Or parts i j k = 1 + (cost_from Filtering parts i j + cost_from Filtering parts i k)
tag_cost Not parts i j k = 1 + cost_from Filtering parts i j
tag_cost (StepTag a) parts i j k = cost_from Starting parts i k + (1 + cost_from Asking parts i j)

-- All above the greatest length are one.
abbrev pub capped : ℕ → ℕ
capped n = min too_much n

-- The costs of the first parts stand in the list, each capped.
abbrev pub Costed : List Part → List ℕ → Type 0
Costed parts costs = (j : ℕ) → j < length costs → slice_index costs j ≡ capped (cost_at parts j)
