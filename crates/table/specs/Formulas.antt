-- Formulas: what each part of a table says, as evaluators work it out, part by part from the parts that it names.
use Rattle.std.specs.Prelude.{◌≡◌, ℕ, ◌-◌, ◌<◌, ◌≤◌, Bool, cond, ◌&&◌, List, length, nat_lt}
use Rattle.model.specs.Axes.{inverse}
use Rattle.model.specs.Query.{any, named, Path}
use Rattle.model.specs.Verdict.{Formula, test, first, conj, disj, neg, along, path_formula, filter_formula, query_formula}
use Rattle.table.specs.declared.part.Part.{Part}
use Rattle.table.specs.declared.part.Tag.{Tag}
use Rattle.table.specs.declared.part.Tag.TheVariants.{First, Any, Named, Filtered, Then, Along, And, Or, Not, Step}
use Rattle.table.specs.declared.role.Role.{Role}
use Rattle.table.specs.declared.role.Role.TheVariants.{Testing, Asking, Reaching, Going, Filtering, Starting}
use Rattle.table.specs.Sorts.{sort_of, serves, is_query}
use Rattle.table.specs.Reading.{Asked, only, also, Piece, begins, asks, onward, path, filter, query, itself, piece_at, pieces, part_at, tag_at, last_place}

abbrev pub asked_formula : Asked → Formula
asked_formula (only t) = test t
asked_formula (also t f) = conj (test t) (filter_formula f)

abbrev pub piece_formula : Piece → Formula
piece_formula begins = first
piece_formula (asks x) = asked_formula x
piece_formula (onward x p) = conj (asked_formula x) (path_formula p)
piece_formula (path p) = path_formula p
piece_formula (filter f) = filter_formula f
piece_formula (query q) = query_formula q

-- the formula of what the part at a place reads as
abbrev pub formula_at : List Part → ℕ → Formula
formula_at parts i = piece_formula (piece_at (pieces parts) i)

-- what stands in each role where no part does
abbrev pub stand_in : Role → Piece
stand_in Testing = asks (only any)
stand_in Asking = asks (only any)
stand_in Reaching = asks (only any)
stand_in Going = path itself
stand_in Filtering = path itself
stand_in Starting = begins

-- Seen from place i: whether the part at place j stands before and serves in the role.
abbrev pub found : Role → List Part → ℕ → ℕ → Bool
found role parts i j = nat_lt j i && serves (sort_of (tag_at parts j)) role

-- what is worked out of the part at place j, seen from place i, or else of what stands in for it
abbrev pub seen : {X : Type 0} → (Piece → X) → Role → List Part → ℕ → ℕ → X
seen of role parts i j = cond (found role parts i j) (of (piece_at (pieces parts) j)) (of (stand_in role))

abbrev pub formula_from : Role → List Part → ℕ → ℕ → Formula
formula_from = seen piece_formula

-- the formula of a part at place i, by its tag and the places j and k that it names
abbrev pub tag_formula : Tag → List Part → ℕ → ℕ → ℕ → Formula
tag_formula First parts i j k = first
tag_formula Any parts i j k = test any
tag_formula Named parts i j k = test (named j)
tag_formula Filtered parts i j k = conj (formula_from Testing parts i j) (formula_from Filtering parts i k)
tag_formula Then parts i j k = conj (formula_from Asking parts i j) (formula_from Going parts i k)
tag_formula (Along a) parts i j k = along a (formula_from Reaching parts i j)
tag_formula And parts i j k = conj (formula_from Filtering parts i j) (formula_from Filtering parts i k)
tag_formula Or parts i j k = disj (formula_from Filtering parts i j) (formula_from Filtering parts i k)
tag_formula Not parts i j k = neg (formula_from Filtering parts i j)
tag_formula (Step a) parts i j k = conj (formula_from Asking parts i j) (along (inverse a) (formula_from Starting parts i k))

abbrev pub part_formula : List Part → ℕ → Formula
part_formula parts i = tag_formula (tag_at parts i) parts i (part_at parts i).first (part_at parts i).second

-- whether the last part of the query is a step
abbrev pub ends_in_step : List Part → Bool
ends_in_step parts = is_query (sort_of (tag_at parts (last_place parts)))

-- Worked out part by part, the parts give the formula of the query in the row of the last one.
pub record PartByPart (parts : List Part) (q : Path) : Type 0 where
  pub some : 1 ≤ length parts
  pub each : (i : ℕ) → i < length parts → formula_at parts i ≡ part_formula parts i
  pub whole : query_formula q ≡ formula_at parts (length parts - 1)
