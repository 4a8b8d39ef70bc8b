-- Whole: parts that are all of a table's, so that the last of them is the query's, whatever the first one names.
use Rattle.std.specs.Prelude.{◌≡◌, ℕ, ◌-◌, ◌<◌, cond, List, length}
use Rattle.model.specs.Query.{Path}
use Rattle.model.specs.Verdict.{query_formula}
use Rattle.table.specs.declared.part.Part.{Part}
use Rattle.table.specs.Sorts.{sort_of, is_query}
use Rattle.table.specs.Reading.{query_of, itself, piece_at, pieces, tag_at, last_place, reading}
use Rattle.table.specs.Formulas.{formula_at, part_formula}

-- the parts read as the query of the last one
abbrev pub whole_reading : List Part → Path
whole_reading parts = query_of (piece_at (pieces parts) (length parts - 1))

-- Worked out part by part, the parts give the formula of the query that they read as: in the row of the last one, or that of /self::* where it is no step. So do they where the first one names the last of the query, in that one's row.
pub record WholePartByPart (parts : List Part) : Type 0 where
  pub each : (i : ℕ) → i < length parts → formula_at parts i ≡ part_formula parts i
  pub whole : query_formula (whole_reading parts) ≡ cond (is_query (sort_of (tag_at parts (length parts - 1)))) (formula_at parts (length parts - 1)) (query_formula itself)
  pub named : query_formula (reading parts) ≡ cond (is_query (sort_of (tag_at parts (last_place parts)))) (formula_at parts (last_place parts)) (query_formula itself)
