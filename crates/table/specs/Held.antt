-- What a checked query holds, and how it is made.
use Rattle.std.specs.Prelude.{◌≡◌, ℕ, ◌≤◌, true, List, [], ◌∷◌, length, take}
use Rattle.std.specs.List.{AllPass}
use Rattle.model.specs.declared.axis.Axis.TheVariants.{Itself}
use Rattle.model.specs.Limits.{most_length, most_parts, places}
use Rattle.model.specs.Query.{Path, path_length}
use Rattle.table.specs.declared.CheckedQuery.{CheckedQuery}
use Rattle.table.specs.declared.part.Part.{Part}
use Rattle.table.specs.declared.part.Tag.TheVariants.{First, Any, Step}
use Rattle.table.specs.Reading.{reading}
use Rattle.table.specs.Formulas.{ends_in_step}
use Rattle.table.specs.Lawful.{parts_in, path_labelled, narrow}

abbrev pub parts_of : CheckedQuery → List Part
parts_of q = q.parts.now

abbrev pub reads_as : CheckedQuery → Path
reads_as q = reading (parts_of q)

-- the parts of /self::*
abbrev pub itself_parts : List Part
itself_parts = record { tag = First; first = 2; second = 0 } ∷ (record { tag = Any; first = 0; second = 0 } ∷ (record { tag = Step Itself; first = 1; second = 0 } ∷ []))

-- the query's last part stands in the table, as the n-th, and is a step
pub record EndsAt (table : List Part) (n : ℕ) : Type 0 where
  pub number : n ≡ parts_in table
  pub within : n ≤ length table
  pub few : n ≤ most_parts
  pub step : ends_in_step table ≡ true

-- the first n parts, all narrow, make a lawful query of this length
pub record Fitting (table : List Part) (n l : ℕ) : Type 0 where
  pub measured : path_length (reading table) ≡ l
  pub short : l ≤ most_length
  pub labelled : path_labelled (reading table) ≡ true
  pub few : n ≤ places l
  pub narrow_parts : AllPass narrow (take n table)
