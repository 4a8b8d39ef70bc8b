-- Lawful queries, and the one that a table reads as, whatever it holds.
use Rattle.std.specs.Prelude.{◌≡◌, ℕ, ◌+◌, ◌≤◌, Bool, true, cond, ◌&&◌, List, take, nat_le}
use Rattle.std.specs.List.{list_all}
use Rattle.model.specs.Limits.{most_label, most_length, places}
use Rattle.model.specs.Query.{Test, any, named, Path, last, then, Step, plain, filtered, Filter, holds, both, either, negated, path_length}
use Rattle.table.specs.declared.part.Part.{Part}
use Rattle.table.specs.Reading.{itself, last_place, reading}

-- whether each name's label is one that an element can have
abbrev pub test_labelled : Test → Bool
test_labelled any = true
test_labelled (named l) = nat_le 1 l && nat_le l most_label

abbrev mutual
  pub path_labelled : Path → Bool
  path_labelled (last s) = step_labelled s
  path_labelled (then s p) = step_labelled s && path_labelled p

  pub step_labelled : Step → Bool
  step_labelled (plain a t) = test_labelled t
  step_labelled (filtered a t f) = test_labelled t && filter_labelled f

  pub filter_labelled : Filter → Bool
  filter_labelled (holds p) = path_labelled p
  filter_labelled (both f g) = filter_labelled f && filter_labelled g
  filter_labelled (either f g) = filter_labelled f && filter_labelled g
  filter_labelled (negated f) = filter_labelled f

pub record LawfulQuery (q : Path) : Type 0 where
  pub some : 1 ≤ path_length q
  pub short : path_length q ≤ most_length
  pub labelled : path_labelled q ≡ true

-- the greatest number that a part of a checked query may have
abbrev pub most_number : ℕ
most_number = 65535

-- how many parts the query takes, from the first place to its last part
abbrev pub parts_in : List Part → ℕ
parts_in table = last_place table + 1

-- whether neither number of a part is above 65,535
abbrev pub narrow : Part → Bool
narrow p = nat_le p.first most_number && nat_le p.second most_number

-- whether the parts read as a lawful query, are as few as its length allows, and are narrow
abbrev pub fit : List Part → Bool
fit table = ((nat_le (path_length (reading table)) most_length && path_labelled (reading table)) && nat_le (parts_in table) (places (path_length (reading table)))) && list_all narrow (take (parts_in table) table)

-- The query of a table: what its parts read as, or /self::* where they make no lawful query or are not narrow.
abbrev pub checked_reading : List Part → Path
checked_reading table = cond (fit table) (reading table) itself

-- A table of any contents and length reads as one lawful query, and what stands past that query's parts changes nothing.
abbrev pub EveryTableIsLawful : Type 0
EveryTableIsLawful = (table : List Part) → LawfulQuery (checked_reading table)

abbrev pub PastTheQueryNothingCounts : Type 0
PastTheQueryNothingCounts = (table other : List Part) → take (parts_in table) other ≡ take (parts_in table) table → checked_reading other ≡ checked_reading table
