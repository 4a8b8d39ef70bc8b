-- Sorts: what a part is by its tag alone, and in which roles a part of each sort serves where another names it.
use Rattle.std.specs.Prelude.{Bool, true, false}
use Rattle.table.specs.declared.part.Tag.{Tag}
use Rattle.table.specs.declared.part.Tag.TheVariants.{First, Any, Named, Filtered, Then, Along, And, Or, Not, Step}
use Rattle.table.specs.declared.role.Sort.{Sort}
use Rattle.table.specs.declared.role.Sort.TheVariants.{Start, Test, Kept, Onward, Path, Filter, Query}
use Rattle.table.specs.declared.role.Role.{Role}
use Rattle.table.specs.declared.role.Role.TheVariants.{Testing, Asking, Reaching, Going, Filtering, Starting}

abbrev pub sort_of : Tag → Sort
sort_of First = Start
sort_of Any = Test
sort_of Named = Test
sort_of Filtered = Kept
sort_of Then = Onward
sort_of (Along a) = Path
sort_of And = Filter
sort_of Or = Filter
sort_of Not = Filter
sort_of (Step a) = Query

-- the roles, as one of six answers
abbrev by_role : Role → Bool → Bool → Bool → Bool → Bool → Bool → Bool
by_role Testing t a r g f s = t
by_role Asking t a r g f s = a
by_role Reaching t a r g f s = r
by_role Going t a r g f s = g
by_role Filtering t a r g f s = f
by_role Starting t a r g f s = s

-- Each row says of a sort whether it serves for testing, asking, reaching, going, filtering, starting.
abbrev pub serves : Sort → Role → Bool
serves Start role = by_role role false false false false false true
serves Test role = by_role role true true true false false false
serves Kept role = by_role role false true true false false false
serves Onward role = by_role role false false true false false false
serves Path role = by_role role false false false true true false
serves Filter role = by_role role false false false false true false
serves Query role = by_role role false false false false false true

abbrev pub is_query : Sort → Bool
is_query Start = false
is_query Test = false
is_query Kept = false
is_query Onward = false
is_query Path = false
is_query Filter = false
is_query Query = true
