-- Small: a part's numbers, which are places and labels, are no greater than the greatest label; and the places that a text was not read into stay.
use Rattle.std.specs.Prelude.{◌≡◌, ℕ, ◌≤◌, List, take, drop, IfOk, Result}
use Rattle.std.specs.List.{All}
use Rattle.model.specs.Limits.{most_label}
use Rattle.names.specs.Labels.{Labels, InRange}
use Rattle.query.specs.declared.QueryFault.{QueryFault}
use Rattle.query.specs.declared.QuerySize.{QuerySize}
use Rattle.table.specs.declared.part.Part.{Part}
use Rattle.table.specs.Lawful.{parts_in}

abbrev pub Small : Part → Type 0
Small p = (p.first ≤ most_label) × (p.second ≤ most_label)

-- each part of the query in a table
abbrev pub SmallParts : List Part → Type 0
SmallParts table = All Small (take (parts_in table) table)

-- Past the query's parts the table is as it was.
abbrev pub KeptPast : List Part → List Part → Type 0
KeptPast old new = drop (parts_in new) new ≡ drop (parts_in new) old

-- Where each label is one that an element can have, the parts that a text was read into are small.
abbrev pub SmallWhereRanged : Labels → List Part → Result QuerySize QueryFault → Type 0
SmallWhereRanged labels new r = ((name : List ℕ) → InRange (labels name)) → IfOk r (λ size. SmallParts new)
