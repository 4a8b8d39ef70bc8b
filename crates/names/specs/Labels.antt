-- Labels that a source of names may give, and the names that a sheet has.
use Rattle.std.specs.Prelude.{ℕ, ◌≤◌, List, Some, None, Option}
use Rattle.model.specs.Limits.{most_label}
use Rattle.names.specs.declared.NamesFault.{NamesFault}
use Rattle.names.specs.Sheet.{line_ends, label_in}

-- what a source of names gives each name
abbrev pub Labels : Type 0
Labels = List ℕ → Option ℕ

-- a label, if there is one, that an element can have
abbrev pub InRange : Option ℕ → Type 0
InRange None = Unit {0}
InRange (Some l) = (1 ≤ l) × (l ≤ most_label)

-- Bytes that are refused have no names.
abbrev pub names_among : Option NamesFault → List ℕ → ℕ
names_among None t = line_ends t
names_among (Some f) t = 0

abbrev pub label_among : Option NamesFault → List ℕ → List ℕ → Option ℕ
label_among None t name = label_in t name
label_among (Some f) t name = None
