-- What holds of every text, and of every table.
use Rattle.std.specs.Prelude.{◌≡◌, ℕ, List, take}
use Rattle.model.specs.Grammar.{PathTree, Reads}
use Rattle.names.specs.Labels.{Labels}
use Rattle.query.specs.declared.QueryFault.{QueryFault}
use Rattle.query.specs.declared.QuerySize.{QuerySize}
use Rattle.query.specs.Answers.{Fits, Accepted, Refused, meaning}
use Rattle.table.specs.declared.part.Part.{Part}
use Rattle.table.specs.Whole.{whole_reading, WholePartByPart}

-- No fault applies to a text that fits, so it is accepted; an accepted text fits by the definition.
abbrev pub FittingIsAccepted : Type 0
FittingIsAccepted = (t : List ℕ) (labels : Labels) (n : ℕ) → Fits t labels n → (f : QueryFault) → Refused t labels n f → ⊥

-- At most one fault applies.
abbrev pub OneFault : Type 0
OneFault = (t : List ℕ) (labels : Labels) (n : ℕ) (f f' : QueryFault) → Refused t labels n f → Refused t labels n f' → f ≡ f'

-- Whatever tree the text of a table has, the table reads as what that tree means.
abbrev pub AcceptedAsWritten : Type 0
AcceptedAsWritten = (t : List ℕ) (labels : Labels) (old new : List Part) (size : QuerySize) (tree : PathTree) → Accepted t labels old new size → Reads t tree → whole_reading (take size.places new) ≡ meaning labels tree

abbrev pub TablesPartByPart : Type 0
TablesPartByPart = (parts : List Part) → WholePartByPart parts
