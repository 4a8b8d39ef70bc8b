-- What a names sheet holds.
use Rattle.std.specs.Prelude.{◌≡◌, ℕ, List, Some, None, Ok, Err, IfOk, Option, Result}
use Rattle.names.specs.declared.NamesFault.{NamesFault}
use Rattle.names.specs.declared.sheet.Sheet.{Sheet}
use Rattle.names.specs.Sheet.{line_ends, Checked}
use Rattle.names.specs.Labels.{Labels, label_among}

abbrev pub bytes_of : Sheet → List ℕ
bytes_of s = s.bytes.now

-- why its bytes were refused
abbrev pub fault_of : Sheet → Option NamesFault
fault_of s = s.fault

-- the label of each name
abbrev pub labels_of : Sheet → Labels
labels_of s = label_among s.fault s.bytes.now

-- the answer that the check of a sheet gives: the number of its names, or the fault
abbrev pub judged : Option NamesFault → ℕ → Result ℕ NamesFault
judged None n = Ok n
judged (Some f) n = Err f

abbrev pub outcome_of : Sheet → Result ℕ NamesFault
outcome_of s = judged s.fault (line_ends s.bytes.now)

abbrev pub parse_outcome : Result Sheet NamesFault → Result ℕ NamesFault
parse_outcome (Ok s) = outcome_of s
parse_outcome (Err f) = Err f

-- The bytes are read: with no fault where the check accepts them, and otherwise not, for the check's fault.
pub record Parsed (t : List ℕ) (r : Result Sheet NamesFault) : Type 0 where
  pub answers : Checked t (parse_outcome r)
  pub only : (other : Result ℕ NamesFault) → Checked t other → other ≡ parse_outcome r
  pub keeps : IfOk r (λ s. bytes_of s ≡ t)
  pub faultless : IfOk r (λ s. fault_of s ≡ None)
