-- What compiling a text answers: the length of its query, which the whole table then reads as.
use Rattle.std.specs.Prelude.{◌≡◌, ℕ, List, length, drop, Some, None, Ok, Err, Option, Result}
use Rattle.model.specs.Limits.{places}
use Rattle.model.specs.Query.{path_length}
use Rattle.model.specs.Grammar.{PathTree, Reads}
use Rattle.names.specs.declared.NamesFault.{NamesFault}
use Rattle.names.specs.Labels.{Labels}
use Rattle.query.specs.declared.QueryFault.{QueryFault}
use Rattle.query.specs.declared.QueryFault.TheVariants.{BadSheet}
use Rattle.query.specs.Answers.{Fits, Refused, length_of, meaning}
use Rattle.table.specs.declared.part.Part.{Part}
use Rattle.table.specs.Lawful.{checked_reading}

-- The text fits and its tree has this length, and the table reads as its query; past the places of that length it is as it was.
pub record Compiled (t : List ℕ) (labels : Labels) (old new : List Part) (l : ℕ) : Type 0 where
  pub fits : Fits t labels (length old)
  pub length_is : l ≡ length_of labels fits.tree
  pub holds : checked_reading new ≡ meaning labels fits.tree
  pub kept : drop (places l) new ≡ drop (places l) old

-- The answer to a text: its length, or the first fault that applies, and then the table is as it was.
abbrev pub CompiledAs : List ℕ → Labels → List Part → List Part → Result ℕ QueryFault → Type 0
CompiledAs t labels old new (Ok l) = Compiled t labels old new l
CompiledAs t labels old new (Err f) = (new ≡ old) × Refused t labels (length old) f

-- with the names of a sheet, which may be refused itself
abbrev pub CompiledWith : Option NamesFault → List ℕ → Labels → List Part → List Part → Result ℕ QueryFault → Type 0
CompiledWith None t labels old new r = CompiledAs t labels old new r
CompiledWith (Some f) t labels old new r = (new ≡ old) × (r ≡ Err (BadSheet f))

-- Whatever tree the text has, a compiled table reads as what that tree means, and the answer is its length.
abbrev pub ReadsAsWritten : List ℕ → Labels → List Part → Result ℕ QueryFault → Type 0
ReadsAsWritten t labels new (Ok l) = (tree : PathTree) → Reads t tree → (checked_reading new ≡ meaning labels tree) × (l ≡ path_length (checked_reading new))
ReadsAsWritten t labels new (Err f) = Unit {0}
