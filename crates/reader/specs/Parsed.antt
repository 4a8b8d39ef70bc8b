-- What the readers promise: a tree was read off the front of the text and drafted, or the byte machine stops there.
use Rattle.std.specs.Prelude.{◌≡◌, ℕ, ◌≤◌, true, List, ◌∷◌, ◌++◌, length, Ok, Err, Option, Result, slice_index}
use Rattle.std.specs.Borrow.{Bor}
use Rattle.model.specs.declared.axis.Axis.{Axis}
use Rattle.model.specs.Names.{are_name_bytes}
use Rattle.model.specs.Grammar.{test_text, step_text, path_text, or_text, atom_text}
use Rattle.grammar.specs.Joins.{Join, by_and, by_or, word, joins_text}
use Rattle.grammar.specs.Machine.{Frame, State, axis, test, name, held, step, done, joint, atom, shut}
use Rattle.names.specs.Labels.{Labels}
use Rattle.reader.specs.declared.draft.Stuck.{Stuck}
use Rattle.reader.specs.declared.draft.Draft.{Draft}
use Rattle.reader.specs.declared.descent.Word.{Word}
use Rattle.reader.specs.declared.descent.Word.TheVariants.{And, Or}
use Rattle.reader.specs.Spells.{Takes, Stops}
use Rattle.reader.specs.Drafts.{test_drafted, step_axis, step_drafted, path_drafted, or_drafted, atom_drafted, spine_drafted, joins_drafted}

pub record Parsed {X Y : Type 0} (write : X → List ℕ) (drafted : X → List ℕ → Draft → Draft) (from to : Y → State) (text rest : List ℕ) (old new : Draft) : Type 0 where
  pub tree : X
  pub reads : text ≡ write tree ++ rest
  pub made : new ≡ drafted tree rest old
  pub takes : Takes from to text rest

abbrev pub Read : {X Y : Type 0} → (X → List ℕ) → (X → List ℕ → Draft → Draft) → (Y → State) → (Y → State) → List ℕ → Draft → Draft → Result (Bor (List ℕ)) Stuck → Type 0
Read write drafted from to text old new (Ok rest) = Parsed write drafted from to text rest.now old new
Read write drafted from to text old new (Err e) = Stops from text e.left

-- inside at least one bracket
abbrev pub inside : (List Frame → State) → Frame × List Frame → State
inside s x = s (x.0 ∷ x.1)

abbrev pub NameRead : ℕ → List ℕ → Result (Bor (List ℕ)) Stuck → Type 0
NameRead room text (Ok rest) = (bytes : List ℕ) × (are_name_bytes room bytes ≡ true) × (text ≡ bytes ++ rest.now) × Takes (name room) held text rest.now
NameRead room text (Err e) = Stops (name room) text e.left

abbrev pub TestRead : Labels → List ℕ → Draft → Draft → Result (Bor (List ℕ)) Stuck → Type 0
TestRead labels = Read test_text (test_drafted labels) test held

abbrev pub StepRead : Labels → List ℕ → Draft → Draft → Result (Axis × Bor (List ℕ)) Stuck → Type 0
StepRead labels text old new (Ok r) = (p : Parsed step_text (step_drafted labels) axis step text r.1.now old new) × (r.0 ≡ step_axis p.tree)
StepRead labels text old new (Err e) = Stops axis text e.left

abbrev pub PathRead : Labels → List ℕ → Draft → Draft → Result (Bor (List ℕ)) Stuck → Type 0
PathRead labels = Read path_text (path_drafted labels) axis done

abbrev pub SpineRead : Labels → List ℕ → Draft → Draft → Result (Bor (List ℕ)) Stuck → Type 0
SpineRead labels = Read path_text (spine_drafted labels) axis done

abbrev pub FilterRead : Labels → List ℕ → Draft → Draft → Result (Bor (List ℕ)) Stuck → Type 0
FilterRead labels = Read or_text (or_drafted labels) (inside atom) (inside shut)

abbrev pub AtomRead : Labels → List ℕ → Draft → Draft → Result (Bor (List ℕ)) Stuck → Type 0
AtomRead labels = Read atom_text (atom_drafted labels) atom done

abbrev pub JoinsRead : Labels → Option ℕ → List ℕ → Draft → Draft → Result (Bor (List ℕ)) Stuck → Type 0
JoinsRead labels waiting = Read joins_text (joins_drafted labels waiting) (inside done) (inside shut)

abbrev pub join_of : Word → Join
join_of And = by_and
join_of Or = by_or

abbrev pub WordRead : List ℕ → Result (Word × Bor (List ℕ)) Stuck → Type 0
WordRead text (Ok r) = (text ≡ word (join_of r.0) ++ r.1.now) × Takes joint atom text r.1.now
WordRead text (Err e) = Stops joint text e.left

-- the closing byte, from inside the frame that it closes
abbrev pub Shut : ℕ → List ℕ → Result (Bor (List ℕ)) Stuck → Type 0
Shut byte text (Ok rest) = text ≡ byte ∷ rest.now
Shut byte text (Err e) = (e.left ≡ length text) × (1 ≤ length text → slice_index text 0 ≡ byte → ⊥)
