-- What the steps of a reading promise to the call that joins them.
use Rattle.std.specs.Prelude.{◌≡◌, ℕ, ◌-◌, ◌<◌, ◌≤◌, List, [], ◌++◌, length, take, drop, Some, None, Ok, Err, Result, slice_set}
use Rattle.model.specs.Limits.{most_length, places}
use Rattle.model.specs.Grammar.{PathTree, Reads, Breaks}
use Rattle.query.specs.declared.QueryFault.{QueryFault}
use Rattle.query.specs.declared.QueryFault.TheVariants.{BadSize, Broken, TooDeep, TooLong, UnknownName, ShortTable, BadSheet}
use Rattle.names.specs.Labels.{Labels}
use Rattle.reader.specs.declared.draft.Draft.{Draft}
use Rattle.table.specs.declared.part.Part.{Part}
use Rattle.table.specs.declared.part.Tag.TheVariants.{First}
use Rattle.reader.specs.Drafts.{part, spine_drafted}

pub record Tree (t : List ℕ) (labels : Labels) (old new : Draft) : Type 0 where
  pub tree : PathTree
  pub reads : Reads t tree
  pub made : new ≡ spine_drafted labels tree [] old

abbrev pub Drafted : List ℕ → Labels → Draft → Draft → Result (Unit {0}) QueryFault → Type 0
Drafted t labels old new (Ok u) = Tree t labels old new
Drafted t labels old new (Err f) = (p : ℕ) × (f ≡ Broken p) × Breaks t p

-- by what the draft counts and notes
abbrev pub Limited : List ℕ → Draft → ℕ → Result (Unit {0}) QueryFault → Type 0
Limited t d n (Ok u) = (d.deep ≡ None) × (d.count ≤ most_length) × (d.unknown ≡ None) × (places d.count ≤ n)
Limited t d n (Err (BadSheet f)) = ⊥
Limited t d n (Err BadSize) = ⊥
Limited t d n (Err (Broken p)) = ⊥
Limited t d n (Err (TooDeep p)) = (left : ℕ) × (d.deep ≡ Some left) × (p ≡ length t - left - 1)
Limited t d n (Err TooLong) = (d.deep ≡ None) × (most_length < d.count)
Limited t d n (Err (UnknownName p)) = (d.deep ≡ None) × (d.count ≤ most_length) × ((left : ℕ) × (d.unknown ≡ Some left) × (p ≡ length t - left))
Limited t d n (Err ShortTable) = (d.deep ≡ None) × (d.count ≤ most_length) × (d.unknown ≡ None) × (n < places d.count)

-- the draft's first n parts stand in the table's first n places, but that the first one names the last; the rest stays
abbrev pub Copied : ℕ → List Part → List Part → List Part → Type 0
Copied n parts old new = new ≡ slice_set (take n parts ++ drop n old) 0 (part First (n - 1) 0)
