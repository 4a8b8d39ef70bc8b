-- What each part of a tree adds to a draft: the readers' contracts cite it, and theorems say what the draft then reads as.
use Rattle.std.specs.Prelude.{ℕ, ◌+◌, ◌-◌, cond, List, ◌∷◌, ◌++◌, length, replicate, Some, None, codes, Option, nat_le, nat_lt, slice_set}
use Rattle.model.specs.Limits.{most_length, most_open, most_parts}
use Rattle.model.specs.declared.axis.Axis.{Axis}
use Rattle.model.specs.Grammar.{TestTree, star, name, PathTree, StepTree, OrChain, AndChain, Atom, one, slash, bare, held, ands, or, atom, and, along, parens, negate, path_text, or_text, and_text, atom_text}
use Rattle.grammar.specs.Joins.{by_and, by_or, Joins, no_join, joined, joins_text}
use Rattle.names.specs.Labels.{Labels}
use Rattle.reader.specs.declared.draft.Draft.{Draft}
use Rattle.table.specs.declared.part.Part.{Part}
use Rattle.table.specs.declared.part.Tag.{Tag}
use Rattle.table.specs.declared.part.Tag.TheVariants.{First, Any, Named, Filtered, Then, Along, And, Or, Not, Step}

abbrev pub part : Tag → ℕ → ℕ → Part
part tag i j = record { tag = tag; first = i; second = j }

abbrev pub started : Draft
started = record { parts = replicate most_parts (part First 0 0); used = 1; count = 0; unknown = None; depth = 0; deep = None }

-- a part is written where there is room
abbrev pub added : Part → Draft → Draft
added p d = cond (nat_lt d.used most_parts) (record { parts = slice_set d.parts d.used p; used = d.used + 1; count = d.count; unknown = d.unknown; depth = d.depth; deep = d.deep }) d

abbrev pub counted : Draft → Draft
counted d = record { parts = d.parts; used = d.used; count = cond (nat_le d.count most_length) (d.count + 1) d.count; unknown = d.unknown; depth = d.depth; deep = d.deep }

abbrev pub first_of : Option ℕ → ℕ → Option ℕ
first_of None left = Some left
first_of (Some u) left = Some u

abbrev pub noted : ℕ → Draft → Draft
noted left d = record { parts = d.parts; used = d.used; count = d.count; unknown = first_of d.unknown left; depth = d.depth; deep = d.deep }

-- "[" or "(", with so many bytes left after it: past the most, the first one is noted
abbrev pub entered : ℕ → Draft → Draft
entered left d = record { parts = d.parts; used = d.used; count = d.count; unknown = d.unknown; depth = cond (nat_lt d.depth most_open) (d.depth + 1) d.depth; deep = cond (nat_lt d.depth most_open) d.deep (first_of d.deep left) }

-- "]" or ")"
abbrev pub exited : Draft → Draft
exited d = record { parts = d.parts; used = d.used; count = d.count; unknown = d.unknown; depth = d.depth - 1; deep = d.deep }

-- the place of the part that was written last
abbrev pub root : Draft → ℕ
root d = d.used - 1

abbrev pub joined_to : Tag → ℕ → Draft → Draft
joined_to tag i d = added (part tag i (root d)) d

abbrev pub reached : Tag → Draft → Draft
reached tag d = added (part tag (root d) 0) d

abbrev pub closed : Option ℕ → Draft → Draft
closed None d = d
closed (Some left) d = joined_to Or left d

-- a name with its label, or an unknown one with what is left from it on
abbrev pub labelled : Option ℕ → ℕ → Draft → Draft
labelled (Some l) left d = added (part Named l 0) d
labelled None left d = noted left (added (part Named 0 0) d)

-- Each takes the labels, the tree, the text that follows the tree, and the draft before it.
abbrev pub test_drafted : Labels → TestTree → List ℕ → Draft → Draft
test_drafted labels star rest d = added (part Any 0 0) d
test_drafted labels (name bytes e) rest d = labelled (labels bytes) (length (bytes ++ rest)) d

abbrev pub step_axis : StepTree → Axis
step_axis (bare a x) = a
step_axis (held a x f) = a

-- a further part, joined with the last one before it
abbrev pub joining : Tag → (Draft → Draft) → Draft → Draft
joining tag further d = joined_to tag (root d) (further d)

-- what stands between brackets, by its text and the text that follows it
abbrev pub enclosed : List ℕ → (List ℕ → Draft → Draft) → List ℕ → Draft → Draft
enclosed text further rest d = exited (further rest (entered (length (text ++ rest)) d))

-- A step drafts what it asks of the element it keeps; a path in a filter is read from an element on.
abbrev mutual
  pub step_drafted : Labels → StepTree → List ℕ → Draft → Draft
  step_drafted labels (bare a x) rest d = test_drafted labels x rest (counted d)
  step_drafted labels (held a x f) rest d = joining Filtered (enclosed (or_text f) (or_drafted labels f) (93 ∷ rest)) (test_drafted labels x (91 ∷ (or_text f ++ (93 ∷ rest))) (counted d))

  pub path_drafted : Labels → PathTree → List ℕ → Draft → Draft
  path_drafted labels (one s) rest d = reached (Along (step_axis s)) (step_drafted labels s rest d)
  path_drafted labels (slash s p) rest d = reached (Along (step_axis s)) (joining Then (path_drafted labels p rest) (step_drafted labels s (47 ∷ (path_text p ++ rest)) d))

  pub or_drafted : Labels → OrChain → List ℕ → Draft → Draft
  or_drafted labels (ands x) rest d = and_drafted labels x rest d
  or_drafted labels (or f x) rest d = joining Or (λ (e : Draft). and_drafted labels x rest (counted e)) (or_drafted labels f (codes " or " ++ (and_text x ++ rest)) d)

  pub and_drafted : Labels → AndChain → List ℕ → Draft → Draft
  and_drafted labels (atom a) rest d = atom_drafted labels a rest d
  and_drafted labels (and x a) rest d = joining And (λ (e : Draft). atom_drafted labels a rest (counted e)) (and_drafted labels x (codes " and " ++ (atom_text a ++ rest)) d)

  pub atom_drafted : Labels → Atom → List ℕ → Draft → Draft
  atom_drafted labels (along p) rest d = path_drafted labels p rest d
  atom_drafted labels (parens f) rest d = enclosed (or_text f) (or_drafted labels f) (41 ∷ rest) d
  atom_drafted labels (negate f) rest d = reached Not (enclosed (or_text f) (or_drafted labels f) (41 ∷ rest) (counted d))

-- a step of the query's own path, joined with the query before it
abbrev pub linked : Axis → Draft → Draft → Draft
linked a before here = added (part (Step a) (root here) (root before)) here

abbrev pub spine_drafted : Labels → PathTree → List ℕ → Draft → Draft
spine_drafted labels (one s) rest d = linked (step_axis s) d (step_drafted labels s rest d)
spine_drafted labels (slash s p) rest d = spine_drafted labels p rest (linked (step_axis s) d (step_drafted labels s (47 ∷ (path_text p ++ rest)) d))

-- the joins after an atom; what waits at the left of an `or` is joined once its right side is complete
abbrev pub joins_drafted : Labels → Option ℕ → Joins → List ℕ → Draft → Draft
joins_drafted labels waiting no_join rest d = closed waiting d
joins_drafted labels waiting (joined by_and a j) rest d = joins_drafted labels waiting j rest (joining And (λ (e : Draft). atom_drafted labels a (joins_text j ++ rest) (counted e)) d)
joins_drafted labels waiting (joined by_or a j) rest d =
    joins_drafted labels (Some (root (closed waiting d))) j rest (atom_drafted labels a (joins_text j ++ rest) (counted (closed waiting d)))
