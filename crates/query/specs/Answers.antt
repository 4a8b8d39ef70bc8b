-- The answer to a query text: when it is accepted and what the table then holds, and otherwise the first fault that applies.
use Rattle.std.specs.Prelude.{◌≡◌, ℕ, ◌+◌, ◌-◌, ◌<◌, ◌≤◌, Bool, cond, ◌||◌, List, [], ◌∷◌, ◌++◌, length, take, drop, is_some, Some, None, Ok, Err, codes, Option, Result, ◌==◌, nat_le}
use Rattle.model.specs.Limits.{most_length, most_open, most_text, places}
use Rattle.model.specs.Query.{Path, path_length}
use Rattle.model.specs.Grammar.{TestTree, star, name, PathTree, StepTree, OrChain, AndChain, Atom, one, slash, bare, held, ands, or, atom, and, along, parens, negate, path_text, or_text, and_text, atom_text, Reads, Query, Breaks, path_meaning}
use Rattle.names.specs.Labels.{Labels}
use Rattle.query.specs.declared.QueryFault.{QueryFault}
use Rattle.query.specs.declared.QueryFault.TheVariants.{BadSize, Broken, TooDeep, TooLong, UnknownName, ShortTable, BadSheet}
use Rattle.query.specs.declared.QuerySize.{QuerySize}
use Rattle.table.specs.declared.part.Part.{Part}
use Rattle.table.specs.Lawful.{parts_in}
use Rattle.table.specs.Whole.{whole_reading}

pub record Sized (t : List ℕ) : Type 0 where
  pub some : 1 ≤ length t
  pub few : length t ≤ most_text

-- "[" or "(", and "]" or ")"
abbrev pub is_opening : ℕ → Bool
is_opening b = b == 91 || b == 40

abbrev pub is_closing : ℕ → Bool
is_closing b = b == 93 || b == 41

-- where one more than the most is open for the first time, in bytes from place p on with so many open before them
abbrev pub deep_after : ℕ → ℕ → List ℕ → Option ℕ
deep_after depth p [] = None
deep_after depth p (b ∷ t) =
    cond (is_opening b) (cond (nat_le most_open depth) (Some p) (deep_after (depth + 1) (p + 1) t)) (cond (is_closing b) (deep_after (depth - 1) (p + 1) t) (deep_after depth (p + 1) t))

abbrev pub deep_place : List ℕ → Option ℕ
deep_place t = deep_after 0 0 t

-- Each name of a tree in the order of its text, with the text from there on; `rest` is the text that follows the tree.
abbrev pub test_names : TestTree → List ℕ → List (List ℕ × List ℕ)
test_names star rest = []
test_names (name bytes e) rest = (bytes, bytes ++ rest) ∷ []

abbrev mutual
  pub path_names : PathTree → List ℕ → List (List ℕ × List ℕ)
  path_names (one s) rest = step_names s rest
  path_names (slash s p) rest = step_names s (47 ∷ (path_text p ++ rest)) ++ path_names p rest

  pub step_names : StepTree → List ℕ → List (List ℕ × List ℕ)
  step_names (bare a x) rest = test_names x rest
  step_names (held a x f) rest = test_names x (91 ∷ (or_text f ++ (93 ∷ rest))) ++ or_names f (93 ∷ rest)

  pub or_names : OrChain → List ℕ → List (List ℕ × List ℕ)
  or_names (ands x) rest = and_names x rest
  or_names (or f x) rest = or_names f (codes " or " ++ (and_text x ++ rest)) ++ and_names x rest

  pub and_names : AndChain → List ℕ → List (List ℕ × List ℕ)
  and_names (atom a) rest = atom_names a rest
  and_names (and x a) rest = and_names x (codes " and " ++ (atom_text a ++ rest)) ++ atom_names a rest

  pub atom_names : Atom → List ℕ → List (List ℕ × List ℕ)
  atom_names (along p) rest = path_names p rest
  atom_names (parens f) rest = or_names f (41 ∷ rest)
  atom_names (negate f) rest = or_names f (41 ∷ rest)

-- how many bytes are left from the first name on that has no label
abbrev pub first_unknown : Labels → List (List ℕ × List ℕ) → Option ℕ
first_unknown labels [] = None
first_unknown labels (n ∷ ns) = cond (is_some (labels n.0)) (first_unknown labels ns) (Some (length n.1))

abbrev pub unknown_left : Labels → PathTree → Option ℕ
unknown_left labels tree = first_unknown labels (path_names tree [])

abbrev pub or_zero : Option ℕ → ℕ
or_zero None = 0
or_zero (Some l) = l

-- the query of a tree, by the labels of its names
abbrev pub meaning : Labels → PathTree → Path
meaning labels tree = path_meaning (λ n. or_zero (labels n)) tree

abbrev pub length_of : Labels → PathTree → ℕ
length_of labels tree = path_length (meaning labels tree)

-- the text is that of the tree, and neither too long nor too deep
pub record Sound (t : List ℕ) (tree : PathTree) : Type 0 where
  pub sized : Sized t
  pub reads : Reads t tree
  pub shallow : deep_place t ≡ None

-- the text is a query and within all limits, and so many places are room for it
pub record Fits (t : List ℕ) (labels : Labels) (n : ℕ) : Type 0 where
  pub tree : PathTree
  pub sound : Sound t tree
  pub short : length_of labels tree ≤ most_length
  pub known : unknown_left labels tree ≡ None
  pub room : places (length_of labels tree) ≤ n

-- The text fits, and its size is told: its length, and in how many first places of the table its query stands. Past them the table is as it was.
pub record Accepted (t : List ℕ) (labels : Labels) (old new : List Part) (size : QuerySize) : Type 0 where
  pub fits : Fits t labels (length old)
  pub length_is : size.steps ≡ length_of labels fits.tree
  pub few : size.places ≤ places size.steps
  pub holds : whole_reading (take size.places new) ≡ meaning labels fits.tree
  pub kept : drop size.places new ≡ drop size.places old

-- The faults in their order; each presupposes that none before it applies. A sheet is judged before any text.
abbrev pub Refused : List ℕ → Labels → ℕ → QueryFault → Type 0
Refused t labels n (BadSheet f) = ⊥
Refused t labels n BadSize = Sized t → ⊥
Refused t labels n (Broken p) = Sized t × Breaks t p
Refused t labels n (TooDeep p) = Sized t × Query t × (deep_place t ≡ Some p)
Refused t labels n TooLong = (tree : PathTree) × Sound t tree × (most_length < length_of labels tree)
Refused t labels n (UnknownName p) = (tree : PathTree) × Sound t tree × (length_of labels tree ≤ most_length) × ((left : ℕ) × (unknown_left labels tree ≡ Some left) × (p ≡ length t - left))
Refused t labels n ShortTable = (tree : PathTree) × Sound t tree × (length_of labels tree ≤ most_length) × (unknown_left labels tree ≡ None) × (n < places (length_of labels tree))

-- The answer to a text: its size, and then the part in the first place names the last; or the first fault that applies, and then the table is as it was.
abbrev pub Answered : List ℕ → Labels → List Part → List Part → Result QuerySize QueryFault → Type 0
Answered t labels old new (Ok size) = Accepted t labels old new size × (parts_in new ≡ size.places)
Answered t labels old new (Err f) = (new ≡ old) × Refused t labels (length old) f

-- An answer without the places: they follow from the table.
abbrev pub steps_of : Result QuerySize QueryFault → Result ℕ QueryFault
steps_of (Ok size) = Ok size.steps
steps_of (Err f) = Err f
