-- The grammar of query texts: the trees, the text of each, what a text breaks, and what a tree means.
use Rattle.std.specs.Prelude.{◌≡◌, ℕ, true, List, ◌++◌, codes}
use Rattle.model.specs.declared.axis.Axis.{Axis}
use Rattle.model.specs.declared.axis.Axis.TheVariants.{Itself, Child, Parent, Descendant, Ancestor, DescendantOrSelf, AncestorOrSelf, FollowingSibling, PrecedingSibling, Following, Preceding}
use Rattle.model.specs.Names.{is_name}
use Rattle.model.specs.Places.{BeginsIn, BreaksIn}
use Rattle.model.specs.Query.{Test, any, named, Path, last, then, Step, plain, filtered, Filter, holds, both, either, negated}

-- an axis as it stands before its test
abbrev pub axis_text : Axis → List ℕ
axis_text Itself = codes "self::"
axis_text Child = codes "child::"
axis_text Parent = codes "parent::"
axis_text Descendant = codes "descendant::"
axis_text Ancestor = codes "ancestor::"
axis_text DescendantOrSelf = codes "descendant-or-self::"
axis_text AncestorOrSelf = codes "ancestor-or-self::"
axis_text FollowingSibling = codes "following-sibling::"
axis_text PrecedingSibling = codes "preceding-sibling::"
axis_text Following = codes "following::"
axis_text Preceding = codes "preceding::"

-- "*" or a name
pub data TestTree : Type 0 where
  star : TestTree
  name : (bytes : List ℕ) → is_name bytes ≡ true → TestTree

-- Chains are nested to the left, and `and` binds tighter than `or`: an or-chain joins and-chains, which join atoms.
mutual
  pub data PathTree : Type 0 where
    one : StepTree → PathTree
    slash : StepTree → PathTree → PathTree

  pub data StepTree : Type 0 where
    bare : Axis → TestTree → StepTree
    held : Axis → TestTree → OrChain → StepTree

  pub data OrChain : Type 0 where
    ands : AndChain → OrChain
    or : OrChain → AndChain → OrChain

  pub data AndChain : Type 0 where
    atom : Atom → AndChain
    and : AndChain → Atom → AndChain

  pub data Atom : Type 0 where
    along : PathTree → Atom
    parens : OrChain → Atom
    negate : OrChain → Atom

abbrev pub test_text : TestTree → List ℕ
test_text star = codes "*"
test_text (name bytes e) = bytes

abbrev mutual
  pub path_text : PathTree → List ℕ
  path_text (one s) = step_text s
  path_text (slash s p) = step_text s ++ (codes "/" ++ path_text p)

  pub step_text : StepTree → List ℕ
  step_text (bare a x) = axis_text a ++ test_text x
  step_text (held a x f) = axis_text a ++ (test_text x ++ (codes "[" ++ (or_text f ++ codes "]")))

  pub or_text : OrChain → List ℕ
  or_text (ands x) = and_text x
  or_text (or f x) = or_text f ++ (codes " or " ++ and_text x)

  pub and_text : AndChain → List ℕ
  and_text (atom a) = atom_text a
  and_text (and x a) = and_text x ++ (codes " and " ++ atom_text a)

  pub atom_text : Atom → List ℕ
  atom_text (along p) = path_text p
  atom_text (parens f) = codes "(" ++ (or_text f ++ codes ")")
  atom_text (negate f) = codes "not(" ++ (or_text f ++ codes ")")

abbrev pub query_text : PathTree → List ℕ
query_text p = codes "/" ++ path_text p

-- the text is that of the tree
abbrev pub Reads : List ℕ → PathTree → Type 0
Reads t p = t ≡ query_text p

abbrev pub Query : List ℕ → Type 0
Query t = (p : PathTree) × Reads t p

-- the bytes begin some query, of any length and depth
abbrev pub Begins : List ℕ → Type 0
Begins t = BeginsIn Query t

-- The text is no query, and the place is the least p whose first p + 1 bytes begin no query, else the text's length.
abbrev pub Breaks : List ℕ → ℕ → Type 0
Breaks t p = BreaksIn Query t p

-- What a tree means, given the label of each name. Parentheses only group.
abbrev pub test_meaning : (List ℕ → ℕ) → TestTree → Test
test_meaning label star = any
test_meaning label (name bytes e) = named (label bytes)

abbrev mutual
  pub path_meaning : (List ℕ → ℕ) → PathTree → Path
  path_meaning label (one s) = last (step_meaning label s)
  path_meaning label (slash s p) = then (step_meaning label s) (path_meaning label p)

  pub step_meaning : (List ℕ → ℕ) → StepTree → Step
  step_meaning label (bare a x) = plain a (test_meaning label x)
  step_meaning label (held a x f) = filtered a (test_meaning label x) (or_meaning label f)

  pub or_meaning : (List ℕ → ℕ) → OrChain → Filter
  or_meaning label (ands x) = and_meaning label x
  or_meaning label (or f x) = either (or_meaning label f) (and_meaning label x)

  pub and_meaning : (List ℕ → ℕ) → AndChain → Filter
  and_meaning label (atom a) = atom_meaning label a
  and_meaning label (and x a) = both (and_meaning label x) (atom_meaning label a)

  pub atom_meaning : (List ℕ → ℕ) → Atom → Filter
  atom_meaning label (along p) = holds (path_meaning label p)
  atom_meaning label (parens f) = or_meaning label f
  atom_meaning label (negate f) = negated (or_meaning label f)
