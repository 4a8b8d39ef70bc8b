-- Chains as they are read: a first part and what follows it, from left to right.
use Rattle.std.proofs.Common.{◌≡◌, ℕ, List, [], ◌∷◌, ◌++◌, codes, sym, refl, ◌∙◌, append_assoc, append-nil}
use Rattle.model.specs.Grammar.{axis_text, TestTree, test_text, PathTree, StepTree, OrChain, AndChain, Atom, one, slash, bare, ands, or, and, path_text, step_text, or_text, and_text, atom_text}
use Rattle.model.specs.Grammar as g
use Rattle.grammar.specs.Joins.{Join, by_and, by_or, Joins, no_join, joined, word, joins_text}
use Rattle.model.specs.declared.axis.Axis.{Axis}

-- what may follow a step in its path, an atom in its filter, and a test in its step
pub data Tail : Type 0 where
  no_tail : Tail
  tail : PathTree → Tail

pub data Hold : Type 0 where
  no_hold : Hold
  hold : OrChain → Hold

abbrev pub tail_text : Tail → List ℕ
tail_text no_tail = []
tail_text (tail p) = 47 ∷ path_text p

abbrev pub hold_text : Hold → List ℕ
hold_text no_hold = []
hold_text (hold f) = 91 ∷ (or_text f ++ (93 ∷ []))

abbrev pub mk_step : Axis → TestTree → Hold → StepTree
mk_step a x no_hold = bare a x
mk_step a x (hold f) = g.held a x f

abbrev pub mk_path : StepTree → Tail → PathTree
mk_path s no_tail = one s
mk_path s (tail p) = slash s p

-- one more atom at the right
abbrev pub extend : OrChain → Join → Atom → OrChain
extend o by_or a = or o (g.atom a)
extend (ands x) by_and a = ands (and x a)
extend (or o x) by_and a = or o (and x a)

abbrev pub mk_ors : OrChain → Joins → OrChain
mk_ors o no_join = o
mk_ors o (joined w a j) = mk_ors (extend o w a) j

pub extend_is : (o : OrChain) (w : Join) (a : Atom) → or_text (extend o w a) ≡ or_text o ++ (32 ∷ (word w ++ atom_text a))
extend_is o by_or a = refl
extend_is (ands x) by_and a = refl
extend_is (or o x) by_and a = sym (append_assoc (or_text o) (codes " or " ++ and_text x) (codes " and " ++ atom_text a))

pub ors_is : (o : OrChain) (j : Joins) → or_text (mk_ors o j) ≡ or_text o ++ joins_text j
ors_is o no_join = sym (append-nil (or_text o))
ors_is o (joined w a j) =
    cc (ors_is (extend o w a) j, extend_is o w a, append_assoc (or_text o) (32 ∷ (word w ++ atom_text a)) (joins_text j), append_assoc (word w) (atom_text a) (joins_text j))

pub step_is : (a : Axis) (x : TestTree) (h : Hold) → step_text (mk_step a x h) ≡ axis_text a ++ (test_text x ++ hold_text h)
step_is a x no_hold = cc (append-nil (test_text x))
step_is a x (hold f) = refl

pub path_is : (s : StepTree) (t : Tail) → path_text (mk_path s t) ≡ step_text s ++ tail_text t
path_is s no_tail = sym (append-nil (step_text s))
path_is s (tail p) = refl

-- A chain's first atom, and the joins that follow it before those of j.
abbrev pub first_of_ands : AndChain → Atom
first_of_ands (g.atom a) = a
first_of_ands (and x a) = first_of_ands x

abbrev pub joins_of_ands : AndChain → Joins → Joins
joins_of_ands (g.atom a) j = j
joins_of_ands (and x a) j = joins_of_ands x (joined by_and a j)

abbrev pub first_of : OrChain → Atom
first_of (ands x) = first_of_ands x
first_of (or f x) = first_of f

abbrev pub joins_of : OrChain → Joins → Joins
joins_of (ands x) j = joins_of_ands x j
joins_of (or f x) j = joins_of f (joined by_or (first_of_ands x) (joins_of_ands x j))

ands_again : (x : AndChain) (j : Joins) → mk_ors (ands (g.atom (first_of_ands x))) (joins_of_ands x j) ≡ mk_ors (ands x) j
ands_again (g.atom a) j = refl
ands_again (and x a) j = ands_again x (joined by_and a j)

or_again : (f : OrChain) (x : AndChain) (j : Joins) → mk_ors (or f (g.atom (first_of_ands x))) (joins_of_ands x j) ≡ mk_ors (or f x) j
or_again f (g.atom a) j = refl
or_again f (and x a) j = or_again f x (joined by_and a j)

-- The first atom and the joins make the chain again.
pub chain_again : (f : OrChain) (j : Joins) → mk_ors (ands (g.atom (first_of f))) (joins_of f j) ≡ mk_ors f j
chain_again (ands x) j = ands_again x j
chain_again (or f x) j = chain_again f (joined by_or (first_of_ands x) (joins_of_ands x j)) ∙ or_again f x j

pub chain_text : (f : OrChain) → or_text f ≡ atom_text (first_of f) ++ joins_text (joins_of f no_join)
chain_text f = cc (chain_again f no_join, ors_is (ands (g.atom (first_of f))) (joins_of f no_join))
