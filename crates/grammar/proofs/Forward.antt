-- Forward: the text of each tree runs through the machine, inside whatever is open.
use Rattle.std.proofs.Common.{◌≡◌, ℕ, zero, suc, true, false, eqb, List, [], ◌∷◌, ◌++◌, length, get_or, codes, sym, refl, ap, ◌∙◌, append_assoc}
use Rattle.std.proofs.lemmas.Bool.{ne_eqb, and_parts, false≢true}
use Rattle.model.specs.Names.{is_letter, is_name_byte, are_name_bytes}
use Rattle.model.specs.Grammar.{axis_text, TestTree, star, test_text, PathTree, StepTree, OrChain, AndChain, Atom, one, slash, bare, ands, or, and, along, parens, negate, path_text, step_text, or_text, and_text, atom_text}
use Rattle.model.specs.Grammar as g
use Rattle.model.specs.declared.axis.Axis.{Axis}
use Rattle.model.specs.declared.axis.Axis.TheVariants.{Itself, Child, Parent, DescendantOrSelf, AncestorOrSelf, Descendant, Ancestor, FollowingSibling, PrecedingSibling, Following, Preceding}
use Rattle.grammar.specs.Machines.{Next, dead, go, Out, stops}
use Rattle.grammar.specs.Machine.{Frame, bracket, paren, State, axis, test, name, held, step, done, atom, run}

abbrev pub go_on : List ℕ → Next State → Out
go_on t dead = stops (suc (length t))
go_on t (go s) = run s t

-- the first byte is not this one
abbrev pub No : List ℕ → ℕ → Type 0
No t b = eqb (get_or t 0 0) b ≡ false

abbrev pub NoName : List ℕ → Type 0
NoName t = is_name_byte (get_or t 0 0) ≡ false

pub no_held : (fs : List Frame) (t : List ℕ) → No t 91 → run (held fs) t ≡ run (step fs) t
no_held fs [] n = refl
no_held fs (x ∷ xs) n = cc

pub no_more : (fs : List Frame) (t : List ℕ) → No t 47 → run (step fs) t ≡ run (done fs) t
no_more fs [] n = refl
no_more fs (x ∷ xs) n = cc

pub no_name : (k : ℕ) (fs : List Frame) (t : List ℕ) → NoName t → run (name k fs) t ≡ run (held fs) t
no_name k fs [] n = refl
no_name k fs (x ∷ xs) n = cc

pub axis_runs : (a : Axis) (fs : List Frame) (t : List ℕ) → run (axis fs) (axis_text a ++ t) ≡ run (test fs) t
axis_runs Itself fs t = refl
axis_runs Child fs t = refl
axis_runs Parent fs t = refl
axis_runs Descendant fs t = refl
axis_runs Ancestor fs t = refl
axis_runs DescendantOrSelf fs t = refl
axis_runs AncestorOrSelf fs t = refl
axis_runs FollowingSibling fs t = refl
axis_runs PrecedingSibling fs t = refl
axis_runs Following fs t = refl
axis_runs Preceding fs t = refl

-- an axis begins with neither "(" nor "n"
pub axis_as_atom : (a : Axis) (fs : List Frame) (t : List ℕ) → run (atom fs) (axis_text a ++ t) ≡ run (axis fs) (axis_text a ++ t)
axis_as_atom Itself fs t = refl
axis_as_atom Child fs t = refl
axis_as_atom Parent fs t = refl
axis_as_atom Descendant fs t = refl
axis_as_atom Ancestor fs t = refl
axis_as_atom DescendantOrSelf fs t = refl
axis_as_atom AncestorOrSelf fs t = refl
axis_as_atom FollowingSibling fs t = refl
axis_as_atom PrecedingSibling fs t = refl
axis_as_atom Following fs t = refl
axis_as_atom Preceding fs t = refl

as_axis : (a : Axis) (fs : List Frame) (u t : List ℕ) → run (atom fs) ((axis_text a ++ u) ++ t) ≡ run (axis fs) ((axis_text a ++ u) ++ t)
as_axis a fs u t = rw (append_assoc (axis_text a) u t) (axis_as_atom a fs (u ++ t))

pub name_runs : (k : ℕ) (u : List ℕ) (fs : List Frame) (t : List ℕ) → are_name_bytes k u ≡ true → NoName t → run (name k fs) (u ++ t) ≡ run (held fs) t
name_runs k [] fs t e n = no_name k fs t n
name_runs zero (b ∷ u) fs t e n = absurd (false≢true e)
name_runs (suc k) (b ∷ u) fs t e n =
    let p = and_parts (is_name_byte b) (are_name_bytes k u) e in
    cc (p.0, name_runs k u fs t p.1 n)

no_star : (b : ℕ) → is_letter b ≡ true → eqb b 42 ≡ false
no_star b e = ne_eqb b 42 (λ q. false≢true (sym (ap is_letter q) ∙ e))

test_runs : (x : TestTree) (fs : List Frame) (t : List ℕ) → NoName t → run (test fs) (test_text x ++ t) ≡ run (held fs) t
test_runs star fs t n = refl
test_runs (g.name [] e) fs t n = absurd (false≢true e)
test_runs (g.name (b ∷ u) e) fs t n =
    let p = and_parts (is_letter b) (are_name_bytes 23 u) e in
    cc (no_star b p.0, p.0, name_runs 23 u fs t p.1 n)

path_as_atom : (p : PathTree) (fs : List Frame) (t : List ℕ) → run (atom fs) (path_text p ++ t) ≡ run (axis fs) (path_text p ++ t)
path_as_atom (one (bare a x)) fs t = as_axis a fs (test_text x) t
path_as_atom (one (g.held a x f)) fs t = as_axis a fs (test_text x ++ (91 ∷ (or_text f ++ (93 ∷ [])))) t
path_as_atom (slash (bare a x) p) fs t = rw (append_assoc (axis_text a) (test_text x) (47 ∷ path_text p)) (as_axis a fs (test_text x ++ (47 ∷ path_text p)) t)
path_as_atom (slash (g.held a x f) p) fs t =
    rw (append_assoc (axis_text a) (test_text x ++ (91 ∷ (or_text f ++ (93 ∷ [])))) (47 ∷ path_text p)) (as_axis a fs ((test_text x ++ (91 ∷ (or_text f ++ (93 ∷ [])))) ++ (47 ∷ path_text p)) t)

pub held_assoc : (x y f t : List ℕ) → (x ++ (y ++ (91 ∷ (f ++ (93 ∷ []))))) ++ t ≡ x ++ (y ++ (91 ∷ (f ++ (93 ∷ t))))
held_assoc x y f t = simp append_assoc

mutual
  pub path_runs : (p : PathTree) (fs : List Frame) (t : List ℕ) → NoName t → No t 91 → No t 47 → run (axis fs) (path_text p ++ t) ≡ run (done fs) t
  path_runs (one s) fs t k m n = step_runs s fs t k m ∙ no_more fs t n
  path_runs (slash s p) fs t k m n =
      rw append_assoc (step_runs s fs (47 ∷ (path_text p ++ t)) refl refl ∙ path_runs p fs t k m n)

  step_runs : (s : StepTree) (fs : List Frame) (t : List ℕ) → NoName t → No t 91 → run (axis fs) (step_text s ++ t) ≡ run (step fs) t
  step_runs (bare a x) fs t k m = rw append_assoc (axis_runs a fs (test_text x ++ t) ∙ test_runs x fs t k ∙ no_held fs t m)
  step_runs (g.held a x f) fs t k m =
      rw held_assoc (axis_runs a fs (test_text x ++ (91 ∷ (or_text f ++ (93 ∷ t)))) ∙ test_runs x fs (91 ∷ (or_text f ++ (93 ∷ t))) refl ∙ ors_runs f bracket fs (93 ∷ t) refl refl refl)

  ors_runs : (o : OrChain) (f : Frame) (fs : List Frame) (t : List ℕ) → NoName t → No t 91 → No t 47 → run (atom (f ∷ fs)) (or_text o ++ t) ≡ run (done (f ∷ fs)) t
  ors_runs (ands a) f fs t k m n = ands_runs a f fs t k m n
  ors_runs (or o a) f fs t k m n =
      rw append_assoc (ors_runs o f fs (codes " or " ++ (and_text a ++ t)) refl refl refl ∙ ands_runs a f fs t k m n)

  ands_runs : (x : AndChain) (f : Frame) (fs : List Frame) (t : List ℕ) → NoName t → No t 91 → No t 47 → run (atom (f ∷ fs)) (and_text x ++ t) ≡ run (done (f ∷ fs)) t
  ands_runs (g.atom a) f fs t k m n = atom_runs a (f ∷ fs) t k m n
  ands_runs (and x a) f fs t k m n =
      rw append_assoc (ands_runs x f fs (codes " and " ++ (atom_text a ++ t)) refl refl refl ∙ atom_runs a (f ∷ fs) t k m n)

  atom_runs : (a : Atom) (fs : List Frame) (t : List ℕ) → NoName t → No t 91 → No t 47 → run (atom fs) (atom_text a ++ t) ≡ run (done fs) t
  atom_runs (along p) fs t k m n = path_as_atom p fs t ∙ path_runs p fs t k m n
  atom_runs (parens f) fs t k m n = rw (append_assoc (or_text f) (41 ∷ []) t) (ors_runs f paren fs (41 ∷ t) refl refl refl)
  atom_runs (negate f) fs t k m n = rw (append_assoc (or_text f) (41 ∷ []) t) (ors_runs f paren fs (41 ∷ t) refl refl refl)
