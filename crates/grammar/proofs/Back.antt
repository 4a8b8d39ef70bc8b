-- Back: what the machine takes is the text of a tree.
use Rattle.std.proofs.Common.{◌≡◌, ℕ, zero, suc, Bool, true, false, cond, eqb, ◌⊎◌, List, [], ◌∷◌, ◌++◌, codes, sym, refl, ◌∙◌, inl, inr, append_assoc, append-nil, eqb-true}
use Rattle.model.specs.Names.{is_letter, is_name_byte, are_name_bytes}
use Rattle.model.specs.Grammar.{axis_text, TestTree, star, test_text, PathTree, Atom, ands, and, along, parens, negate, path_text, or_text, atom_text, Query}
use Rattle.model.specs.Grammar as g
use Rattle.model.specs.declared.axis.Axis.{Axis}
use Rattle.model.specs.declared.axis.Axis.TheVariants.{Itself, Child, Parent, DescendantOrSelf, AncestorOrSelf, Descendant, Ancestor, FollowingSibling, PrecedingSibling, Following, Preceding}
use Rattle.grammar.specs.Machines.{Next, dead, go, taken}
use Rattle.grammar.specs.Machine.{Frame, bracket, paren, State, lit, axis, or_self, or_sibling, after_p, test, name, held, step, done, joint, atom, shut, lits, on_shut, on_done, on_step, on_held, on_name, on_axis, on, run, begin}
use Rattle.grammar.proofs.Stopping.{clash}
use Rattle.grammar.proofs.Forward.{go_on}
use Rattle.grammar.specs.Joins.{Join, by_and, by_or, Joins, no_join, joined, word, joins_text}
use Rattle.grammar.proofs.Chains.{Tail, no_tail, tail, Hold, no_hold, hold, tail_text, hold_text, mk_step, mk_path, mk_ors, ors_is, step_is, path_is}

-- the texts that a state may still take, in the grammar's words
abbrev LDone : List Frame → List ℕ → Type 0
LDone [] t = t ≡ []
LDone (bracket ∷ fs) t = (j : Joins) × (l : Tail) × (v : List ℕ) × (t ≡ joins_text j ++ (93 ∷ (tail_text l ++ v))) × LDone fs v
LDone (paren ∷ fs) t = (j : Joins) × (v : List ℕ) × (t ≡ joins_text j ++ (41 ∷ v)) × LDone fs v

abbrev LShut : List Frame → List ℕ → Type 0
LShut [] t = t ≡ []
LShut (bracket ∷ fs) t = (l : Tail) × (v : List ℕ) × (t ≡ 93 ∷ (tail_text l ++ v)) × LDone fs v
LShut (paren ∷ fs) t = (v : List ℕ) × (t ≡ 41 ∷ v) × LDone fs v

abbrev LStep : List Frame → List ℕ → Type 0
LStep fs t = (l : Tail) × (v : List ℕ) × (t ≡ tail_text l ++ v) × LDone fs v

abbrev LHeld : List Frame → List ℕ → Type 0
LHeld fs t = (h : Hold) × (v : List ℕ) × (t ≡ hold_text h ++ v) × LStep fs v

abbrev LTest : List Frame → List ℕ → Type 0
LTest fs t = (x : TestTree) × (v : List ℕ) × (t ≡ test_text x ++ v) × LHeld fs v

abbrev LAtom : List Frame → List ℕ → Type 0
LAtom fs t = (a : Atom) × (v : List ℕ) × (t ≡ atom_text a ++ v) × LDone fs v

abbrev Left : State → List ℕ → Type 0
Left (lit c w s) t = (v : List ℕ) × (t ≡ c ∷ (w ++ v)) × Left s v
Left (axis fs) t = (p : PathTree) × (v : List ℕ) × (t ≡ path_text p ++ v) × LDone fs v
Left (or_self fs) t = (v : List ℕ) × ((t ≡ codes "::" ++ v) ⊎ (t ≡ codes "-or-self::" ++ v)) × LTest fs v
Left (or_sibling fs) t = (v : List ℕ) × ((t ≡ codes "::" ++ v) ⊎ (t ≡ codes "-sibling::" ++ v)) × LTest fs v
Left (after_p fs) t = (v : List ℕ) × ((t ≡ codes "arent::" ++ v) ⊎ ((t ≡ codes "receding::" ++ v) ⊎ (t ≡ codes "receding-sibling::" ++ v))) × LTest fs v
Left (test fs) t = LTest fs t
Left (name n fs) t = (u : List ℕ) × (are_name_bytes n u ≡ true) × (v : List ℕ) × (t ≡ u ++ v) × LHeld fs v
Left (held fs) t = LHeld fs t
Left (step fs) t = LStep fs t
Left (done fs) t = LDone fs t
Left (joint fs) t = (w : Join) × (v : List ℕ) × (t ≡ word w ++ v) × LAtom fs v
Left (atom fs) t = LAtom fs t
Left (shut fs) t = LShut fs t

abbrev Sound : State → ℕ → List ℕ → Next State → Type 0
Sound s b t dead = Unit {0}
Sound s b t (go r) = Left r t → Left s (b ∷ t)

if : (s : State) (b : ℕ) (t : List ℕ) (c : Bool) (x y : Next State) → (c ≡ true → Sound s b t x) → Sound s b t y → Sound s b t (cond c x y)
if s b t true x y p q = p refl
if s b t false x y p q = q

cons : (b c : ℕ) (t u : List ℕ) → eqb b c ≡ true → t ≡ u → b ∷ t ≡ c ∷ u
cons b c t u e h = let k = eqb-true b c e in cc

left_lits : (w : List ℕ) (s : State) (t : List ℕ) → Left (lits w s) t → (v : List ℕ) × (t ≡ w ++ v) × Left s v
left_lits [] s t x = (t, refl, x)
left_lits (c ∷ w) s t x = x

-- an axis, and what follows it
path_from : (a : Axis) (fs : List Frame) (t v : List ℕ) → t ≡ axis_text a ++ v → LTest fs v → Left (axis fs) t
path_from a fs t v e (x, v1, e1, (h, v2, e2, (l, v3, e3, d))) = (
  mk_path (mk_step a x h) l,
  v3,
  cc (regroup (axis_text a) (test_text x) (hold_text h) (tail_text l) v3, path_is (mk_step a x h) l, step_is a x h),
  d,
)
  where
    regroup : (p q r s u : List ℕ) → p ++ (q ++ (r ++ (s ++ u))) ≡ ((p ++ (q ++ r)) ++ s) ++ u
    regroup p q r s u = sym (simp append_assoc)

-- the filter that an atom and its joins make, closed by a byte
shuts : (c : ℕ) (a : Atom) (j : Joins) (t v w : List ℕ) → t ≡ atom_text a ++ v → v ≡ joins_text j ++ (c ∷ w) → t ≡ or_text (mk_ors (ands (g.atom a)) j) ++ (c ∷ w)
shuts c a j t v w e h =
    cc (append_assoc (atom_text a) (joins_text j) (c ∷ w), ors_is (ands (g.atom a)) j)

-- a byte, a word and what stood after it
after : (b c : ℕ) (w : List ℕ) (t v u : List ℕ) → eqb b c ≡ true → t ≡ w ++ v → v ≡ u → b ∷ t ≡ c ∷ (w ++ u)
after b c w t v u e h k = cons b c t (w ++ u) e (cc)

on_axis_lem : (fs : List Frame) (b : ℕ) (t : List ℕ) → Sound (axis fs) b t (on_axis fs b)
on_axis_lem fs b t =
    if (axis fs) b t (eqb b 115) _ _ (λ e x. let y = left_lits (codes "elf::") (test fs) t x in path_from Itself fs (b ∷ t) y.0 (cons b 115 _ _ e y.1) y.2)
    (if (axis fs) b t (eqb b 99) _ _ (λ e x. let y = left_lits (codes "hild::") (test fs) t x in path_from Child fs (b ∷ t) y.0 (cons b 99 _ _ e y.1) y.2)
    (if (axis fs) b t (eqb b 112) _ _
    (λ e x. elim x.1 [ inl k ↦ path_from Parent fs (b ∷ t) x.0 (cons b 112 _ _ e k) x.2 | inr z ↦ elim z [ inl k ↦ path_from Preceding fs (b ∷ t) x.0 (cons b 112 _ _ e k) x.2 | inr k ↦ path_from PrecedingSibling fs (b ∷ t) x.0 (cons b 112 _ _ e k) x.2 ] ])
    (if (axis fs) b t (eqb b 100) _ _
    (λ e x. let y = left_lits (codes "escendant") (or_self fs) t x in elim y.2.1 [ inl k ↦ path_from Descendant fs (b ∷ t) y.2.0 (after b 100 (codes "escendant") t y.0 _ e y.1 k) y.2.2 | inr k ↦ path_from DescendantOrSelf fs (b ∷ t) y.2.0 (after b 100 (codes "escendant") t y.0 _ e y.1 k) y.2.2 ])
    (if (axis fs) b t (eqb b 97) _ _
    (λ e x. let y = left_lits (codes "ncestor") (or_self fs) t x in elim y.2.1 [ inl k ↦ path_from Ancestor fs (b ∷ t) y.2.0 (after b 97 (codes "ncestor") t y.0 _ e y.1 k) y.2.2 | inr k ↦ path_from AncestorOrSelf fs (b ∷ t) y.2.0 (after b 97 (codes "ncestor") t y.0 _ e y.1 k) y.2.2 ])
    (if (axis fs) b t (eqb b 102) _ _
    (λ e x. let y = left_lits (codes "ollowing") (or_sibling fs) t x in elim y.2.1 [ inl k ↦ path_from Following fs (b ∷ t) y.2.0 (after b 102 (codes "ollowing") t y.0 _ e y.1 k) y.2.2 | inr k ↦ path_from FollowingSibling fs (b ∷ t) y.2.0 (after b 102 (codes "ollowing") t y.0 _ e y.1 k) y.2.2 ])
    tt)))))

on_shut_lem : (fs : List Frame) (b : ℕ) (t : List ℕ) → Sound (shut fs) b t (on_shut fs b)
on_shut_lem [] b t = tt
on_shut_lem (bracket ∷ fs) b t = if (shut (bracket ∷ fs)) b t (eqb b 93) (go (step fs)) dead (λ e x. (x.0, x.1, cons b 93 _ _ e x.2, x.3)) tt
on_shut_lem (paren ∷ fs) b t = if (shut (paren ∷ fs)) b t (eqb b 41) (go (done fs)) dead (λ e x. (t, cons b 41 _ _ e refl, x)) tt

lift_done : (f : Frame) (fs : List Frame) (b : ℕ) (t : List ℕ) (n : Next State) → Sound (shut (f ∷ fs)) b t n → Sound (done (f ∷ fs)) b t n
lift_done f fs b t dead s = tt
lift_done bracket fs b t (go r) s = λ x. let y = s x in (no_join, y.0, y.1, y.2, y.3)
lift_done paren fs b t (go r) s = λ x. let y = s x in (no_join, y.0, y.1, y.2)

-- a join word, its atom and the joins after it
rejoin : (w : Join) (a : Atom) (j : Joins) (b : ℕ) (t v v1 z : List ℕ) → eqb b 32 ≡ true → t ≡ word w ++ v → v ≡ atom_text a ++ v1 → v1 ≡ joins_text j ++ z → b ∷ t ≡ joins_text (joined w a j) ++ z
rejoin w a j b t v v1 z e h k m =
    cc (eqb-true b 32 e, append_assoc (atom_text a) (joins_text j) z, append_assoc (word w) (atom_text a ++ joins_text j) z)

on_done_lem : (fs : List Frame) (b : ℕ) (t : List ℕ) → Sound (done fs) b t (on_done fs b)
on_done_lem [] b t = tt
on_done_lem (bracket ∷ fs) b t =
    if (done (bracket ∷ fs)) b t (eqb b 32) (go (joint (bracket ∷ fs))) (on_shut (bracket ∷ fs) b)
    (λ e x. let a = x.3 in let y = a.3 in (joined x.0 a.0 y.0, y.1, y.2, rejoin x.0 a.0 y.0 b t x.1 a.1 (93 ∷ (tail_text y.1 ++ y.2)) e x.2 a.2 y.3, y.4))
    (lift_done bracket fs b t (on_shut (bracket ∷ fs) b) (on_shut_lem (bracket ∷ fs) b t))
on_done_lem (paren ∷ fs) b t =
    if (done (paren ∷ fs)) b t (eqb b 32) (go (joint (paren ∷ fs))) (on_shut (paren ∷ fs) b)
    (λ e x. let a = x.3 in let y = a.3 in (joined x.0 a.0 y.0, y.1, rejoin x.0 a.0 y.0 b t x.1 a.1 (41 ∷ y.1) e x.2 a.2 y.2, y.3))
    (lift_done paren fs b t (on_shut (paren ∷ fs) b) (on_shut_lem (paren ∷ fs) b t))

lift_step : (fs : List Frame) (b : ℕ) (t : List ℕ) (n : Next State) → Sound (done fs) b t n → Sound (step fs) b t n
lift_step fs b t dead s = tt
lift_step fs b t (go r) s = λ x. (no_tail, b ∷ t, refl, s x)

on_step_lem : (fs : List Frame) (b : ℕ) (t : List ℕ) → Sound (step fs) b t (on_step fs b)
on_step_lem fs b t =
    if (step fs) b t (eqb b 47) (go (axis fs)) (on_done fs b) (λ e x. (tail x.0, x.1, cons b 47 _ _ e x.2, x.3)) (lift_step fs b t (on_done fs b) (on_done_lem fs b t))

lift_held : (fs : List Frame) (b : ℕ) (t : List ℕ) (n : Next State) → Sound (step fs) b t n → Sound (held fs) b t n
lift_held fs b t dead s = tt
lift_held fs b t (go r) s = λ x. (no_hold, b ∷ t, refl, s x)

on_held_lem : (fs : List Frame) (b : ℕ) (t : List ℕ) → Sound (held fs) b t (on_held fs b)
on_held_lem fs b t =
    if (held fs) b t (eqb b 91) (go (atom (bracket ∷ fs))) (on_step fs b)
    (λ e x. let y = x.3 in (hold (mk_ors (ands (g.atom x.0)) y.0), tail_text y.1 ++ y.2, cons b 91 _ _ e (shuts 93 x.0 y.0 t x.1 (tail_text y.1 ++ y.2) x.2 y.3 ∙ sym (append_assoc (or_text (mk_ors (ands (g.atom x.0)) y.0)) (93 ∷ []) (tail_text y.1 ++ y.2))), (y.1, y.2, refl, y.4)))
    (lift_held fs b t (on_step fs b) (on_step_lem fs b t))

lift_name : (n : ℕ) (fs : List Frame) (b : ℕ) (t : List ℕ) (k : Next State) → Sound (held fs) b t k → Sound (name n fs) b t k
lift_name n fs b t dead s = tt
lift_name n fs b t (go r) s = λ x. ([], refl, b ∷ t, refl, s x)

more_name : (n : ℕ) (fs : List Frame) (b : ℕ) (t : List ℕ) → is_name_byte b ≡ true → Sound (name n fs) b t (on_name n fs)
more_name zero fs b t e = tt
more_name (suc n) fs b t e = λ x. (b ∷ x.0, cc (e, x.1), x.2, cc x.3, x.4)

lift_atom : (fs : List Frame) (b : ℕ) (t : List ℕ) (n : Next State) → Sound (axis fs) b t n → Sound (atom fs) b t n
lift_atom fs b t dead s = tt
lift_atom fs b t (go r) s = λ x. let y = s x in (along y.0, y.1, y.2, y.3)

sound : (s : State) (b : ℕ) (t : List ℕ) → Sound s b t (on s b)
sound (lit c w s) b t = if (lit c w s) b t (eqb b c) (go (lits w s)) dead (λ e x. let y = left_lits w s t x in (y.0, cons b c _ _ e y.1, y.2)) tt
sound (axis fs) b t = on_axis_lem fs b t
sound (or_self fs) b t =
    if (or_self fs) b t (eqb b 58) _ _ (λ e x. let y = left_lits (codes ":") (test fs) t x in (y.0, inl (cons b 58 _ _ e y.1), y.2))
    (if (or_self fs) b t (eqb b 45) _ _ (λ e x. let y = left_lits (codes "or-self::") (test fs) t x in (y.0, inr (cons b 45 _ _ e y.1), y.2)) tt)
sound (or_sibling fs) b t =
    if (or_sibling fs) b t (eqb b 58) _ _ (λ e x. let y = left_lits (codes ":") (test fs) t x in (y.0, inl (cons b 58 _ _ e y.1), y.2))
    (if (or_sibling fs) b t (eqb b 45) _ _ (λ e x. let y = left_lits (codes "sibling::") (test fs) t x in (y.0, inr (cons b 45 _ _ e y.1), y.2)) tt)
sound (after_p fs) b t =
    if (after_p fs) b t (eqb b 97) _ _ (λ e x. let y = left_lits (codes "rent::") (test fs) t x in (y.0, inl (cons b 97 _ _ e y.1), y.2))
    (if (after_p fs) b t (eqb b 114) _ _
    (λ e x. let y = left_lits (codes "eceding") (or_sibling fs) t x in elim y.2.1 [ inl k ↦ (y.2.0, inr (inl (after b 114 (codes "eceding") t y.0 _ e y.1 k)), y.2.2) | inr k ↦ (y.2.0, inr (inr (after b 114 (codes "eceding") t y.0 _ e y.1 k)), y.2.2) ]) tt)
sound (test fs) b t =
    if (test fs) b t (eqb b 42) (go (held fs)) (cond (is_letter b) (go (name 23 fs)) dead) (λ e x. (star, t, cons b 42 _ _ e refl, x))
    (if (test fs) b t (is_letter b) (go (name 23 fs)) dead (λ e x. (g.name (b ∷ x.0) (cc (e, x.1)), x.2, cc x.3, x.4)) tt)
sound (name n fs) b t = if (name n fs) b t (is_name_byte b) (on_name n fs) (on_held fs b) (more_name n fs b t) (lift_name n fs b t (on_held fs b) (on_held_lem fs b t))
sound (held fs) b t = on_held_lem fs b t
sound (step fs) b t = on_step_lem fs b t
sound (done fs) b t = on_done_lem fs b t
sound (joint fs) b t =
    if (joint fs) b t (eqb b 97) _ _ (λ e x. let y = left_lits (codes "nd ") (atom fs) t x in (by_and, y.0, cons b 97 _ _ e y.1, y.2))
    (if (joint fs) b t (eqb b 111) _ _ (λ e x. let y = left_lits (codes "r ") (atom fs) t x in (by_or, y.0, cons b 111 _ _ e y.1, y.2)) tt)
sound (atom fs) b t =
    if (atom fs) b t (eqb b 40) (go (atom (paren ∷ fs))) _
    (λ e x. let y = x.3 in (parens (mk_ors (ands (g.atom x.0)) y.0), y.1, cons b 40 _ _ e (shuts 41 x.0 y.0 t x.1 y.1 x.2 y.2 ∙ sym (append_assoc (or_text (mk_ors (ands (g.atom x.0)) y.0)) (41 ∷ []) y.1)), y.3))
    (if (atom fs) b t (eqb b 110) (go (lits (codes "ot(") (atom (paren ∷ fs)))) (on_axis fs b)
    (λ e z. let q = left_lits (codes "ot(") (atom (paren ∷ fs)) t z in let x = q.2 in let y = x.3 in (negate (mk_ors (ands (g.atom x.0)) y.0), y.1, after b 110 (codes "ot(") t q.0 _ e q.1 (shuts 41 x.0 y.0 q.0 x.1 y.1 x.2 y.2 ∙ sym (append_assoc (or_text (mk_ors (ands (g.atom x.0)) y.0)) (41 ∷ []) y.1)), y.3))
    (lift_atom fs b t (on_axis fs b) (on_axis_lem fs b t)))
sound (shut fs) b t = on_shut_lem fs b t

last : (s : State) → run s [] ≡ taken → Left s []
last (lit c w s) e = absurd (clash 0 e)
last (axis fs) e = absurd (clash 0 e)
last (or_self fs) e = absurd (clash 0 e)
last (or_sibling fs) e = absurd (clash 0 e)
last (after_p fs) e = absurd (clash 0 e)
last (test fs) e = absurd (clash 0 e)
last (name n []) e = ([], refl, [], refl, (no_hold, [], refl, (no_tail, [], refl, refl)))
last (name n (f ∷ fs)) e = absurd (clash 0 e)
last (held []) e = (no_hold, [], refl, (no_tail, [], refl, refl))
last (held (f ∷ fs)) e = absurd (clash 0 e)
last (step []) e = (no_tail, [], refl, refl)
last (step (f ∷ fs)) e = absurd (clash 0 e)
last (done []) e = refl
last (done (f ∷ fs)) e = absurd (clash 0 e)
last (joint fs) e = absurd (clash 0 e)
last (atom fs) e = absurd (clash 0 e)
last (shut []) e = refl
last (shut (f ∷ fs)) e = absurd (clash 0 e)

onward : (s : State) (b : ℕ) (t : List ℕ) (n : Next State) → Sound s b t n → ((r : State) → run r t ≡ taken → Left r t) → go_on t n ≡ taken → Left s (b ∷ t)
onward s b t dead d ih e = absurd (clash _ e)
onward s b t (go r) d ih e = d (ih r e)

back : (t : List ℕ) (s : State) → run s t ≡ taken → Left s t
back [] s e = last s e
back (b ∷ t) s e = onward s b t (on s b) (sound s b t) (back t) e

pub is_query_lem : (t : List ℕ) → run begin t ≡ taken → Query t
is_query_lem t e =
    let z = back t begin e in
    let x = z.2 in
    (x.0, cc (z.1, x.2, x.3, append-nil (path_text x.0)))
