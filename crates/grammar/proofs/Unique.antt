-- Unique: a text has at most one tree. A part is read off the front of a text, and what follows says where it ends.
use Rattle.std.proofs.Common.{◌≡◌, ℕ, zero, suc, ◌<◌, ◌≤◌, true, cond, eqb, List, [], ◌∷◌, ◌++◌, length, drop, sym, refl, ap, ◌∙◌, subst, append_assoc, append-nil, arith, length-append}
use mathlib.Core.Bool.{Bool-set}
use Rattle.std.proofs.lemmas.Bool.{and_parts, false≢true, eq-eqb}
use Rattle.model.specs.Names.{is_letter, is_name_byte, are_name_bytes, is_name}
use Rattle.model.specs.Grammar.{axis_text, TestTree, star, name, test_text, PathTree, StepTree, OrChain, Atom, one, slash, bare, held, along, parens, negate, path_text, step_text, or_text, atom_text}
use Rattle.model.specs.declared.axis.Axis.{Axis}
use Rattle.model.specs.declared.axis.Axis.TheVariants.{Itself, Child, Parent, Descendant, Ancestor, DescendantOrSelf, AncestorOrSelf, FollowingSibling, PrecedingSibling, Following, Preceding}
use Rattle.grammar.specs.Theorems.{Unambiguous}
use Rattle.grammar.proofs.Forward.{No, NoName}
use Rattle.grammar.specs.Joins.{Join, by_and, by_or, Joins, no_join, joined, word, joins_text}
use Rattle.grammar.proofs.Chains.{Hold, no_hold, hold, hold_text, mk_step, step_is, first_of, joins_of, chain_again, chain_text}

-- Axes: the first one whose text the bytes begin with.
data Found : Type 0 where
  found : Axis → List ℕ → Found
  lost : Found

-- what the bytes of the axis leave, or else the other
abbrev strip : Axis → List ℕ → List ℕ → Found → Found
strip a [] t o = found a t
strip a (c ∷ w) [] o = o
strip a (c ∷ w) (b ∷ t) o = cond (eqb b c) (strip a w t o) o

abbrev try : Axis → List ℕ → Found → Found
try a t o = strip a (axis_text a) t o

abbrev try_self_less : List ℕ → Found
try_self_less t = try Descendant t (try Ancestor t (try Following t (try Preceding t lost)))

abbrev try_long : List ℕ → Found
try_long t = try DescendantOrSelf t (try AncestorOrSelf t (try FollowingSibling t (try PrecedingSibling t (try_self_less t))))

abbrev axis_of_lem : List ℕ → Found
axis_of_lem t = try Itself t (try Child t (try Parent t (try_long t)))

axis_found : (a : Axis) (t : List ℕ) → axis_of_lem (axis_text a ++ t) ≡ found a t
axis_found Itself t = refl
axis_found Child t = refl
axis_found Parent t = refl
axis_found Descendant t = refl
axis_found Ancestor t = refl
axis_found DescendantOrSelf t = refl
axis_found AncestorOrSelf t = refl
axis_found FollowingSibling t = refl
axis_found PrecedingSibling t = refl
axis_found Following t = refl
axis_found Preceding t = refl

axis_one : (a b : Axis) (s t : List ℕ) → axis_text a ++ s ≡ axis_text b ++ t → (a ≡ b) × (s ≡ t)
axis_one a b s t e = let k : found a s ≡ found b t = sym (axis_found a s) ∙ ap axis_of_lem e ∙ axis_found b t in (cc, cc)

-- the text does not begin with this byte
not_first : (b : ℕ) (s u : List ℕ) → No s b → s ≡ b ∷ u → ⊥
not_first b [] u n e = cc
not_first b (c ∷ s) u n e = cc (eq-eqb b b refl)

-- Names and tests.
name_parts : (n b : ℕ) (u : List ℕ) → are_name_bytes n (b ∷ u) ≡ true → (is_name_byte b ≡ true) × ((k : ℕ) × (are_name_bytes k u ≡ true))
name_parts zero b u e = absurd (false≢true e)
name_parts (suc n) b u e = let p = and_parts (is_name_byte b) (are_name_bytes n u) e in (p.0, (n, p.1))

no_name_byte : (b : ℕ) (s u : List ℕ) → NoName s → is_name_byte b ≡ true → s ≡ b ∷ u → ⊥
no_name_byte b [] u n k e = cc
no_name_byte b (c ∷ s) u n k e = cc

bytes_one : (m n : ℕ) (u v s t : List ℕ) → are_name_bytes m u ≡ true → are_name_bytes n v ≡ true → NoName s → NoName t → u ++ s ≡ v ++ t → (u ≡ v) × (s ≡ t)
bytes_one m n [] [] s t hu hv ks kt e = (refl, e)
bytes_one m n [] (b ∷ v) s t hu hv ks kt e = absurd (no_name_byte b s (v ++ t) ks (name_parts n b v hv).0 e)
bytes_one m n (a ∷ u) [] s t hu hv ks kt e = absurd (no_name_byte a t (u ++ s) kt (name_parts m a u hu).0 (sym e))
bytes_one m n (a ∷ u) (b ∷ v) s t hu hv ks kt e =
    let p = name_parts m a u hu in
    let q = name_parts n b v hv in
    let r = bytes_one p.1.0 q.1.0 u v s t p.1.1 q.1.1 ks kt (cc) in
    (cc r.0, r.1)

-- Equal bytes are one name, since there is at most one proof that they are a name.
same_name : (u v : List ℕ) (e : is_name u ≡ true) (f : is_name v ≡ true) → u ≡ v → name u e ≡ name v f
same_name u v e f p = subst (λ (w : List ℕ). (h : is_name w ≡ true) → name u e ≡ name w h) p (λ h. ap (name u) (Bool-set (is_name u) true e h)) f

no_star_name : (v s t : List ℕ) → is_name v ≡ true → 42 ∷ s ≡ v ++ t → ⊥
no_star_name [] s t f e = false≢true f
no_star_name (b ∷ v) s t f e = let l = (and_parts (is_letter b) (are_name_bytes 23 v) f).0 in cc

test_one : (x y : TestTree) (s t : List ℕ) → NoName s → NoName t → test_text x ++ s ≡ test_text y ++ t → (x ≡ y) × (s ≡ t)
test_one star star s t ks kt e = (refl, cc)
test_one star (name v f) s t ks kt e = absurd (no_star_name v s t f e)
test_one (name u e) star s t ks kt h = absurd (no_star_name u t s e (sym h))
test_one (name [] e) (name v f) s t ks kt h = absurd (false≢true e)
test_one (name (a ∷ u) e) (name [] f) s t ks kt h = absurd (false≢true f)
test_one (name (a ∷ u) e) (name (b ∷ v) f) s t ks kt h =
    let r = bytes_one 23 23 u v s t (and_parts (is_letter a) (are_name_bytes 23 u) e).1 (and_parts (is_letter b) (are_name_bytes 23 v) f).1 ks kt (cc) in
    (same_name (a ∷ u) (b ∷ v) e f (cc r.0), r.1)

-- What cannot go on with a path; what cannot go on with a chain either.
record Apart (s : List ℕ) : Type 0 where
  no_name : NoName s
  no_bracket : No s 91
  no_slash : No s 47

record Closes (s : List ℕ) : Type 0 where
  apart : Apart s
  no_blank : No s 32

-- chains shorter than n are read off the front in one way
abbrev OneChain : ℕ → Type 0
OneChain n = (f g : OrChain) (s t : List ℕ) → Closes s → Closes t → length (or_text f) < n → or_text f ++ s ≡ or_text g ++ t → (f ≡ g) × (s ≡ t)

closed : (b : ℕ) (u s : List ℕ) → (u ++ (b ∷ [])) ++ s ≡ u ++ (b ∷ s)
closed b u s = append_assoc u (b ∷ []) s

bracket_closes : (s : List ℕ) → Closes (93 ∷ s)
bracket_closes s = record { apart = record { no_name = refl; no_bracket = refl; no_slash = refl }; no_blank = refl }

paren_closes : (s : List ℕ) → Closes (41 ∷ s)
paren_closes s = record { apart = record { no_name = refl; no_bracket = refl; no_slash = refl }; no_blank = refl }

after_test : (h : Hold) (s : List ℕ) → NoName s → NoName (hold_text h ++ s)
after_test no_hold s k = k
after_test (hold f) s k = refl

grouped : (a : Axis) (x : TestTree) (h : Hold) (s : List ℕ) → step_text (mk_step a x h) ++ s ≡ axis_text a ++ (test_text x ++ (hold_text h ++ s))
grouped a x h s = rw (step_is a x h) (simp append_assoc)

-- A path begins with an axis, so with neither "(" nor "n".
path_begins : (p : PathTree) (s : List ℕ) → (a : Axis) × (u : List ℕ) × (path_text p ++ s ≡ axis_text a ++ u)
path_begins (one (bare a x)) s = (a, test_text x ++ s, append_assoc (axis_text a) (test_text x) s)
path_begins (one (held a x f)) s = (a, _, append_assoc (axis_text a) (test_text x ++ (91 ∷ (or_text f ++ (93 ∷ [])))) s)
path_begins (slash (bare a x) p) s = (a, _, ap (λ (u : List ℕ). u ++ s) (append_assoc (axis_text a) (test_text x) (47 ∷ path_text p)) ∙ append_assoc (axis_text a) (test_text x ++ (47 ∷ path_text p)) s)
path_begins (slash (held a x f) p) s =
    (a, _, ap (λ (u : List ℕ). u ++ s) (append_assoc (axis_text a) (test_text x ++ (91 ∷ (or_text f ++ (93 ∷ [])))) (47 ∷ path_text p)) ∙ append_assoc (axis_text a) ((test_text x ++ (91 ∷ (or_text f ++ (93 ∷ [])))) ++ (47 ∷ path_text p)) s)

no_path : (p : PathTree) (s u : List ℕ) → axis_of_lem u ≡ lost → path_text p ++ s ≡ u → ⊥
no_path p s u k e =
    let b = path_begins p s in
    cc (axis_found b.0 b.1, b.2)

word_one : (v w : Join) (s t : List ℕ) → word v ++ s ≡ word w ++ t → (v ≡ w) × (s ≡ t)
word_one by_and by_and s t e = (refl, ap (drop 4) e)
word_one by_and by_or s t e = absurd (not_first 111 _ _ refl e)
word_one by_or by_and s t e = absurd (not_first 97 _ _ refl e)
word_one by_or by_or s t e = (refl, ap (drop 3) e)

after_atom : (j : Joins) (s : List ℕ) → Closes s → Apart (joins_text j ++ s)
after_atom no_join s c = c.apart
after_atom (joined w a j) s c = record { no_name = refl; no_bracket = refl; no_slash = refl }

module _ (n : ℕ) (one_chain : OneChain n) where
  -- a chain and the byte that closes it
  inner : (b : ℕ) → ((s : List ℕ) → Closes (b ∷ s)) → (f g : OrChain) (s t : List ℕ) → length (or_text f) < n → (or_text f ++ (b ∷ [])) ++ s ≡ (or_text g ++ (b ∷ [])) ++ t → (f ≡ g) × (s ≡ t)
  inner b c f g s t l e =
      let r = one_chain f g (b ∷ s) (b ∷ t) (c s) (c t) l (sym (closed b (or_text f) s) ∙ e ∙ closed b (or_text g) t) in
      (r.0, cc r.1)

  hold_one : (h k : Hold) (s t : List ℕ) → No s 91 → No t 91 → length (hold_text h) ≤ n → hold_text h ++ s ≡ hold_text k ++ t → (h ≡ k) × (s ≡ t)
  hold_one no_hold no_hold s t ms mt l e = (refl, e)
  hold_one no_hold (hold g) s t ms mt l e = absurd (not_first 91 s ((or_text g ++ (93 ∷ [])) ++ t) ms e)
  hold_one (hold f) no_hold s t ms mt l e = absurd (not_first 91 t ((or_text f ++ (93 ∷ [])) ++ s) mt (sym e))
  hold_one (hold f) (hold g) s t ms mt l e =
      let r = inner 93 bracket_closes f g s t (omega (arith, length-append (or_text f) (93 ∷ []))) (ap (drop 1) e) in
      (ap hold r.0, r.1)

  parts_one : (a b : Axis) (x y : TestTree) (h k : Hold) (s t : List ℕ) → NoName s → NoName t → No s 91 → No t 91 → length (step_text (mk_step a x h)) ≤ n → step_text (mk_step a x h) ++ s ≡ step_text (mk_step b y k) ++ t → (mk_step a x h ≡ mk_step b y k) × (s ≡ t)
  parts_one a b x y h k s t ns nt ms mt l e =
      let p = axis_one a b _ _ (sym (grouped a x h s) ∙ e ∙ grouped b y k t) in
      let q = test_one x y (hold_text h ++ s) (hold_text k ++ t) (after_test h s ns) (after_test k t nt) p.1 in
      let c = ap length (step_is a x h) in
      let d = length-append (axis_text a) (test_text x ++ hold_text h) in
      let z = length-append (test_text x) (hold_text h) in
      let r = hold_one h k s t ms mt (omega arith) q.1 in
      (cc (p.0, q.0, r.0), r.1)

  step_one : (x y : StepTree) (s t : List ℕ) → NoName s → NoName t → No s 91 → No t 91 → length (step_text x) ≤ n → step_text x ++ s ≡ step_text y ++ t → (x ≡ y) × (s ≡ t)
  step_one (bare a x) (bare b y) s t = parts_one a b x y no_hold no_hold s t
  step_one (bare a x) (held b y g) s t = parts_one a b x y no_hold (hold g) s t
  step_one (held a x f) (bare b y) s t = parts_one a b x y (hold f) no_hold s t
  step_one (held a x f) (held b y g) s t = parts_one a b x y (hold f) (hold g) s t

  path_one : (p q : PathTree) (s t : List ℕ) → Apart s → Apart t → length (path_text p) ≤ n → path_text p ++ s ≡ path_text q ++ t → (p ≡ q) × (s ≡ t)
  path_one (one x) (one y) s t cs ct l e = let r = step_one x y s t cs.no_name ct.no_name cs.no_bracket ct.no_bracket l e in (ap one r.0, r.1)
  path_one (one x) (slash y q) s t cs ct l e =
      let r = step_one x y s (47 ∷ (path_text q ++ t)) cs.no_name refl cs.no_bracket refl l (e ∙ append_assoc (step_text y) (47 ∷ path_text q) t) in
      absurd (not_first 47 s (path_text q ++ t) cs.no_slash r.1)
  path_one (slash x p) (one y) s t cs ct l e =
      let c = length-append (step_text x) (47 ∷ path_text p) in
      let r = step_one x y (47 ∷ (path_text p ++ s)) t refl ct.no_name refl ct.no_bracket (omega arith) (sym (append_assoc (step_text x) (47 ∷ path_text p) s) ∙ e) in
      absurd (not_first 47 t (path_text p ++ s) ct.no_slash (sym r.1))
  path_one (slash x p) (slash y q) s t cs ct l e =
      let c = length-append (step_text x) (47 ∷ path_text p) in
      let r = step_one x y (47 ∷ (path_text p ++ s)) (47 ∷ (path_text q ++ t)) refl refl refl refl (omega arith) (sym (append_assoc (step_text x) (47 ∷ path_text p) s) ∙ e ∙ append_assoc (step_text y) (47 ∷ path_text q) t) in
      let z = path_one p q s t cs ct (omega arith) (ap (drop 1) r.1) in
      (cc (r.0, z.0), z.1)

  atom_one : (a b : Atom) (s t : List ℕ) → Apart s → Apart t → length (atom_text a) ≤ n → atom_text a ++ s ≡ atom_text b ++ t → (a ≡ b) × (s ≡ t)
  atom_one (along p) (along q) s t cs ct l e = let r = path_one p q s t cs ct l e in (ap along r.0, r.1)
  atom_one (along p) (parens g) s t cs ct l e = absurd (no_path p s _ refl e)
  atom_one (along p) (negate g) s t cs ct l e = absurd (no_path p s _ refl e)
  atom_one (parens f) (along q) s t cs ct l e = absurd (no_path q t _ refl (sym e))
  atom_one (negate f) (along q) s t cs ct l e = absurd (no_path q t _ refl (sym e))
  atom_one (parens f) (negate g) s t cs ct l e = absurd (not_first 110 _ _ refl e)
  atom_one (negate f) (parens g) s t cs ct l e = absurd (not_first 40 _ _ refl e)
  atom_one (parens f) (parens g) s t cs ct l e =
      let r = inner 41 paren_closes f g s t (omega (arith, length-append (or_text f) (41 ∷ []))) (ap (drop 1) e) in (ap parens r.0, r.1)
  atom_one (negate f) (negate g) s t cs ct l e =
      let r = inner 41 paren_closes f g s t (omega (arith, length-append (or_text f) (41 ∷ []))) (ap (drop 4) e) in (ap negate r.0, r.1)

  abbrev OneJoins : Joins → Joins → List ℕ → List ℕ → Type 0
  OneJoins j k s t = length (joins_text j) ≤ n → joins_text j ++ s ≡ joins_text k ++ t → (j ≡ k) × (s ≡ t)

  -- an atom and the joins after it
  chain_one : (a b : Atom) (j k : Joins) (s t : List ℕ) → Closes s → Closes t → OneJoins j k s t → length (atom_text a ++ joins_text j) ≤ n → (atom_text a ++ joins_text j) ++ s ≡ (atom_text b ++ joins_text k) ++ t → (a ≡ b) × (j ≡ k) × (s ≡ t)
  chain_one a b j k s t cs ct ih l e =
      let c = length-append (atom_text a) (joins_text j) in
      let r = atom_one a b (joins_text j ++ s) (joins_text k ++ t) (after_atom j s cs) (after_atom k t ct) (omega arith) (cc (append_assoc (atom_text a) (joins_text j) s, append_assoc (atom_text b) (joins_text k) t)) in
      let z = ih (omega arith) r.1 in
      (r.0, z.0, z.1)

  joins_one : (j k : Joins) (s t : List ℕ) → Closes s → Closes t → OneJoins j k s t
  joins_one no_join no_join s t cs ct l e = (refl, e)
  joins_one no_join (joined w b k) s t cs ct l e = absurd (not_first 32 s _ cs.no_blank e)
  joins_one (joined v a j) no_join s t cs ct l e = absurd (not_first 32 t _ ct.no_blank (sym e))
  joins_one (joined v a j) (joined w b k) s t cs ct l e =
      let c = length-append (word v) (atom_text a ++ joins_text j) in
      let x = atom_text a ++ joins_text j in
      let y = atom_text b ++ joins_text k in
      let r = word_one v w (x ++ s) (y ++ t) (sym (append_assoc (word v) x s) ∙ ap (drop 1) e ∙ append_assoc (word w) y t) in
      let z = chain_one a b j k s t cs ct (joins_one j k s t cs ct) (omega arith) r.1 in
      (cc (r.0, z.0, z.1), z.2)

one_chain : (n : ℕ) → OneChain n
one_chain zero f g s t cs ct l e = absurd (omega arith)
one_chain (suc n) f g s t cs ct l e =
    let x = ap length (chain_text f) in
    let j = joins_of f no_join in
    let k = joins_of g no_join in
    let r = chain_one n (one_chain n) (first_of f) (first_of g) j k s t cs ct (joins_one n (one_chain n) j k s t cs ct) (omega arith) (cc (chain_text f, chain_text g)) in
    (cc (chain_again f no_join, chain_again g no_join, r.0, r.1), r.2)

pub unambiguous : Unambiguous
unambiguous t p q e f =
    let h : path_text p ≡ path_text q = ap (drop 1) (sym e ∙ f) in
    let a : Apart [] = record { no_name = refl; no_bracket = refl; no_slash = refl } in
    (path_one (length (path_text p)) (one_chain (length (path_text p))) p q [] [] a a (omega arith) (append-nil (path_text p) ∙ h ∙ sym (append-nil (path_text q)))).0
