-- Deep: the draft of a text notes the first "[" or "(" that is one too many.
use Rattle.std.proofs.Common.{◌≡◌, ℕ, zero, suc, ◌+◌, ◌-◌, ◌<◌, ◌≤◌, Bool, true, false, cond, eqb, ltb, leb, List, [], ◌∷◌, ◌++◌, length, Some, None, codes, Option, sym, refl, ap, ◌∙◌, ⊎_elim, append_assoc, append-nil, arith}
use Rattle.std.proofs.lemmas.Bool.{cond_both, lt-ltb, le-ltb, le-leb, lt-leb, cases_lt, ne_eqb, false≢true, and_parts, or_left}
use Rattle.model.specs.declared.axis.Axis.{Axis}
use Rattle.model.specs.declared.axis.Axis.TheVariants.{Itself, Child, Parent, Descendant, Ancestor, DescendantOrSelf, AncestorOrSelf, FollowingSibling, PrecedingSibling, Following, Preceding}
use Rattle.model.specs.Limits.{most_open, most_parts}
use Rattle.model.specs.Names.{most_name}
use Rattle.model.specs.Names.{is_letter, is_name_byte, are_name_bytes}
use Rattle.model.specs.Receipt.{or_else}
use Rattle.model.specs.Grammar.{TestTree, star, PathTree, StepTree, OrChain, AndChain, Atom, one, slash, bare, held, ands, or, and, along, parens, negate, axis_text, test_text, path_text, step_text, or_text, and_text, atom_text, query_text}
use Rattle.model.specs.Grammar as g
use Rattle.grammar.proofs.Forward.{held_assoc}
use Rattle.names.specs.Labels.{Labels}
use Rattle.reader.specs.declared.draft.Draft.{Draft}
use Rattle.table.specs.declared.part.Part.{Part}
use Rattle.table.specs.declared.part.Tag.TheVariants.{Any, Named}
use Rattle.reader.specs.Drafts.{part, started, added, counted, first_of, entered, exited, labelled, test_drafted, step_axis, step_drafted, path_drafted, or_drafted, and_drafted, atom_drafted, linked, spine_drafted}
use Rattle.query.specs.Answers.{is_opening, is_closing, deep_after, deep_place}
use Rattle.query.proofs.Noted.{or_none}

-- how many bytes are left after the first one too many, in bytes with so many open before them
abbrev deep_left : ℕ → List ℕ → Option ℕ
deep_left depth [] = None
deep_left depth (b ∷ t) = cond (is_opening b) (cond (leb most_open depth) (Some (length t)) (deep_left (depth + 1) t)) (cond (is_closing b) (deep_left (depth - 1) t) (deep_left depth t))

-- its place, in a text of n bytes
abbrev pub placed : ℕ → Option ℕ → Option ℕ
placed n None = None
placed n (Some left) = Some (n - left - 1)

placed_on : (depth p b : ℕ) (t : List ℕ) → deep_after depth (p + 1) t ≡ placed (p + 1 + length t) (deep_left depth t) → deep_after depth (p + 1) t ≡ placed (p + length (b ∷ t)) (deep_left depth t)
placed_on depth p b t e = e ∙ ap (λ (n : ℕ). placed n (deep_left depth t)) (omega arith)

deep_is : (depth p : ℕ) (t : List ℕ) → deep_after depth p t ≡ placed (p + length t) (deep_left depth t)
deep_is depth p [] = refl
deep_is depth p (b ∷ t) = by (is_opening b) (leb most_open depth) (is_closing b) (placed_on (depth + 1) p b t (deep_is (depth + 1) (p + 1) t)) (placed_on (depth - 1) p b t (deep_is (depth - 1) (p + 1) t)) (placed_on depth p b t (deep_is depth (p + 1) t))
  where
    by : (opens deep shuts : Bool) → deep_after (depth + 1) (p + 1) t ≡ placed (p + length (b ∷ t)) (deep_left (depth + 1) t) → deep_after (depth - 1) (p + 1) t ≡ placed (p + length (b ∷ t)) (deep_left (depth - 1) t) → deep_after depth (p + 1) t ≡ placed (p + length (b ∷ t)) (deep_left depth t) → cond opens (cond deep (Some p) (deep_after (depth + 1) (p + 1) t)) (cond shuts (deep_after (depth - 1) (p + 1) t) (deep_after depth (p + 1) t)) ≡ placed (p + length (b ∷ t)) (cond opens (cond deep (Some (length t)) (deep_left (depth + 1) t)) (cond shuts (deep_left (depth - 1) t) (deep_left depth t)))
    by true true shuts e f h = ap Some (omega arith)
    by true false shuts e f h = e
    by false deep true e f h = f
    by false deep false e f h = h

-- no bracket is among the bytes
abbrev plain : List ℕ → Bool
plain [] = true
plain (b ∷ w) = cond (is_opening b) false (cond (is_closing b) false (plain w))

plain_skips : (depth : ℕ) (w t : List ℕ) → plain w ≡ true → deep_left depth (w ++ t) ≡ deep_left depth t
plain_skips depth [] t e = refl
plain_skips depth (b ∷ w) t e = by (is_opening b) (is_closing b) _ _ e (plain_skips depth w t)
  where
    by : (opens shuts : Bool) (x y : Option ℕ) → cond opens false (cond shuts false (plain w)) ≡ true → (plain w ≡ true → deep_left depth (w ++ t) ≡ deep_left depth t) → cond opens x (cond shuts y (deep_left depth (w ++ t))) ≡ deep_left depth t
    by true shuts x y e k = absurd (false≢true e)
    by false true x y e k = absurd (false≢true e)
    by false false x y e k = k e

axis_plain : (a : Axis) → plain (axis_text a) ≡ true
axis_plain Itself = refl
axis_plain Child = refl
axis_plain Parent = refl
axis_plain Descendant = refl
axis_plain Ancestor = refl
axis_plain DescendantOrSelf = refl
axis_plain AncestorOrSelf = refl
axis_plain FollowingSibling = refl
axis_plain PrecedingSibling = refl
axis_plain Following = refl
axis_plain Preceding = refl

byte_plain : (b : ℕ) (w : List ℕ) → is_name_byte b ≡ true → plain (b ∷ w) ≡ plain w
byte_plain b w e = simp (differs 91 refl, differs 40 refl, differs 93 refl, differs 41 refl)
  where
    differs : (x : ℕ) → is_name_byte x ≡ false → eqb b x ≡ false
    differs x n = ne_eqb b x (λ q. false≢true (sym n ∙ sym (ap is_name_byte q) ∙ e))

bytes_plain : (n : ℕ) (bs : List ℕ) → are_name_bytes n bs ≡ true → plain bs ≡ true
bytes_plain n [] e = refl
bytes_plain zero (b ∷ bs) e = absurd (false≢true e)
bytes_plain (suc n) (b ∷ bs) e =
    let l = and_parts (is_name_byte b) (are_name_bytes n bs) e in
    byte_plain b bs l.0 ∙ bytes_plain n bs l.1

test_plain : (x : TestTree) → plain (test_text x) ≡ true
test_plain star = refl
test_plain (g.name [] e) = absurd (false≢true e)
test_plain (g.name (b ∷ bs) e) =
    let l = and_parts (is_letter b) (are_name_bytes (most_name - 1) bs) e in
    byte_plain b bs (or_left (is_letter b) _ l.0) ∙ bytes_plain (most_name - 1) bs l.1

-- What a draft has noted, or else what is found in the text that it has not yet read.
abbrev found : Draft → List ℕ → Option ℕ
found d t = or_else d.deep (deep_left d.depth t)

added_found : (p : Part) (d : Draft) (t : List ℕ) → found (added p d) t ≡ found d t
added_found p d t = cond_both (ltb d.used most_parts) _ d (λ (e : Draft). found e t ≡ found d t) (λ h. refl) (λ h. refl)

noted_first : (o u : Option ℕ) (left : ℕ) → or_else (first_of o left) u ≡ or_else o (Some left)
noted_first None u left = refl
noted_first (Some l) u left = refl

entered_found : (d : Draft) (t : List ℕ) → found (entered (length t) d) t ≡ or_else d.deep (cond (leb most_open d.depth) (Some (length t)) (deep_left (d.depth + 1) t))
entered_found d t = ⊎_elim (λ (h : d.depth < most_open). rw (lt-ltb d.depth most_open h, lt-leb most_open d.depth h)) (λ (h : most_open ≤ d.depth). rw (le-ltb d.depth most_open h, le-leb most_open d.depth h) (noted_first d.deep _ (length t))) (cases_lt d.depth most_open)

-- Reading a tree changes nothing of what is found.
module _ (labels : Labels) where
  named_found : (o : Option ℕ) (left : ℕ) (d : Draft) (t : List ℕ) → found (labelled o left d) t ≡ found d t
  named_found (Some l) left d t = added_found (part Named l 0) d t
  named_found None left d t = added_found (part Named 0 0) d t

  test_found : (x : TestTree) (rest : List ℕ) (d : Draft) → found (test_drafted labels x rest d) rest ≡ found d rest
  test_found star rest d = added_found (part Any 0 0) d rest
  test_found (g.name bytes e) rest d = named_found (labels bytes) (length (bytes ++ rest)) d rest

  -- a count, an axis and a test
  kept_found : (a : Axis) (x : TestTree) (rest : List ℕ) (d : Draft) → found (test_drafted labels x rest (counted d)) rest ≡ found d (axis_text a ++ (test_text x ++ rest))
  kept_found a x rest d =
      test_found x rest (counted d) ∙ sym (ap (or_else d.deep) (plain_skips d.depth (axis_text a) (test_text x ++ rest) (axis_plain a) ∙ plain_skips d.depth (test_text x) rest (test_plain x)))

  mutual
    step_found : (s : StepTree) (rest : List ℕ) (d : Draft) → found (step_drafted labels s rest d) rest ≡ found d (step_text s ++ rest)
    step_found (bare a x) rest d = kept_found a x rest d ∙ ap (found d) (sym (append_assoc (axis_text a) (test_text x) rest))
    step_found (held a x f) rest d =
        let inner = or_text f ++ (93 ∷ rest) in
        let e = test_drafted labels x (91 ∷ inner) (counted d) in
        added_found _ (exited (or_drafted labels f (93 ∷ rest) (entered (length inner) e))) rest ∙ or_found f (93 ∷ rest) (entered (length inner) e) ∙ entered_found e inner ∙ kept_found a x (91 ∷ inner) d
        ∙ ap (found d) (sym (held_assoc (axis_text a) (test_text x) (or_text f) rest))

    path_found : (p : PathTree) (rest : List ℕ) (d : Draft) → found (path_drafted labels p rest d) rest ≡ found d (path_text p ++ rest)
    path_found (one s) rest d = added_found _ (step_drafted labels s rest d) rest ∙ step_found s rest d
    path_found (slash s p) rest d =
        let rest' = 47 ∷ (path_text p ++ rest) in
        let e = step_drafted labels s rest' d in
        added_found _ _ rest ∙ added_found _ (path_drafted labels p rest e) rest ∙ path_found p rest e ∙ step_found s rest' d ∙ ap (found d) (sym (append_assoc (step_text s) (47 ∷ path_text p) rest))

    or_found : (f : OrChain) (rest : List ℕ) (d : Draft) → found (or_drafted labels f rest d) rest ≡ found d (or_text f ++ rest)
    or_found (ands x) rest d = and_found x rest d
    or_found (or f x) rest d =
        let rest' = codes " or " ++ (and_text x ++ rest) in
        let e = or_drafted labels f rest' d in
        added_found _ (and_drafted labels x rest (counted e)) rest ∙ and_found x rest (counted e) ∙ or_found f rest' d ∙ ap (found d) (sym (append_assoc (or_text f) (codes " or " ++ and_text x) rest))

    and_found : (x : AndChain) (rest : List ℕ) (d : Draft) → found (and_drafted labels x rest d) rest ≡ found d (and_text x ++ rest)
    and_found (g.atom a) rest d = atom_found a rest d
    and_found (and x a) rest d =
        let rest' = codes " and " ++ (atom_text a ++ rest) in
        let e = and_drafted labels x rest' d in
        added_found _ (atom_drafted labels a rest (counted e)) rest ∙ atom_found a rest (counted e) ∙ and_found x rest' d ∙ ap (found d) (sym (append_assoc (and_text x) (codes " and " ++ atom_text a) rest))

    atom_found : (a : Atom) (rest : List ℕ) (d : Draft) → found (atom_drafted labels a rest d) rest ≡ found d (atom_text a ++ rest)
    atom_found (along p) rest d = path_found p rest d
    atom_found (parens f) rest d =
        let inner = or_text f ++ (41 ∷ rest) in
        or_found f (41 ∷ rest) (entered (length inner) d) ∙ entered_found d inner ∙ ap (λ (y : List ℕ). found d (40 ∷ y)) (sym (append_assoc (or_text f) (41 ∷ []) rest))
    atom_found (negate f) rest d =
        let inner = or_text f ++ (41 ∷ rest) in
        added_found _ (exited (or_drafted labels f (41 ∷ rest) (entered (length inner) (counted d)))) rest ∙ or_found f (41 ∷ rest) (entered (length inner) (counted d)) ∙ entered_found (counted d) inner ∙ ap (λ (y : List ℕ). found d (codes "not(" ++ y)) (sym (append_assoc (or_text f) (41 ∷ []) rest))

  spine_found : (p : PathTree) (rest : List ℕ) (d : Draft) → found (spine_drafted labels p rest d) rest ≡ found d (path_text p ++ rest)
  spine_found (one s) rest d = added_found _ (step_drafted labels s rest d) rest ∙ step_found s rest d
  spine_found (slash s p) rest d =
      let rest' = 47 ∷ (path_text p ++ rest) in
      let e = step_drafted labels s rest' d in
      spine_found p rest (linked (step_axis s) d e) ∙ added_found _ e (path_text p ++ rest) ∙ step_found s rest' d ∙ ap (found d) (sym (append_assoc (step_text s) (47 ∷ path_text p) rest))

  pub deep_noted : (tree : PathTree) → deep_place (query_text tree) ≡ placed (length (query_text tree)) (spine_drafted labels tree [] started).deep
  deep_noted tree =
      let e = spine_drafted labels tree [] started in
      let t = query_text tree in
      let k : deep_left 0 t ≡ e.deep = ap (deep_left 0) (sym (append-nil (path_text tree))) ∙ sym (spine_found tree [] started) ∙ sym (or_none e.deep) in
      let n : 0 + length t ≡ length t = omega arith in
      deep_is 0 0 t ∙ ap (λ (m : ℕ). placed m (deep_left 0 t)) n ∙ ap (placed (length t)) k
