-- Noted: what a draft counts is the length of the tree, up to the most, and it notes the first unknown name.
use Rattle.std.proofs.Common.{◌≡◌, ℕ, ◌+◌, ◌<◌, ◌≤◌, Bool, true, false, cond, ltb, List, [], ◌∷◌, ◌++◌, length, is_some, Some, None, codes, Option, sym, refl, ap, ◌∙◌, ⊎_elim, arith}
use Rattle.std.proofs.lemmas.Bool.{cond_both, le-leb, lt-leb, cases_lt}
use Rattle.model.specs.Receipt.{or_else}
use Rattle.model.specs.Limits.{most_length, most_parts}
use Rattle.model.specs.Query.{path_length, step_length, filter_length}
use Rattle.model.specs.Grammar.{TestTree, star, PathTree, StepTree, OrChain, AndChain, Atom, one, slash, bare, held, ands, or, and, along, parens, negate, path_text, or_text, and_text, atom_text, path_meaning, step_meaning, or_meaning, and_meaning, atom_meaning}
use Rattle.model.specs.Grammar as g
use Rattle.names.specs.Labels.{Labels}
use Rattle.reader.specs.declared.draft.Draft.{Draft}
use Rattle.table.specs.declared.part.Part.{Part}
use Rattle.table.specs.declared.part.Tag.TheVariants.{Any, Named}
use Rattle.reader.specs.Drafts.{part, added, counted, first_of, entered, exited, labelled, enclosed, test_drafted, step_axis, step_drafted, path_drafted, or_drafted, and_drafted, atom_drafted, linked, spine_drafted}
use Rattle.query.specs.Answers.{test_names, path_names, step_names, or_names, and_names, atom_names, first_unknown}
use Rattle.query.proofs.Built.{label}

-- A part more changes neither the count nor the note.
added_count : (p : Part) (d : Draft) → (added p d).count ≡ d.count
added_count p d = cond_both (ltb d.used most_parts) _ d (λ (e : Draft). e.count ≡ d.count) (λ h. refl) (λ h. refl)

added_unknown : (p : Part) (d : Draft) → (added p d).unknown ≡ d.unknown
added_unknown p d = cond_both (ltb d.used most_parts) _ d (λ (e : Draft). e.unknown ≡ d.unknown) (λ h. refl) (λ h. refl)

pub or_none : (o : Option ℕ) → o ≡ or_else o None
or_none None = refl
or_none (Some u) = refl

or_assoc : (a b c : Option ℕ) → or_else (or_else a b) c ≡ or_else a (or_else b c)
or_assoc None b c = refl
or_assoc (Some u) b c = refl

first_of_is : (o : Option ℕ) (left : ℕ) → first_of o left ≡ or_else o (Some left)
first_of_is None left = refl
first_of_is (Some u) left = refl

module _ (labels : Labels) where
  unknown_append : (ns ms : List (List ℕ × List ℕ)) → first_unknown labels (ns ++ ms) ≡ or_else (first_unknown labels ns) (first_unknown labels ms)
  unknown_append [] ms = refl
  unknown_append (n ∷ ns) ms = by (is_some (labels n.0)) (unknown_append ns ms)
    where
      by : (b : Bool) → first_unknown labels (ns ++ ms) ≡ or_else (first_unknown labels ns) (first_unknown labels ms) → cond b (first_unknown labels (ns ++ ms)) (Some (length n.1)) ≡ or_else (cond b (first_unknown labels ns) (Some (length n.1))) (first_unknown labels ms)
      by true e = e
      by false e = refl

  pub record Noted (d e : Draft) (l : ℕ) (ns : List (List ℕ × List ℕ)) : Type 0 where
    pub exact : d.count + l ≤ most_length → e.count ≡ d.count + l
    pub over : most_length < d.count + l → most_length < e.count
    pub first : e.unknown ≡ or_else d.unknown (first_unknown labels ns)

  noted_add : (p : Part) (d e : Draft) (l : ℕ) (ns : List (List ℕ × List ℕ)) → Noted d e l ns → Noted d (added p e) l ns
  noted_add p d e l ns n =
      let k = added_count p e in
      record { exact = λ h. k ∙ n.exact h; over = λ h. omega (arith, n.over h); first = added_unknown p e ∙ n.first }

  noted_count : (d : Draft) → Noted d (counted d) 1 []
  noted_count d =
      record {
        exact = λ h. ap (λ (b : Bool). cond b (d.count + 1) d.count) (le-leb d.count most_length (omega arith));
        over = λ h. ⊎_elim (λ (k : most_length < d.count). omega (arith, ap (λ (b : Bool). cond b (d.count + 1) d.count) (lt-leb d.count most_length k))) (λ (k : d.count ≤ most_length). omega (arith, ap (λ (b : Bool). cond b (d.count + 1) d.count) (le-leb d.count most_length k))) (cases_lt most_length d.count);
        first = or_none d.unknown;
      }

  -- Brackets change neither.
  noted_enclosed : (left : ℕ) (d e : Draft) (l : ℕ) (ns : List (List ℕ × List ℕ)) → Noted (entered left d) e l ns → Noted d (exited e) l ns
  noted_enclosed left d e l ns n = record { exact = n.exact; over = n.over; first = n.first }

  noted_then : (d e h : Draft) (l m : ℕ) (ns ms : List (List ℕ × List ℕ)) → Noted d e l ns → Noted e h m ms → Noted d h (l + m) (ns ++ ms)
  noted_then d e h l m ns ms a b =
      record {
        exact = λ k. let p = a.exact (omega arith) in b.exact (omega arith) ∙ omega arith;
        over = λ k. ⊎_elim (λ (q : most_length < d.count + l). let p = a.over q in b.over (omega arith)) (λ (q : d.count + l ≤ most_length). let p = a.exact q in b.over (omega arith)) (cases_lt most_length (d.count + l));
        first = b.first ∙ ap (λ (o : Option ℕ). or_else o (first_unknown labels ms)) a.first ∙ or_assoc d.unknown (first_unknown labels ns) (first_unknown labels ms) ∙ sym (ap (or_else d.unknown) (unknown_append ns ms));
      }

  noted_as : (d e : Draft) (l m : ℕ) (ns : List (List ℕ × List ℕ)) → l ≡ m → Noted d e l ns → Noted d e m ns
  noted_as d e l m ns q n = rw q at n

  named_noted : (o : Option ℕ) (left : ℕ) (d : Draft) → (labelled o left d).unknown ≡ or_else d.unknown (cond (is_some o) None (Some left))
  named_noted (Some l) left d = added_unknown (part Named l 0) d ∙ or_none d.unknown
  named_noted None left d = ap (λ (u : Option ℕ). first_of u left) (added_unknown (part Named 0 0) d) ∙ first_of_is d.unknown left

  named_count : (o : Option ℕ) (left : ℕ) (d : Draft) → (labelled o left d).count ≡ d.count
  named_count (Some l) left d = added_count (part Named l 0) d
  named_count None left d = added_count (part Named 0 0) d

  test_noted : (x : TestTree) (rest : List ℕ) (d : Draft) → Noted d (test_drafted labels x rest d) 0 (test_names x rest)
  test_noted star rest d =
      let k = added_count (part Any 0 0) d in
      record { exact = λ h. omega arith; over = λ h. omega arith; first = added_unknown (part Any 0 0) d ∙ or_none d.unknown }
  test_noted (g.name bytes e) rest d =
      let k = named_count (labels bytes) (length (bytes ++ rest)) d in
      record { exact = λ h. omega arith; over = λ h. omega arith; first = named_noted (labels bytes) (length (bytes ++ rest)) d }

  -- a count and a test
  counted_test : (x : TestTree) (rest : List ℕ) (d : Draft) → Noted d (test_drafted labels x rest (counted d)) 1 (test_names x rest)
  counted_test x rest d = noted_then d (counted d) _ 1 0 [] (test_names x rest) (noted_count d) (test_noted x rest (counted d))

  abbrev word : List ℕ → ℕ
  word = label labels

  mutual
    step_noted : (s : StepTree) (rest : List ℕ) (d : Draft) → Noted d (step_drafted labels s rest d) (step_length (step_meaning word s)) (step_names s rest)
    step_noted (bare a x) rest d = counted_test x rest d
    step_noted (held a x f) rest d =
        let rest' = 91 ∷ (or_text f ++ (93 ∷ rest)) in
        let e = test_drafted labels x rest' (counted d) in
        noted_add _ d _ _ _ (noted_then d e (enclosed (or_text f) (or_drafted labels f) (93 ∷ rest) e) 1 (filter_length (or_meaning word f)) (test_names x rest') (or_names f (93 ∷ rest)) (counted_test x rest' d) (noted_enclosed (length (or_text f ++ (93 ∷ rest))) e _ _ _ (or_noted f (93 ∷ rest) (entered (length (or_text f ++ (93 ∷ rest))) e))))

    path_noted : (p : PathTree) (rest : List ℕ) (d : Draft) → Noted d (path_drafted labels p rest d) (path_length (path_meaning word p)) (path_names p rest)
    path_noted (one s) rest d = noted_add _ d _ _ _ (step_noted s rest d)
    path_noted (slash s p) rest d =
        let rest' = 47 ∷ (path_text p ++ rest) in
        let e = step_drafted labels s rest' d in
        noted_add _ d _ _ _ (noted_add _ d _ _ _ (noted_then d e (path_drafted labels p rest e) (step_length (step_meaning word s)) (path_length (path_meaning word p)) (step_names s rest') (path_names p rest) (step_noted s rest' d) (path_noted p rest e)))

    or_noted : (f : OrChain) (rest : List ℕ) (d : Draft) → Noted d (or_drafted labels f rest d) (filter_length (or_meaning word f)) (or_names f rest)
    or_noted (ands x) rest d = and_noted x rest d
    or_noted (or f x) rest d =
        let rest' = codes " or " ++ (and_text x ++ rest) in
        let e = or_drafted labels f rest' d in
        let l = filter_length (or_meaning word f) in
        let m = filter_length (and_meaning word x) in
        noted_add _ d _ _ _
        (noted_as d _ (l + (1 + m)) (1 + (l + m)) (or_names f rest' ++ and_names x rest) (omega arith)
        (noted_then d e (and_drafted labels x rest (counted e)) l (1 + m) (or_names f rest') (and_names x rest) (or_noted f rest' d) (noted_then e (counted e) (and_drafted labels x rest (counted e)) 1 m [] (and_names x rest) (noted_count e) (and_noted x rest (counted e)))))

    and_noted : (x : AndChain) (rest : List ℕ) (d : Draft) → Noted d (and_drafted labels x rest d) (filter_length (and_meaning word x)) (and_names x rest)
    and_noted (g.atom a) rest d = atom_noted a rest d
    and_noted (and x a) rest d =
        let rest' = codes " and " ++ (atom_text a ++ rest) in
        let e = and_drafted labels x rest' d in
        let l = filter_length (and_meaning word x) in
        let m = filter_length (atom_meaning word a) in
        noted_add _ d _ _ _
        (noted_as d _ (l + (1 + m)) (1 + (l + m)) (and_names x rest' ++ atom_names a rest) (omega arith)
        (noted_then d e (atom_drafted labels a rest (counted e)) l (1 + m) (and_names x rest') (atom_names a rest) (and_noted x rest' d) (noted_then e (counted e) (atom_drafted labels a rest (counted e)) 1 m [] (atom_names a rest) (noted_count e) (atom_noted a rest (counted e)))))

    atom_noted : (a : Atom) (rest : List ℕ) (d : Draft) → Noted d (atom_drafted labels a rest d) (filter_length (atom_meaning word a)) (atom_names a rest)
    atom_noted (along p) rest d = path_noted p rest d
    atom_noted (parens f) rest d = noted_enclosed (length (or_text f ++ (41 ∷ rest))) d _ _ _ (or_noted f (41 ∷ rest) (entered (length (or_text f ++ (41 ∷ rest))) d))
    atom_noted (negate f) rest d = noted_add _ d _ _ _ (noted_then d (counted d) (enclosed (or_text f) (or_drafted labels f) (41 ∷ rest) (counted d)) 1 (filter_length (or_meaning word f)) [] (or_names f (41 ∷ rest)) (noted_count d) (noted_enclosed (length (or_text f ++ (41 ∷ rest))) (counted d) _ _ _ (or_noted f (41 ∷ rest) (entered (length (or_text f ++ (41 ∷ rest))) (counted d)))))

  pub spine_noted : (p : PathTree) (rest : List ℕ) (d : Draft) → Noted d (spine_drafted labels p rest d) (path_length (path_meaning word p)) (path_names p rest)
  spine_noted (one s) rest d = noted_add _ d _ _ _ (step_noted s rest d)
  spine_noted (slash s p) rest d =
      let rest' = 47 ∷ (path_text p ++ rest) in
      let e = linked (step_axis s) d (step_drafted labels s rest' d) in
      noted_then d e (spine_drafted labels p rest e) (step_length (step_meaning word s)) (path_length (path_meaning word p)) (step_names s rest') (path_names p rest) (noted_add _ d _ _ _ (step_noted s rest' d)) (spine_noted p rest e)
