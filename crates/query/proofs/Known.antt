-- Known: where every name of a tree has a label, the labels are ones that elements can have.
use Rattle.std.proofs.Common.{◌≡◌, ℕ, Bool, true, false, cond, leb, List, [], ◌∷◌, ◌++◌, length, is_some, Some, None, codes, Option, sym, refl}
use Rattle.std.proofs.lemmas.Option.{none-some}
use Rattle.std.proofs.lemmas.Bool.{and_from, le-leb, false≢true}
use Rattle.model.specs.Limits.{most_label}
use Rattle.model.specs.Query.{named}
use Rattle.model.specs.Grammar.{TestTree, star, name, PathTree, StepTree, OrChain, AndChain, Atom, one, slash, bare, held, ands, or, atom, and, along, parens, negate, path_text, or_text, and_text, atom_text, test_meaning, path_meaning, step_meaning, or_meaning, and_meaning, atom_meaning}
use Rattle.names.specs.Labels.{Labels, InRange}
use Rattle.table.specs.Lawful.{test_labelled, path_labelled, step_labelled, filter_labelled}
use Rattle.query.specs.Answers.{test_names, path_names, step_names, or_names, and_names, atom_names, first_unknown, or_zero}

module _ (labels : Labels) (ranged : (n : List ℕ) → InRange (labels n)) where
  abbrev label : List ℕ → ℕ
  label n = or_zero (labels n)

  known_both : (ns ms : List (List ℕ × List ℕ)) → first_unknown labels (ns ++ ms) ≡ None → (first_unknown labels ns ≡ None) × (first_unknown labels ms ≡ None)
  known_both [] ms e = (refl, e)
  known_both (n ∷ ns) ms e = by (is_some (labels n.0)) (known_both ns ms) e
    where
      by : (b : Bool) → (first_unknown labels (ns ++ ms) ≡ None → (first_unknown labels ns ≡ None) × (first_unknown labels ms ≡ None)) → cond b (first_unknown labels (ns ++ ms)) (Some (length n.1)) ≡ None → (cond b (first_unknown labels ns) (Some (length n.1)) ≡ None) × (first_unknown labels ms ≡ None)
      by true f k = f k
      by false f k = absurd (none-some _ (sym k))

  name_known : (b : Bool) (n : ℕ) → cond b None (Some n) ≡ None → b ≡ true
  name_known true n e = refl
  name_known false n e = absurd (none-some _ (sym e))

  in_range : (o : Option ℕ) → InRange o → is_some o ≡ true → test_labelled (named (or_zero o)) ≡ true
  in_range None r e = absurd (false≢true e)
  in_range (Some l) r e = and_from (leb 1 l) (leb l most_label) (le-leb 1 l r.0) (le-leb l most_label r.1)

  test_known : (t : TestTree) (rest : List ℕ) → first_unknown labels (test_names t rest) ≡ None → test_labelled (test_meaning label t) ≡ true
  test_known star rest e = refl
  test_known (name bytes x) rest e = in_range (labels bytes) (ranged bytes) (name_known (is_some (labels bytes)) _ e)

  mutual
    pub path_known : (t : PathTree) (rest : List ℕ) → first_unknown labels (path_names t rest) ≡ None → path_labelled (path_meaning label t) ≡ true
    path_known (one s) rest e = step_known s rest e
    path_known (slash s p) rest e =
        let k = known_both (step_names s (47 ∷ (path_text p ++ rest))) (path_names p rest) e in
        and_from (step_labelled (step_meaning label s)) (path_labelled (path_meaning label p)) (step_known s _ k.0) (path_known p rest k.1)

    step_known : (t : StepTree) (rest : List ℕ) → first_unknown labels (step_names t rest) ≡ None → step_labelled (step_meaning label t) ≡ true
    step_known (bare a x) rest e = test_known x rest e
    step_known (held a x f) rest e =
        let k = known_both (test_names x (91 ∷ (or_text f ++ (93 ∷ rest)))) (or_names f (93 ∷ rest)) e in
        and_from (test_labelled (test_meaning label x)) (filter_labelled (or_meaning label f)) (test_known x _ k.0) (or_known f _ k.1)

    or_known : (t : OrChain) (rest : List ℕ) → first_unknown labels (or_names t rest) ≡ None → filter_labelled (or_meaning label t) ≡ true
    or_known (ands x) rest e = and_known x rest e
    or_known (or f x) rest e =
        let k = known_both (or_names f (codes " or " ++ (and_text x ++ rest))) (and_names x rest) e in
        and_from (filter_labelled (or_meaning label f)) (filter_labelled (and_meaning label x)) (or_known f _ k.0) (and_known x rest k.1)

    and_known : (t : AndChain) (rest : List ℕ) → first_unknown labels (and_names t rest) ≡ None → filter_labelled (and_meaning label t) ≡ true
    and_known (atom a) rest e = atom_known a rest e
    and_known (and x a) rest e =
        let k = known_both (and_names x (codes " and " ++ (atom_text a ++ rest))) (atom_names a rest) e in
        and_from (filter_labelled (and_meaning label x)) (filter_labelled (atom_meaning label a)) (and_known x _ k.0) (atom_known a rest k.1)

    atom_known : (t : Atom) (rest : List ℕ) → first_unknown labels (atom_names t rest) ≡ None → filter_labelled (atom_meaning label t) ≡ true
    atom_known (along p) rest e = path_known p rest e
    atom_known (parens f) rest e = or_known f _ e
    atom_known (negate f) rest e = or_known f _ e
