-- Small: where labels are ones that elements can have, a draft's parts are small, and so are those of the table it is copied into.
use Rattle.std.proofs.Common.{◌≡◌, ℕ, ◌-◌, ◌≤◌, ltb, List, [], ◌∷◌, ◌++◌, length, take, drop, set, Some, None, Ok, codes, Option, sym, refl, ap, ◌∙◌, subst, lit≤, arith}
use Rattle.std.specs.List.{All}
use Rattle.std.proofs.Math.Seq.{take-set-lt}
use Rattle.std.proofs.lemmas.Bool.{cond_both}
use Rattle.std.proofs.lemmas.Bool.Decides.{nat_tests}
use Rattle.std.proofs.lemmas.List.{length-set, length-take-le, take_at}
use Rattle.std.proofs.lemmas.List.Elements.{All-set, All-take, All-replicate}
use Rattle.model.specs.Limits.{most_label, most_parts}
use Rattle.model.specs.declared.axis.Axis.{Axis}
use Rattle.model.specs.Grammar.{TestTree, star, name, PathTree, StepTree, OrChain, AndChain, Atom, one, slash, bare, held, ands, or, atom, and, along, parens, negate, path_text, or_text, and_text, atom_text}
use Rattle.names.specs.Labels.{Labels, InRange}
use Rattle.reader.specs.declared.draft.Draft.{Draft}
use Rattle.reader.specs.Drafts.{part, started, added, counted, entered, exited, root, joined_to, reached, labelled, test_drafted, step_axis, step_drafted, path_drafted, or_drafted, and_drafted, atom_drafted, linked, spine_drafted}
use Rattle.table.specs.declared.part.Part.{Part}
use Rattle.table.specs.declared.part.Tag.{Tag}
use Rattle.table.specs.declared.part.Tag.TheVariants.{First, Any, Named, Filtered, Then, Along, And, Or, Not, Step}
use Rattle.table.specs.Lawful.{parts_in}
use Rattle.query.specs.declared.QuerySize.{QuerySize}
use Rattle.query.specs.Limits.{Tree, Copied}
use Rattle.query.specs.Small.{Small, SmallParts, SmallWhereRanged}
use Rattle.query.proofs.Built.{Ready, ready_counted, ready_entered}
use Rattle.query.proofs.Whole.{Room}

-- each part is small, and no more are written than a query may take
record SmallDraft (d : Draft) : Type 0 where
  ready : Ready d
  small : All Small d.parts

small_start : SmallDraft started
small_start = record { ready = record { size = refl; fits = lit≤ tt }; small = All-replicate Small most_parts (part First 0 0) (lit≤ tt, lit≤ tt) }

small_add : (p : Part) (d : Draft) → Small p → SmallDraft d → SmallDraft (added p d)
small_add p d s b =
    cond_both (ltb d.used most_parts) _ d SmallDraft
    (λ h. record { ready = record { size = length-set d.parts d.used p ∙ b.ready.size; fits = grind (arith, nat_tests) }; small = All-set Small d.parts d.used p s b.small })
    (λ h. b)

small_counted : (d : Draft) → SmallDraft d → SmallDraft (counted d)
small_counted d b = record { ready = ready_counted d b.ready; small = b.small }

small_entered : (left : ℕ) (d : Draft) → SmallDraft d → SmallDraft (entered left d)
small_entered left d b = record { ready = ready_entered left d b.ready; small = b.small }

small_exited : (d : Draft) → SmallDraft d → SmallDraft (exited d)
small_exited d b = record { ready = record { size = b.ready.size; fits = b.ready.fits }; small = b.small }

-- the place of the last part
root_small : (d : Draft) → SmallDraft d → root d ≤ most_label
root_small d b = omega (arith, b.ready.fits)

small_join : (tag : Tag) (i : ℕ) (d : Draft) → i ≤ most_label → SmallDraft d → SmallDraft (joined_to tag i d)
small_join tag i d h b = small_add (part tag i (root d)) d (h, root_small d b) b

small_reach : (tag : Tag) (d : Draft) → SmallDraft d → SmallDraft (reached tag d)
small_reach tag d b = small_add (part tag (root d) 0) d (root_small d b, lit≤ tt) b

small_link : (a : Axis) (before here : Draft) → SmallDraft before → SmallDraft here → SmallDraft (linked a before here)
small_link a before here b c = small_add (part (Step a) (root here) (root before)) here (root_small here c, root_small before b) c

small_name : (o : Option ℕ) (left : ℕ) (d : Draft) → InRange o → SmallDraft d → SmallDraft (labelled o left d)
small_name (Some l) left d r b = small_add (part Named l 0) d (r.1, lit≤ tt) b
small_name None left d r b = let c = small_add (part Named 0 0) d (lit≤ tt, lit≤ tt) b in record { ready = record { size = c.ready.size; fits = c.ready.fits }; small = c.small }

module _ (labels : Labels) (ranged : (n : List ℕ) → InRange (labels n)) where
  test_small : (x : TestTree) (rest : List ℕ) (d : Draft) → SmallDraft d → SmallDraft (test_drafted labels x rest d)
  test_small star rest d b = small_add (part Any 0 0) d (lit≤ tt, lit≤ tt) b
  test_small (name bytes e) rest d b = small_name (labels bytes) (length (bytes ++ rest)) d (ranged bytes) b

  mutual
    step_small : (s : StepTree) (rest : List ℕ) (d : Draft) → SmallDraft d → SmallDraft (step_drafted labels s rest d)
    step_small (bare a x) rest d b = test_small x rest (counted d) (small_counted d b)
    step_small (held a x f) rest d b =
        let e = test_drafted labels x (91 ∷ (or_text f ++ (93 ∷ rest))) (counted d) in
        let c = test_small x (91 ∷ (or_text f ++ (93 ∷ rest))) (counted d) (small_counted d b) in
        let left = length (or_text f ++ (93 ∷ rest)) in
        small_join Filtered (root e) _ (root_small e c) (small_exited _ (or_small f (93 ∷ rest) (entered left e) (small_entered left e c)))

    path_small : (p : PathTree) (rest : List ℕ) (d : Draft) → SmallDraft d → SmallDraft (path_drafted labels p rest d)
    path_small (one s) rest d b = small_reach (Along (step_axis s)) _ (step_small s rest d b)
    path_small (slash s p) rest d b =
        let e = step_drafted labels s (47 ∷ (path_text p ++ rest)) d in
        let c = step_small s (47 ∷ (path_text p ++ rest)) d b in
        small_reach (Along (step_axis s)) _ (small_join Then (root e) _ (root_small e c) (path_small p rest e c))

    or_small : (f : OrChain) (rest : List ℕ) (d : Draft) → SmallDraft d → SmallDraft (or_drafted labels f rest d)
    or_small (ands x) rest d b = and_small x rest d b
    or_small (or f x) rest d b =
        let e = or_drafted labels f (codes " or " ++ (and_text x ++ rest)) d in
        let c = or_small f (codes " or " ++ (and_text x ++ rest)) d b in
        small_join Or (root e) _ (root_small e c) (and_small x rest (counted e) (small_counted e c))

    and_small : (x : AndChain) (rest : List ℕ) (d : Draft) → SmallDraft d → SmallDraft (and_drafted labels x rest d)
    and_small (atom a) rest d b = atom_small a rest d b
    and_small (and x a) rest d b =
        let e = and_drafted labels x (codes " and " ++ (atom_text a ++ rest)) d in
        let c = and_small x (codes " and " ++ (atom_text a ++ rest)) d b in
        small_join And (root e) _ (root_small e c) (atom_small a rest (counted e) (small_counted e c))

    atom_small : (a : Atom) (rest : List ℕ) (d : Draft) → SmallDraft d → SmallDraft (atom_drafted labels a rest d)
    atom_small (along p) rest d b = path_small p rest d b
    atom_small (parens f) rest d b = let left = length (or_text f ++ (41 ∷ rest)) in small_exited _ (or_small f (41 ∷ rest) (entered left d) (small_entered left d b))
    atom_small (negate f) rest d b =
        let left = length (or_text f ++ (41 ∷ rest)) in
        small_reach Not _ (small_exited _ (or_small f (41 ∷ rest) (entered left (counted d)) (small_entered left (counted d) (small_counted d b))))

  spine_small : (p : PathTree) (rest : List ℕ) (d : Draft) → SmallDraft d → SmallDraft (spine_drafted labels p rest d)
  spine_small (one s) rest d b = small_link (step_axis s) d _ b (step_small s rest d b)
  spine_small (slash s p) rest d b =
      let rest' = 47 ∷ (path_text p ++ rest) in
      spine_small p rest _ (small_link (step_axis s) d _ b (step_small s rest' d b))

-- The front of small parts stands in the table, but that the first one names the last.
copied_small : (n : ℕ) (parts old new : List Part) → 1 ≤ n → n ≤ length parts → n ≤ most_parts → All Small parts → Copied n parts old new → parts_in new ≡ n → SmallParts new
copied_small n parts old new some room few s c named =
    let p = part First (n - 1) 0 in
    let front = take n parts in
    let k : take (parts_in new) new ≡ set front 0 p =
    ap (λ (i : ℕ). take i new) named ∙ ap (take n) c ∙ take-set-lt n (front ++ drop n old) 0 p (omega arith)
    ∙ ap (λ (ps : List Part). set ps 0 p) (take_at front (drop n old) n (length-take-le n parts room)) in
    subst (All Small) (sym k) (All-set Small front 0 p (omega arith, lit≤ tt) (All-take Small n parts s))

pub read_small : (t : List ℕ) (labels : Labels) (old new : List Part) (d : Draft) (size : QuerySize) → Tree t labels started d → Room (length old) d → Copied d.used d.parts old new → parts_in new ≡ d.used → SmallWhereRanged labels new (Ok size)
read_small t labels old new d size k r c named = λ ranged.
    let b = subst SmallDraft (sym k.made) (spine_small labels ranged k.tree [] started small_start) in
    copied_small d.used d.parts old new r.some (omega (arith, r.drafted, b.ready.size)) r.drafted b.small c named
