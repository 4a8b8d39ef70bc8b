-- Built: the parts that a tree drafts read as what it means, as long as there is room for them.
use Rattle.std.proofs.Common.{◌≡◌, ℕ, ◌+◌, ◌-◌, ◌*◌, ◌<◌, ◌≤◌, Bool, cond, List, [], ◌∷◌, ◌++◌, length, take, set, Some, None, codes, Option, refl, ap, ◌∙◌, arith}
use Rattle.std.proofs.lemmas.List.{take_more_set, length-set, length-take-le, get_or_append_left, get_or_push}
use Rattle.std.proofs.lemmas.Bool.{lt-ltb}
use Rattle.model.specs.Limits.{most_parts}
use Rattle.model.specs.Query.{named, Path, last, then, Filter, holds, both, either, negated, path_length, step_length, filter_length}
use Rattle.model.specs.Query as m
use Rattle.model.specs.Grammar.{TestTree, star, PathTree, StepTree, OrChain, AndChain, Atom, one, slash, bare, ands, or, and, along, parens, negate, path_text, or_text, and_text, atom_text, test_meaning, path_meaning, step_meaning, or_meaning, and_meaning, atom_meaning}
use Rattle.model.specs.Grammar as g
use Rattle.names.specs.Labels.{Labels}
use Rattle.reader.specs.declared.draft.Draft.{Draft}
use Rattle.table.specs.declared.part.Part.{Part}
use Rattle.table.specs.declared.part.Tag.{Tag}
use Rattle.table.specs.declared.part.Tag.TheVariants.{Any, Named, Filtered, Then, Along, And, Or, Not, Step}
use Rattle.table.specs.Reading.{Asked, only, also, Piece, begins, asks, onward, path, filter, query, step_of, extended, test_of, asked_of, path_of, path_to, filter_of, query_with, piece_at, tagged, piece_of, pieces}
use Rattle.reader.specs.Drafts.{part, added, counted, noted, entered, exited, root, joined_to, reached, labelled, enclosed, test_drafted, step_axis, step_drafted, path_drafted, or_drafted, and_drafted, atom_drafted, linked, spine_drafted}
use Rattle.query.specs.Answers.{or_zero}
use Rattle.table.proofs.Pieces.{pieces_push, pieces_length}

abbrev pub written : Draft → List Part
written d = take d.used d.parts

abbrev pub read : Draft → List Piece
read d = pieces (written d)

pub record Ready (d : Draft) : Type 0 where
  pub size : length d.parts ≡ most_parts
  pub fits : d.used ≤ most_parts

read_length : (d : Draft) → Ready d → length (read d) ≡ d.used
read_length d r = omega (arith, pieces_length [] (written d), length-take-le d.used d.parts (omega (arith, r.size, r.fits)))

-- From draft d to draft e: what stood there stands, and the last part reads as the piece.
pub record Built (d e : Draft) (x : Piece) (n : ℕ) : Type 0 where
  pub ready : Ready e
  pub more : d.used < e.used
  pub most : e.used ≤ d.used + n
  pub keeps : (i : ℕ) → i < d.used → piece_at (read e) i ≡ piece_at (read d) i
  pub last : piece_at (read e) (root e) ≡ x

-- the draft after a part that finds room
abbrev put : Part → Draft → Draft
put p d = record { parts = set d.parts d.used p; used = d.used + 1; count = d.count; unknown = d.unknown; depth = d.depth; deep = d.deep }

added_is : (p : Part) (d : Draft) → d.used < most_parts → added p d ≡ put p d
added_is p d h = ap (λ (b : Bool). cond b (put p d) d) (lt-ltb d.used most_parts h)

read_put : (p : Part) (d : Draft) → Ready d → d.used < most_parts → read (put p d) ≡ read d ++ (piece_of (read d) p ∷ [])
read_put p d r h = ap pieces (take_more_set d.parts d.used p (omega (arith, r.size))) ∙ pieces_push [] (written d) p

built_put : (p : Part) (d : Draft) → Ready d → d.used < most_parts → Built d (put p d) (piece_of (read d) p) 1
built_put p d r h =
    let k = read_length d r in
    let z : d.used + 1 - 1 ≡ d.used = omega arith in
    record {
      ready = record { size = length-set d.parts d.used p ∙ r.size; fits = omega arith };
      more = omega arith;
      most = omega arith;
      keeps = λ i l. ap (λ (x : List Piece). piece_at x i) (read_put p d r h) ∙ get_or_append_left (read d) (piece_of (read d) p ∷ []) begins i (omega arith);
      last = ap (λ (j : ℕ). piece_at (read (put p d)) j) z ∙ ap (λ (x : List Piece). piece_at x d.used) (read_put p d r h) ∙ get_or_push (read d) (piece_of (read d) p) begins d.used k;
    }

pub built_add : (p : Part) (d : Draft) → Ready d → d.used < most_parts → Built d (added p d) (piece_of (read d) p) 1
built_add p d r h = rw (added_is p d h) (built_put p d r h)

-- one after the other
pub built_then : (d e h : Draft) (x y : Piece) (n m : ℕ) → Built d e x n → Built e h y m → Built d h y (n + m)
built_then d e h x y n m a b =
    record {
      ready = b.ready;
      more = omega (arith, a.more, b.more);
      most = omega (arith, a.most, b.most);
      keeps = λ i l. b.keeps i (omega (arith, a.more)) ∙ a.keeps i l;
      last = b.last;
    }

-- the first of the two is still read
still : (d e h : Draft) (x y : Piece) (n m : ℕ) → Built d e x n → Built e h y m → piece_at (read h) (root e) ≡ x
still d e h x y n m a b = b.keeps (root e) (omega (arith, a.more)) ∙ a.last

weaken : (d e : Draft) (x y : Piece) (n m : ℕ) → n ≤ m → x ≡ y → Built d e x n → Built d e y m
weaken d e x y n m h q b = record { ready = b.ready; more = b.more; most = omega (arith, b.most); keeps = b.keeps; last = b.last ∙ q }

-- Neither a count nor a note nor a bracket changes what is read.
from_counted : (d e : Draft) (x : Piece) (n : ℕ) → Built (counted d) e x n → Built d e x n
from_counted d e x n b = record { ready = b.ready; more = b.more; most = b.most; keeps = b.keeps; last = b.last }

pub ready_counted : (d : Draft) → Ready d → Ready (counted d)
ready_counted d r = record { size = r.size; fits = r.fits }

built_enclosed : (left : ℕ) (d e : Draft) (x : Piece) (n : ℕ) → Built (entered left d) e x n → Built d (exited e) x n
built_enclosed left d e x n b = record { ready = record { size = b.ready.size; fits = b.ready.fits }; more = b.more; most = b.most; keeps = b.keeps; last = b.last }

pub ready_entered : (left : ℕ) (d : Draft) → Ready d → Ready (entered left d)
ready_entered left d r = record { size = r.size; fits = r.fits }

built_noted : (left : ℕ) (d e : Draft) (x : Piece) (n : ℕ) → Built d e x n → Built d (noted left e) x n
built_noted left d e x n b = record { ready = record { size = b.ready.size; fits = b.ready.fits }; more = b.more; most = b.most; keeps = b.keeps; last = b.last }

-- a part over the last one, and one over two
built_over : (tag : Tag) (make : Piece → Piece) → ((before : List Piece) (i : ℕ) → tagged tag before i 0 ≡ make (piece_at before i)) → (d e : Draft) (x : Piece) (n : ℕ) → Built d e x n → e.used < most_parts → Built d (reached tag e) (make x) (n + 1)
built_over tag make is d e x n b h = weaken d (reached tag e) _ (make x) (n + 1) (n + 1) (omega arith) (is (read e) (root e) ∙ ap make b.last) (built_then d e (reached tag e) x _ n 1 b (built_add (part tag (root e) 0) e b.ready h))

built_join : (tag : Tag) (make : Piece → Piece → Piece) → ((before : List Piece) (i j : ℕ) → tagged tag before i j ≡ make (piece_at before i) (piece_at before j)) → (d e h : Draft) (x y : Piece) (n m : ℕ) → Built d e x n → Built e h y m → h.used < most_parts → Built d (joined_to tag (root e) h) (make x y) (n + m + 1)
built_join tag make is d e h x y n m a b l =
    weaken d (joined_to tag (root e) h) _ (make x y) (n + m + 1) (n + m + 1) (omega arith)
    (is (read h) (root e) (root h) ∙ ap (λ (z : Piece). make z (piece_at (read h) (root h))) (still d e h x y n m a b) ∙ ap (make x) b.last)
    (built_then d h (joined_to tag (root e) h) y _ (n + m) 1 (built_then d e h x y n m a b) (built_add (part tag (root e) (root h)) h b.ready l))

-- the piece of a filter: a path is one by itself
abbrev held : Filter → Piece
held (holds p) = path p
held (both f g) = filter (both f g)
held (either f g) = filter (either f g)
held (negated f) = filter (negated f)

held_is : (f : Filter) → filter_of (held f) ≡ f
held_is (holds p) = refl
held_is (both f g) = refl
held_is (either f g) = refl
held_is (negated f) = refl

both_held : (make : Filter → Filter → Filter) (f g : Filter) → filter (make (filter_of (held f)) (filter_of (held g))) ≡ filter (make f g)
both_held make f g = ap (λ (x : Filter). filter (make x (filter_of (held g)))) (held_is f) ∙ ap (λ (y : Filter). filter (make f y)) (held_is g)

-- A path that goes on where a query ends.
abbrev onto : Piece → Path → Path
onto before (last s) = query_with before s
onto before (then s p) = onto (query (query_with before s)) p

abbrev end_to_end : Path → Path → Path
end_to_end (last s) p = then s p
end_to_end (then s q) p = then s (end_to_end q p)

extended_is : (q : Path) (s : m.Step) → extended q s ≡ end_to_end q (last s)
extended_is (last r) s = refl
extended_is (then r q) s = ap (then r) (extended_is q s)

extended_then : (q : Path) (s : m.Step) (p : Path) → end_to_end (extended q s) p ≡ end_to_end q (then s p)
extended_then (last r) s p = refl
extended_then (then r q) s p = ap (then r) (extended_then q s p)

onto_query : (q p : Path) → onto (query q) p ≡ end_to_end q p
onto_query q (last s) = extended_is q s
onto_query q (then s p) = onto_query (extended q s) p ∙ extended_then q s p

onto_start : (p : Path) → onto begins p ≡ p
onto_start (last s) = refl
onto_start (then s p) = onto_query (last s) p

module _ (labels : Labels) where
  -- the label of a name, 0 for an unknown one
  abbrev pub label : List ℕ → ℕ
  label n = or_zero (labels n)

  named_built : (o : Option ℕ) (left : ℕ) (d : Draft) → Ready d → d.used < most_parts → Built d (labelled o left d) (asks (only (named (or_zero o)))) 1
  named_built (Some l) left d r h = built_add (part Named l 0) d r h
  named_built None left d r h = built_noted left d (added (part Named 0 0) d) _ 1 (built_add (part Named 0 0) d r h)

  test_built : (x : TestTree) (rest : List ℕ) (d : Draft) → Ready d → d.used < most_parts → Built d (test_drafted labels x rest (counted d)) (asks (only (test_meaning label x))) 1
  test_built star rest d r h = from_counted d _ _ 1 (built_add (part Any 0 0) (counted d) (ready_counted d r) h)
  test_built (g.name bytes e) rest d r h = from_counted d _ _ 1 (named_built (labels bytes) (length (bytes ++ rest)) (counted d) (ready_counted d r) h)

  -- what a step asks
  abbrev asked : StepTree → Asked
  asked (bare a x) = only (test_meaning label x)
  asked (g.held a x f) = also (test_meaning label x) (or_meaning label f)

  step_same : (s : StepTree) → step_of (step_axis s) (asked s) ≡ step_meaning label s
  step_same (bare a x) = refl
  step_same (g.held a x f) = refl

  step_some : (s : StepTree) → 1 ≤ step_length (step_meaning label s)
  step_some (bare a x) = omega arith
  step_some (g.held a x f) = omega arith

  abbrev StepBuilt : StepTree → Type 0
  StepBuilt s = (rest : List ℕ) (d : Draft) → Ready d → d.used + 4 * step_length (step_meaning label s) ≤ most_parts → Built d (step_drafted labels s rest d) (asks (asked s)) (4 * step_length (step_meaning label s) - 2)

  abbrev PathBuilt : PathTree → Type 0
  PathBuilt p = (rest : List ℕ) (d : Draft) → Ready d → d.used + 4 * path_length (path_meaning label p) ≤ most_parts → Built d (path_drafted labels p rest d) (path (path_meaning label p)) (4 * path_length (path_meaning label p))

  mutual
    step_built : (s : StepTree) → StepBuilt s
    step_built (bare a x) rest d r h = weaken d _ _ _ 1 2 (omega arith) refl (test_built x rest d r (omega arith))
    step_built (g.held a x f) rest d r h =
        let rest' = 91 ∷ (or_text f ++ (93 ∷ rest)) in
        let e = test_drafted labels x rest' (counted d) in
        let b = test_built x rest' d r (omega arith) in
        let left = length (or_text f ++ (93 ∷ rest)) in
        let k = built_enclosed left e _ _ _ (or_built f (93 ∷ rest) (entered left e) (ready_entered left e b.ready) (omega (arith, b.most))) in
        let make : Piece → Piece → Piece = λ y z. asks (also (test_of y) (filter_of z)) in
        weaken d _ _ _ (1 + 4 * filter_length (or_meaning label f) + 1) _ (omega arith) (ap (λ (z : Filter). asks (also (test_meaning label x) z)) (held_is (or_meaning label f)))
        (built_join Filtered make (λ before i j. refl) d e (enclosed (or_text f) (or_drafted labels f) (93 ∷ rest) e) _ _ 1 _ b k (omega (arith, b.most, k.most)))

    path_built : (p : PathTree) → PathBuilt p
    path_built (one s) rest d r h =
        let b = step_built s rest d r h in
        let make : Piece → Piece = λ y. path (path_to (step_axis s) y) in
        weaken d _ _ _ _ _ (omega arith) (ap (λ (z : m.Step). path (last z)) (step_same s)) (built_over (Along (step_axis s)) make (λ before i. refl) d _ _ _ b (omega (arith, b.most, step_some s)))
    path_built (slash s p) rest d r h =
        let rest' = 47 ∷ (path_text p ++ rest) in
        let e = step_drafted labels s rest' d in
        let b = step_built s rest' d r (omega arith) in
        let c = path_built p rest e b.ready (omega (arith, b.most)) in
        let rest_of : Piece → Piece → Piece = λ y z. onward (asked_of y) (path_of z) in
        let make : Piece → Piece = λ y. path (path_to (step_axis s) y) in
        let k = built_join Then rest_of (λ before i j. refl) d e (path_drafted labels p rest e) _ _ _ _ b c (omega (arith, b.most, c.most, step_some s)) in
        weaken d _ _ _ _ _ (omega (arith, step_some s)) (ap (λ (z : m.Step). path (then z (path_meaning label p))) (step_same s)) (built_over (Along (step_axis s)) make (λ before i. refl) d _ _ _ k (omega (arith, k.most, step_some s)))

    or_built : (f : OrChain) (rest : List ℕ) (d : Draft) → Ready d → d.used + 4 * filter_length (or_meaning label f) ≤ most_parts → Built d (or_drafted labels f rest d) (held (or_meaning label f)) (4 * filter_length (or_meaning label f))
    or_built (ands x) rest d r h = and_built x rest d r h
    or_built (or f x) rest d r h =
        let rest' = codes " or " ++ (and_text x ++ rest) in
        let e = or_drafted labels f rest' d in
        let b = or_built f rest' d r (omega arith) in
        let c = from_counted e _ _ _ (and_built x rest (counted e) (ready_counted e b.ready) (omega (arith, b.most))) in
        let make : Piece → Piece → Piece = λ y z. filter (either (filter_of y) (filter_of z)) in
        weaken d _ _ _ _ _ (omega arith) (both_held either (or_meaning label f) (and_meaning label x)) (built_join Or make (λ before i j. refl) d e (and_drafted labels x rest (counted e)) _ _ _ _ b c (omega (arith, b.most, c.most)))

    and_built : (x : AndChain) (rest : List ℕ) (d : Draft) → Ready d → d.used + 4 * filter_length (and_meaning label x) ≤ most_parts → Built d (and_drafted labels x rest d) (held (and_meaning label x)) (4 * filter_length (and_meaning label x))
    and_built (g.atom a) rest d r h = atom_built a rest d r h
    and_built (and x a) rest d r h =
        let rest' = codes " and " ++ (atom_text a ++ rest) in
        let e = and_drafted labels x rest' d in
        let b = and_built x rest' d r (omega arith) in
        let c = from_counted e _ _ _ (atom_built a rest (counted e) (ready_counted e b.ready) (omega (arith, b.most))) in
        let make : Piece → Piece → Piece = λ y z. filter (both (filter_of y) (filter_of z)) in
        weaken d _ _ _ _ _ (omega arith) (both_held both (and_meaning label x) (atom_meaning label a)) (built_join And make (λ before i j. refl) d e (atom_drafted labels a rest (counted e)) _ _ _ _ b c (omega (arith, b.most, c.most)))

    atom_built : (a : Atom) (rest : List ℕ) (d : Draft) → Ready d → d.used + 4 * filter_length (atom_meaning label a) ≤ most_parts → Built d (atom_drafted labels a rest d) (held (atom_meaning label a)) (4 * filter_length (atom_meaning label a))
    atom_built (along p) rest d r h = path_built p rest d r h
    atom_built (parens f) rest d r h =
        let left = length (or_text f ++ (41 ∷ rest)) in
        built_enclosed left d _ _ _ (or_built f (41 ∷ rest) (entered left d) (ready_entered left d r) h)
    atom_built (negate f) rest d r h =
        let left = length (or_text f ++ (41 ∷ rest)) in
        let b = from_counted d _ _ _ (built_enclosed left (counted d) _ _ _ (or_built f (41 ∷ rest) (entered left (counted d)) (ready_entered left (counted d) (ready_counted d r)) (omega arith))) in
        let make : Piece → Piece = λ y. filter (negated (filter_of y)) in
        weaken d _ _ _ _ _ (omega arith) (ap (λ (z : Filter). filter (negated z)) (held_is (or_meaning label f))) (built_over Not make (λ before i. refl) d (enclosed (or_text f) (or_drafted labels f) (41 ∷ rest) (counted d)) _ _ b (omega (arith, b.most)))

  -- a step joined with the query before it
  link_built : (s : StepTree) (rest : List ℕ) (d : Draft) (before : Piece) → Ready d → 0 < d.used → piece_at (read d) (root d) ≡ before → d.used + 4 * step_length (step_meaning label s) ≤ most_parts → Built d (linked (step_axis s) d (step_drafted labels s rest d)) (query (query_with before (step_meaning label s))) (4 * step_length (step_meaning label s))
  link_built s rest d before r u q h =
      let e = step_drafted labels s rest d in
      let b = step_built s rest d r h in
      let a = step_axis s in
      let made : Piece → Piece → Piece = λ y z. query (query_with z (step_of a (asked_of y))) in
      let k = ap (λ (y : Piece). made y (piece_at (read e) (root d))) b.last ∙ ap (made (asks (asked s))) (b.keeps (root d) (omega arith) ∙ q) ∙ ap (λ (z : m.Step). query (query_with before z)) (step_same s) in
      weaken d _ _ _ _ _ (omega (arith, step_some s)) k (built_then d e (linked a d e) _ _ _ 1 b (built_add (part (Step a) (root e) (root d)) e b.ready (omega (arith, b.most, step_some s))))

  -- the query's own path, after what came before it
  spine_built : (p : PathTree) (rest : List ℕ) (d : Draft) (before : Piece) → Ready d → 0 < d.used → piece_at (read d) (root d) ≡ before → d.used + 4 * path_length (path_meaning label p) ≤ most_parts → Built d (spine_drafted labels p rest d) (query (onto before (path_meaning label p))) (4 * path_length (path_meaning label p))
  spine_built (one s) rest d before r u q h = link_built s rest d before r u q h
  spine_built (slash s p) rest d before r u q h =
      let rest' = 47 ∷ (path_text p ++ rest) in
      let e = linked (step_axis s) d (step_drafted labels s rest' d) in
      let b = link_built s rest' d before r u q (omega arith) in
      let c = spine_built p rest e (query (query_with before (step_meaning label s))) b.ready (omega (arith, b.more)) b.last (omega (arith, b.most)) in
      weaken d _ _ _ _ _ (omega arith) refl (built_then d e (spine_drafted labels p rest e) _ _ _ _ b c)

  -- the whole query, from where it starts
  pub query_built : (p : PathTree) (rest : List ℕ) (d : Draft) → Ready d → 0 < d.used → piece_at (read d) (root d) ≡ begins → d.used + 4 * path_length (path_meaning label p) ≤ most_parts → Built d (spine_drafted labels p rest d) (query (path_meaning label p)) (4 * path_length (path_meaning label p))
  query_built p rest d r u q h = weaken d _ _ _ _ _ (omega arith) (ap query (onto_start (path_meaning label p))) (spine_built p rest d begins r u q h)
