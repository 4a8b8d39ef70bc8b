-- Pieces: a part more is a piece more, and the pieces before it stay; the same for the steps of a query.
use Rattle.std.proofs.Common.{◌≡◌, ℕ, ◌+◌, ◌<◌, ◌≤◌, List, [], ◌∷◌, ◌++◌, length, take, drop, sym, refl, ap, ◌∙◌, arith}
use Rattle.std.proofs.lemmas.List.{length-append, length-take-le, get_or_append_left, get_or_push, get_or_past, drop_more, take-append-drop}
use Rattle.model.specs.Receipt.{Receipt}
use Rattle.model.specs.Query.{Path, last, then, Step}
use Rattle.model.specs.Selection.{Set, path_keeps, step_keeps}
use Rattle.model.specs.Verdict.{Formula, path_from, step_from}
use Rattle.table.specs.declared.part.Part.{Part}
use Rattle.table.specs.Reading.{Piece, begins, extended, piece_at, piece_of, pieces_after, pieces, part_at}

pub pieces_push : (before : List Piece) (ps : List Part) (p : Part) → pieces_after before (ps ++ (p ∷ [])) ≡ pieces_after before ps ++ (piece_of (pieces_after before ps) p ∷ [])
pieces_push before [] p = refl
pieces_push before (q ∷ ps) p = pieces_push (before ++ (piece_of before q ∷ [])) ps p

pub pieces_length : (before : List Piece) (ps : List Part) → length (pieces_after before ps) ≡ length before + length ps
pieces_length before [] = omega arith
pieces_length before (p ∷ ps) = omega (arith, pieces_length (before ++ (piece_of before p ∷ [])) ps, length-append before (piece_of before p ∷ []))

pieces_split : (before : List Piece) (ps qs : List Part) → pieces_after before (ps ++ qs) ≡ pieces_after (pieces_after before ps) qs
pieces_split before [] qs = refl
pieces_split before (p ∷ ps) qs = pieces_split (before ++ (piece_of before p ∷ [])) ps qs

-- what stands before further parts stays
pub pieces_stay : (before : List Piece) (ps : List Part) (j : ℕ) → j < length before → piece_at (pieces_after before ps) j ≡ piece_at before j
pieces_stay before [] j h = refl
pieces_stay before (p ∷ ps) j h =
    let x = piece_of before p ∷ [] in
    pieces_stay (before ++ x) ps j (omega (arith, length-append before x)) ∙ get_or_append_left before x begins j h

module _ (ps : List Part) (i : ℕ) (h : i ≤ length ps) where
  front_length : length (pieces (take i ps)) ≡ i
  front_length = omega (arith, pieces_length [] (take i ps), length-take-le i ps h)

  front_split : pieces ps ≡ pieces_after (pieces (take i ps)) (drop i ps)
  front_split = ap pieces (sym (take-append-drop i ps)) ∙ pieces_split [] (take i ps) (drop i ps)

-- A piece before place i is the same in the first i parts; they have none from there on.
pub piece_stays : (ps : List Part) (i j : ℕ) → j < i → i ≤ length ps → piece_at (pieces (take i ps)) j ≡ piece_at (pieces ps) j
piece_stays ps i j l h = cc (front_split ps i h, pieces_stay (pieces (take i ps)) (drop i ps) j (omega (arith, front_length ps i h)))

pub piece_none : (ps : List Part) (i j : ℕ) → i ≤ j → i ≤ length ps → piece_at (pieces (take i ps)) j ≡ begins
piece_none ps i j l h = get_or_past (pieces (take i ps)) j begins (omega (arith, front_length ps i h))

-- The piece at a place is that of the part there, over the pieces before it.
pub piece_is : (ps : List Part) (i : ℕ) → i < length ps → piece_at (pieces ps) i ≡ piece_of (pieces (take i ps)) (part_at ps i)
piece_is ps i h =
    let before = pieces (take i ps) in
    let x = piece_of before (part_at ps i) in
    let n = front_length ps i (omega arith) in
    ap (λ (y : List Piece). piece_at y i) (front_split ps i (omega arith) ∙ ap (pieces_after before) (drop_more ps i _ h))
    ∙ pieces_stay (before ++ (x ∷ [])) (drop (i + 1) ps) i (omega (arith, length-append before (x ∷ []))) ∙ get_or_push before x begins i n

-- One step more: what it keeps of what the query before it keeps, and its formula over that before it.
pub extended_keeps : (r : Receipt) (q : Path) (s : Step) (from : Set) → path_keeps r (extended q s) from ≡ step_keeps r s (path_keeps r q from)
extended_keeps r (last t) s from = refl
extended_keeps r (then t q) s from = extended_keeps r q s (step_keeps r t from)

pub extended_from : (f : Formula) (q : Path) (s : Step) → path_from f (extended q s) ≡ step_from (path_from f q) s
extended_from f (last t) s = refl
extended_from f (then t q) s = extended_from (step_from f t) q s
