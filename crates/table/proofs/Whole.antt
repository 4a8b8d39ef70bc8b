-- Whole: the last part of a query, and what a cut of the table leaves of it.
use Rattle.std.proofs.Common.{◌≡◌, ℕ, ◌<◌, ◌≤◌, true, false, List, [], ◌∷◌, length, take, set, sym, refl, ap, ◌∙◌, arith}
use Rattle.std.proofs.lemmas.List.{get_or-take, get_or_past, get_or-set_same}
use Rattle.std.specs.Bool.{MatchBool}
use Rattle.std.proofs.lemmas.Bool.{MatchBool-at_true, MatchBool-at_false}
use Rattle.table.specs.declared.part.Part.{Part}
use Rattle.table.specs.declared.part.Tag.{Tag}
use Rattle.table.specs.declared.part.Tag.TheVariants.{First, Any, Named, Filtered, Then, Along, And, Or, Not, Step}
use Rattle.table.specs.Sorts.{sort_of, is_query}
use Rattle.table.specs.Reading.{Piece, begins, query, query_of, itself, piece_at, piece_of, tagged, pieces, pieces_after, part_at, tag_at, last_place, reading}
use Rattle.table.specs.Formulas.{ends_in_step}
use Rattle.table.proofs.Pieces.{piece_is, piece_stays, pieces_length, pieces_stay}

-- A step is a query, and every other part reads as /self::* where a query is wanted.
by_tag : (t : Tag) (before : List Piece) (j k : ℕ) → let x = tagged t before j k in MatchBool (is_query (sort_of t)) (query (query_of x) ≡ x) (query_of x ≡ itself)
by_tag First before j k = refl
by_tag Any before j k = refl
by_tag Named before j k = refl
by_tag Filtered before j k = refl
by_tag Then before j k = refl
by_tag (Along a) before j k = refl
by_tag And before j k = refl
by_tag Or before j k = refl
by_tag Not before j k = refl
by_tag (Step a) before j k = refl

pub whole_query : (parts : List Part) → last_place parts < length parts → ends_in_step parts ≡ true → query (reading parts) ≡ piece_at (pieces parts) (last_place parts)
whole_query parts h e =
    let n = last_place parts in
    cc (piece_is parts n h, MatchBool-at_true _ _ e (by_tag (tag_at parts n) (pieces (take n parts)) (part_at parts n).first (part_at parts n).second))

-- Where the last part is no step, or not there, the query is /self::*.
pub no_step : (parts : List Part) → last_place parts < length parts → ends_in_step parts ≡ false → reading parts ≡ itself
no_step parts h e =
    let n = last_place parts in
    cc (piece_is parts n h, MatchBool-at_false _ _ e (by_tag (tag_at parts n) (pieces (take n parts)) (part_at parts n).first (part_at parts n).second))

pub no_last : (parts : List Part) → length parts ≤ last_place parts → reading parts ≡ itself
no_last parts h = ap query_of (get_or_past (pieces parts) (last_place parts) begins (omega (arith, pieces_length [] parts)))

-- The parts up to the last one read as the table does.
module _ (parts : List Part) (n : ℕ) where
  part_stays : (i : ℕ) → i < n → part_at (take n parts) i ≡ part_at parts i
  part_stays i h = get_or-take n parts i _ h

  pub last_stays : 0 < n → last_place (take n parts) ≡ last_place parts
  last_stays h = cc (part_stays 0 h)

  pub reading_stays : last_place parts < n → n ≤ length parts → reading (take n parts) ≡ reading parts
  reading_stays h l = cc (last_stays (omega arith), piece_stays parts n (last_place parts) h l)

  pub step_stays : last_place parts < n → ends_in_step (take n parts) ≡ ends_in_step parts
  step_stays h = cc (last_stays (omega arith), part_stays (last_place parts) h)

-- A part that only says where a query starts can name the last part without changing what any part reads as.
pub named_last : (table : List Part) (k : ℕ) → 0 < length table → piece_at (pieces table) 0 ≡ begins → reading (set table 0 (record { tag = First; first = k; second = 0 })) ≡ query_of (piece_at (pieces table) k)
named_last [] k h e = absurd (omega arith)
named_last (p ∷ ps) k h e =
    let x = piece_of [] p in
    let b : x ≡ begins = sym (pieces_stay (x ∷ []) ps 0 (omega arith)) ∙ e in
    sym (ap (λ (y : Piece). query_of (piece_at (pieces_after (y ∷ []) ps) k)) b)

pub named_last_place : (table : List Part) (k : ℕ) → 0 < length table → last_place (set table 0 (record { tag = First; first = k; second = 0 })) ≡ k
named_last_place table k h = ap (λ (p : Part). p.first) (get_or-set_same table 0 _ _ h)
