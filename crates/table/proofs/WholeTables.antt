-- Whole tables: the whole query's formula comes from the last part's.
use Rattle.std.proofs.Common.{◌≡◌, ℕ, ◌+◌, ◌-◌, ◌<◌, ◌≤◌, cond, List, [], length, take, sym, refl, ap, ◌∙◌, ⊎_elim, arith}
use Rattle.std.proofs.lemmas.Bool.{cases_lt, cond-false}
use Rattle.std.proofs.lemmas.List.{length-take-le, get_or_past}
use Rattle.model.specs.Verdict.{query_formula}
use Rattle.table.specs.declared.part.Part.{Part}
use Rattle.table.specs.declared.part.Tag.{Tag}
use Rattle.table.specs.declared.part.Tag.TheVariants.{First, Any, Named, Filtered, Then, Along, And, Or, Not, Step}
use Rattle.table.specs.Sorts.{sort_of, is_query}
use Rattle.table.specs.Reading.{Piece, begins, query_of, itself, piece_at, tagged, pieces, part_at, tag_at, last_place, reading}
use Rattle.table.specs.Formulas.{piece_formula, formula_at}
use Rattle.table.specs.Whole.{whole_reading, WholePartByPart}
use Rattle.table.proofs.Pieces.{piece_is, piece_stays, pieces_length}
use Rattle.table.proofs.Formulas.{each_part}

-- A step gives the whole query, any other part /self::*.
by_last : (t : Tag) (before : List Piece) (j k : ℕ) → query_formula (query_of (tagged t before j k)) ≡ cond (is_query (sort_of t)) (piece_formula (tagged t before j k)) (query_formula itself)
by_last First before j k = refl
by_last Any before j k = refl
by_last Named before j k = refl
by_last Filtered before j k = refl
by_last Then before j k = refl
by_last (Along a) before j k = refl
by_last And before j k = refl
by_last Or before j k = refl
by_last Not before j k = refl
by_last (Step a) before j k = refl

-- A part that is not there is no step either.
last_of : (parts : List Part) (n : ℕ) → query_formula (query_of (piece_at (pieces parts) n)) ≡ cond (is_query (sort_of (tag_at parts n))) (formula_at parts n) (query_formula itself)
last_of parts n = ⊎_elim there absent (cases_lt n (length parts))
  where
    there : n < length parts → query_formula (query_of (piece_at (pieces parts) n)) ≡ cond (is_query (sort_of (tag_at parts n))) (formula_at parts n) (query_formula itself)
    there h =
        let p = piece_is parts n h in
        ap (λ (x : Piece). query_formula (query_of x)) p ∙ by_last (tag_at parts n) (pieces (take n parts)) (part_at parts n).first (part_at parts n).second
        ∙ ap (λ (x : Piece). cond (is_query (sort_of (tag_at parts n))) (piece_formula x) (query_formula itself)) (sym p)

    absent : length parts ≤ n → query_formula (query_of (piece_at (pieces parts) n)) ≡ cond (is_query (sort_of (tag_at parts n))) (formula_at parts n) (query_formula itself)
    absent h =
        let piece : piece_at (pieces parts) n ≡ begins = get_or_past (pieces parts) n begins (omega (arith, pieces_length [] parts)) in
        let part : part_at parts n ≡ record { tag = First; first = 0; second = 0 } = get_or_past parts n _ h in
        ap (λ (x : Piece). query_formula (query_of x)) piece ∙ sym (cond-false (is_query (sort_of (tag_at parts n))) (formula_at parts n) (query_formula itself) (ap (λ (p : Part). is_query (sort_of p.tag)) part))

pub whole_part_by_part : (parts : List Part) → WholePartByPart parts
whole_part_by_part parts = record { each = each_part parts; whole = last_of parts (length parts - 1); named = last_of parts (last_place parts) }

-- Where the first part names the last of the first n, a table reads as those do.
pub whole_is_reading : (table : List Part) (n : ℕ) → last_place table + 1 ≡ n → n ≤ length table → reading table ≡ whole_reading (take n table)
whole_is_reading table n e h =
    let k : length (take n table) - 1 ≡ last_place table = omega (arith, length-take-le n table h, e) in
    sym (ap (λ (i : ℕ). query_of (piece_at (pieces (take n table)) i)) k ∙ ap query_of (piece_stays table n (last_place table) (omega (arith, e)) h))
