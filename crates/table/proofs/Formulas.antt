-- Formulas: each part's formula comes from those of the parts that it names.
use Rattle.std.proofs.Common.{◌≡◌, ℕ, ◌+◌, ◌-◌, ◌<◌, true, List, length, take, sym, refl, ap, ◌∙◌, arith}
use Rattle.model.specs.declared.axis.Axis.{Axis}
use Rattle.model.specs.Axes.{inverse}
use Rattle.model.specs.Query.{Path, last, then}
use Rattle.model.specs.Query as m
use Rattle.model.specs.Verdict.{Formula, first, conj, neg, along, path_formula, step_from, query_formula}
use Rattle.table.specs.declared.part.Part.{Part}
use Rattle.table.specs.declared.part.Tag.{Tag}
use Rattle.table.specs.declared.part.Tag.TheVariants.{First, Any, Named, Filtered, Then, Along, And, Or, Not, Step}
use Rattle.table.specs.declared.role.Role.{Role}
use Rattle.table.specs.declared.role.Role.TheVariants.{Testing, Asking, Reaching, Going, Filtering, Starting}
use Rattle.table.specs.Reading.{Asked, only, also, Piece, begins, asks, onward, path, filter, query, step_of, asked_of, path_to, query_with, piece_at, tagged, pieces, part_at, tag_at, last_place, reading}
use Rattle.table.specs.Formulas.{asked_formula, piece_formula, formula_at, formula_from, tag_formula, part_formula, ends_in_step, PartByPart}
use Rattle.table.proofs.Pieces.{piece_is, extended_from}
use Rattle.table.proofs.Seen.{taken, reached_of, start_of, taken_seen}
use Rattle.table.proofs.Whole.{whole_query}

-- A path and a query, by what the last part before them gives.
path_here : (a : Axis) (x : Asked) (p : Path) → path_formula (then (step_of a x) p) ≡ along a (conj (asked_formula x) (path_formula p))
path_here a (only t) p = refl
path_here a (also t f) p = refl

last_here : (a : Axis) (x : Asked) → path_formula (last (step_of a x)) ≡ along a (asked_formula x)
last_here a (only t) = refl
last_here a (also t f) = refl

path_to_lem : (a : Axis) (x : Piece) → path_formula (path_to a x) ≡ along a (piece_formula (reached_of x))
path_to_lem a begins = refl
path_to_lem a (asks x) = last_here a x
path_to_lem a (onward x p) = path_here a x p
path_to_lem a (path p) = refl
path_to_lem a (filter f) = refl
path_to_lem a (query q) = refl

query_with_lem : (x : Piece) (s : m.Step) → query_formula (query_with x s) ≡ step_from (piece_formula (start_of x)) s
query_with_lem begins s = refl
query_with_lem (asks x) s = refl
query_with_lem (onward x p) s = refl
query_with_lem (path p) s = refl
query_with_lem (filter f) s = refl
query_with_lem (query q) s = extended_from first q s

step_with : (f : Formula) (a : Axis) (x : Asked) → step_from f (step_of a x) ≡ conj (asked_formula x) (along (inverse a) f)
step_with f a (only t) = refl
step_with f a (also t g) = refl

module _ (parts : List Part) (i : ℕ) (h : i < length parts) where
  abbrev before : List Piece
  before = pieces (take i parts)

  at : (role : Role) (j : ℕ) → piece_formula (taken role (piece_at before j)) ≡ formula_from role parts i j
  at = taken_seen piece_formula (λ p. refl) parts i (omega arith)

  by_tag : (t : Tag) (j k : ℕ) → piece_formula (tagged t before j k) ≡ tag_formula t parts i j k
  by_tag First j k = refl
  by_tag Any j k = refl
  by_tag Named j k = refl
  by_tag Filtered j k = cc (at Testing j, at Filtering k)
  by_tag Then j k = cc (at Asking j, at Going k)
  by_tag (Along a) j k = path_to_lem a (piece_at before j) ∙ ap (along a) (at Reaching j)
  by_tag And j k = cc (at Filtering j, at Filtering k)
  by_tag Or j k = cc (at Filtering j, at Filtering k)
  by_tag Not j k = ap neg (at Filtering j)
  by_tag (Step a) j k =
      let x = asked_of (piece_at before j) in
      cc (query_with_lem (piece_at before k) (step_of a x), step_with (piece_formula (start_of (piece_at before k))) a x, at Asking j, at Starting k)

  pub each_part : formula_at parts i ≡ part_formula parts i
  each_part = ap piece_formula (piece_is parts i h) ∙ by_tag (tag_at parts i) (part_at parts i).first (part_at parts i).second

pub part_by_part : (parts : List Part) → last_place parts + 1 ≡ length parts → ends_in_step parts ≡ true → PartByPart parts (reading parts)
part_by_part parts w e =
    let k : length parts - 1 ≡ last_place parts = omega arith in
    record { some = omega arith; each = each_part parts; whole = ap piece_formula (whole_query parts (omega arith) e) ∙ sym (ap (formula_at parts) k) }
