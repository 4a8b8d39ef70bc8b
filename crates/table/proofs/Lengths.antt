-- Lengths: what a part counts comes from what the parts that it names count.
use Rattle.std.proofs.Common.{◌≡◌, ℕ, ◌+◌, ◌<◌, Some, slice_get, slice_index, List, [], ◌∷◌, ◌++◌, length, take, refl, ap, ◌∙◌, arith, below_more}
use Rattle.std.proofs.lemmas.List.{get_or_append_left, get_or_push, length_push}
use Rattle.std.proofs.lemmas.Option.{get_or_from_slice_get, slice_get_within}
use Rattle.model.specs.declared.axis.Axis.{Axis}
use Rattle.model.specs.Query.{Path, last, then}
use Rattle.model.specs.Query as m
use Rattle.table.specs.declared.part.Part.{Part}
use Rattle.table.specs.declared.part.Tag.{Tag}
use Rattle.table.specs.declared.part.Tag.TheVariants.{First, Any, Named, Filtered, Then, Along, And, Or, Not, Step}
use Rattle.table.specs.declared.role.Role.{Role}
use Rattle.table.specs.declared.role.Role.TheVariants.{Testing, Asking, Reaching, Going, Filtering, Starting}
use Rattle.table.specs.Reading.{Asked, only, also, Piece, begins, asks, onward, path, filter, query, step_of, extended, asked_of, path_to, query_with, piece_at, tagged, pieces, part_at, tag_at}
use Rattle.table.specs.Lengths.{path_cost, step_cost, asked_cost, piece_cost, cost_at, cost_from, tag_cost, capped, Costed}
use Rattle.table.proofs.Pieces.{piece_is}
use Rattle.table.proofs.Seen.{taken, reached_of, start_of, taken_seen}

step_is : (a : Axis) (x : Asked) → step_cost (step_of a x) ≡ 1 + asked_cost x
step_is a (only t) = refl
step_is a (also t f) = refl

path_to_lem : (a : Axis) (x : Piece) → path_cost (path_to a x) ≡ 1 + piece_cost (reached_of x)
path_to_lem a begins = refl
path_to_lem a (asks x) = step_is a x
path_to_lem a (onward x p) = omega (arith, step_is a x)
path_to_lem a (path p) = refl
path_to_lem a (filter f) = refl
path_to_lem a (query q) = refl

extended_cost : (q : Path) (s : m.Step) → path_cost (extended q s) ≡ path_cost q + step_cost s
extended_cost (last t) s = refl
extended_cost (then t q) s = omega (arith, extended_cost q s)

query_with_lem : (x : Piece) (s : m.Step) → path_cost (query_with x s) ≡ piece_cost (start_of x) + step_cost s
query_with_lem begins s = omega arith
query_with_lem (asks x) s = omega arith
query_with_lem (onward x p) s = omega arith
query_with_lem (path p) s = omega arith
query_with_lem (filter f) s = omega arith
query_with_lem (query q) s = extended_cost q s

module _ (parts : List Part) (i : ℕ) (h : i < length parts) where
  abbrev before : List Piece
  before = pieces (take i parts)

  at : (role : Role) (j : ℕ) → piece_cost (taken role (piece_at before j)) ≡ cost_from role parts i j
  at = taken_seen piece_cost (λ p. refl) parts i (omega arith)

  by_tag : (t : Tag) (j k : ℕ) → piece_cost (tagged t before j k) ≡ tag_cost t parts i j k
  by_tag First j k = refl
  by_tag Any j k = refl
  by_tag Named j k = refl
  by_tag Filtered j k = omega (arith, at Testing j, at Filtering k)
  by_tag Then j k = omega (arith, at Asking j, at Going k)
  by_tag (Along a) j k = omega (arith, path_to_lem a (piece_at before j), at Reaching j)
  by_tag And j k = omega (arith, at Filtering j, at Filtering k)
  by_tag Or j k = omega (arith, at Filtering j, at Filtering k)
  by_tag Not j k = omega (arith, at Filtering j)
  by_tag (Step a) j k = omega (arith, query_with_lem (piece_at before k) (step_of a (asked_of (piece_at before j))), step_is a (asked_of (piece_at before j)), at Starting k, at Asking j)

  pub part_cost : cost_at parts i ≡ tag_cost (tag_at parts i) parts i (part_at parts i).first (part_at parts i).second
  part_cost = ap piece_cost (piece_is parts i h) ∙ by_tag (tag_at parts i) (part_at parts i).first (part_at parts i).second

-- One cost more, of the next part.
pub costed_more : (parts : List Part) (costs : List ℕ) (p : Part) (x : ℕ) → Costed parts costs → slice_get parts (length costs) ≡ Some p → x ≡ capped (tag_cost p.tag parts (length costs) p.first p.second) → Costed parts (costs ++ (x ∷ []))
costed_more parts costs p x c next e =
    let i = length costs in
    let is : part_at parts i ≡ p = get_or_from_slice_get parts i p _ next in
    let here : x ≡ capped (cost_at parts i) = cc (e, part_cost parts i (slice_get_within parts i p next), is) in
    let below : (j : ℕ) → j < i + 1 → slice_index (costs ++ (x ∷ [])) j ≡ capped (cost_at parts j) = below_more _ _ (λ k h. get_or_append_left costs (x ∷ []) _ k h ∙ c k h) (get_or_push costs x _ i refl ∙ here) in
    λ j h. below j (omega (arith, length_push costs x))
