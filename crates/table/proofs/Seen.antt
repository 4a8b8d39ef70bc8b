-- Seen: what is taken from a piece in a role is the piece itself if its sort serves, and else what stands in.
use Rattle.std.proofs.Common.{◌≡◌, ℕ, ◌<◌, ◌≤◌, Bool, true, false, cond, List, length, take, refl, ap, ◌∙◌, ⊎_elim, arith}
use Rattle.std.proofs.lemmas.Bool.{cases_lt, lt-ltb, le-ltb}
use Rattle.model.specs.Query.{any, Path as QueryPath, holds}
use Rattle.table.specs.declared.part.Part.{Part}
use Rattle.table.specs.declared.part.Tag.{Tag}
use Rattle.table.specs.declared.part.Tag.TheVariants.{First, Any, Named, Filtered, Then, Along, And, Or, Not, Step}
use Rattle.table.specs.declared.role.Sort.{Sort}
use Rattle.table.specs.declared.role.Sort.TheVariants.{Start, Test, Kept, Onward, Path, Filter, Query}
use Rattle.table.specs.declared.role.Role.{Role}
use Rattle.table.specs.declared.role.Role.TheVariants.{Testing, Asking, Reaching, Going, Filtering, Starting}
use Rattle.table.specs.Sorts.{sort_of, serves}
use Rattle.table.specs.Reading.{only, also, Piece, begins, asks, onward, path, filter, query, itself, test_of, asked_of, path_of, filter_of, piece_at, tagged, pieces, part_at, tag_at}
use Rattle.table.specs.Formulas.{stand_in, seen}
use Rattle.table.proofs.Pieces.{piece_is, piece_stays, piece_none}

abbrev sort_of_piece : Piece → Sort
sort_of_piece begins = Start
sort_of_piece (asks (only t)) = Test
sort_of_piece (asks (also t f)) = Kept
sort_of_piece (onward x p) = Onward
sort_of_piece (path p) = Path
sort_of_piece (filter f) = Filter
sort_of_piece (query q) = Query

tag_tells : (t : Tag) (before : List Piece) (j k : ℕ) → sort_of_piece (tagged t before j k) ≡ sort_of t
tag_tells First before j k = refl
tag_tells Any before j k = refl
tag_tells Named before j k = refl
tag_tells Filtered before j k = refl
tag_tells Then before j k = refl
tag_tells (Along a) before j k = refl
tag_tells And before j k = refl
tag_tells Or before j k = refl
tag_tells Not before j k = refl
tag_tells (Step a) before j k = refl

abbrev pub reached_of : Piece → Piece
reached_of begins = asks (only any)
reached_of (asks x) = asks x
reached_of (onward x p) = onward x p
reached_of (path p) = asks (only any)
reached_of (filter f) = asks (only any)
reached_of (query q) = asks (only any)

abbrev pub start_of : Piece → Piece
start_of begins = begins
start_of (asks x) = begins
start_of (onward x p) = begins
start_of (path p) = begins
start_of (filter f) = begins
start_of (query q) = query q

-- what is taken from a piece in a role, as a piece
abbrev pub taken : Role → Piece → Piece
taken Testing x = asks (only (test_of x))
taken Asking x = asks (asked_of x)
taken Reaching x = reached_of x
taken Going x = path (path_of x)
taken Filtering x = filter (filter_of x)
taken Starting x = start_of x

abbrev fitted : Role → Piece → Piece
fitted role x = cond (serves (sort_of_piece x) role) x (stand_in role)

none_fitted : (role : Role) → fitted role begins ≡ stand_in role
none_fitted Testing = refl
none_fitted Asking = refl
none_fitted Reaching = refl
none_fitted Going = refl
none_fitted Filtering = refl
none_fitted Starting = refl

-- Whatever is worked out of pieces, as long as it makes no difference whether a path stands as a filter.
module _ {X : Type 0} (of : Piece → X) (same : (p : QueryPath) → of (filter (holds p)) ≡ of (path p)) where
  filter_fitted : (x : Piece) → of (filter (filter_of x)) ≡ of (fitted Filtering x)
  filter_fitted begins = same itself
  filter_fitted (asks (only t)) = same itself
  filter_fitted (asks (also t f)) = same itself
  filter_fitted (onward x p) = same itself
  filter_fitted (path p) = same p
  filter_fitted (filter f) = refl
  filter_fitted (query q) = same itself

  taken_fitted : (role : Role) (x : Piece) → of (taken role x) ≡ of (fitted role x)
  taken_fitted Filtering x = filter_fitted x
  taken_fitted Testing x = elim x as (λ y. of (taken Testing y) ≡ of (fitted Testing y)) [ begins ↦ refl | asks (only t) ↦ refl | asks (also t f) ↦ refl | onward y p ↦ refl | path p ↦ refl | filter f ↦ refl | query q ↦ refl ]
  taken_fitted Asking x = elim x as (λ y. of (taken Asking y) ≡ of (fitted Asking y)) [ begins ↦ refl | asks (only t) ↦ refl | asks (also t f) ↦ refl | onward y p ↦ refl | path p ↦ refl | filter f ↦ refl | query q ↦ refl ]
  taken_fitted Reaching x = elim x as (λ y. of (taken Reaching y) ≡ of (fitted Reaching y)) [ begins ↦ refl | asks (only t) ↦ refl | asks (also t f) ↦ refl | onward y p ↦ refl | path p ↦ refl | filter f ↦ refl | query q ↦ refl ]
  taken_fitted Going x = elim x as (λ y. of (taken Going y) ≡ of (fitted Going y)) [ begins ↦ refl | asks (only t) ↦ refl | asks (also t f) ↦ refl | onward y p ↦ refl | path p ↦ refl | filter f ↦ refl | query q ↦ refl ]
  taken_fitted Starting x = elim x as (λ y. of (taken Starting y) ≡ of (fitted Starting y)) [ begins ↦ refl | asks (only t) ↦ refl | asks (also t f) ↦ refl | onward y p ↦ refl | path p ↦ refl | filter f ↦ refl | query q ↦ refl ]

  of_cond : (b : Bool) (x y : Piece) → of (cond b x y) ≡ cond b (of x) (of y)
  of_cond true x y = refl
  of_cond false x y = refl

  pub taken_seen : (parts : List Part) (i : ℕ) → i ≤ length parts → (role : Role) (j : ℕ) → of (taken role (piece_at (pieces (take i parts)) j)) ≡ seen of role parts i j
  taken_seen parts i h role j = taken_fitted role _ ∙ ⊎_elim below above (cases_lt j i)
    where
      below : j < i → of (fitted role (piece_at (pieces (take i parts)) j)) ≡ seen of role parts i j
      below l =
          let x = piece_at (pieces parts) j in
          let s : sort_of_piece x ≡ sort_of (tag_at parts j) = ap sort_of_piece (piece_is parts j (omega arith)) ∙ tag_tells (tag_at parts j) (pieces (take j parts)) (part_at parts j).first (part_at parts j).second in
          rw (lt-ltb j i l) (cc (piece_stays parts i j l h, of_cond (serves (sort_of_piece x) role) x (stand_in role), s))

      above : i ≤ j → of (fitted role (piece_at (pieces (take i parts)) j)) ≡ seen of role parts i j
      above l = rw (le-ltb j i l) (cc (piece_none parts i j l h, none_fitted role))
