-- What the parts of a table read as: each part is a piece over the pieces before it, and the part in the first place names the query's last part.
-- The reading is total. Where a part names none before it or one of another sort, "*" stands for what is asked, self::* for a path or a filter, and a query starts anew. Where the last part is no step, or not there, the query is /self::*.
use Rattle.std.specs.Prelude.{ℕ, List, [], ◌∷◌, ◌++◌, slice_index_or}
use Rattle.model.specs.declared.axis.Axis.{Axis}
use Rattle.model.specs.declared.axis.Axis.TheVariants.{Itself}
use Rattle.model.specs.Query.{Test, any, named, Path, last, then, plain, filtered, Filter, holds, both, either, negated}
use Rattle.model.specs.Query as model
use Rattle.table.specs.declared.part.Part.{Part}
use Rattle.table.specs.declared.part.Tag.{Tag}
use Rattle.table.specs.declared.part.Tag.TheVariants.{First, Any, Named, Filtered, Then, Along, And, Or, Not, Step}

-- what a step asks of the elements it keeps: a test, and perhaps a filter
pub data Asked : Type 0 where
  only : Test → Asked
  also : Test → Filter → Asked

-- What a part reads as: where a query starts, what is asked, that and the rest of a path in a filter, such a path, a filter, or a query.
pub data Piece : Type 0 where
  begins : Piece
  asks : Asked → Piece
  onward : Asked → Path → Piece
  path : Path → Piece
  filter : Filter → Piece
  query : Path → Piece

abbrev pub step_of : Axis → Asked → model.Step
step_of a (only t) = plain a t
step_of a (also t f) = filtered a t f

-- self::*
abbrev pub itself : Path
itself = last (plain Itself any)

-- a path with one step more at its end
abbrev pub extended : Path → model.Step → Path
extended (last s) more = then s (last more)
extended (then s p) more = then s (extended p more)

-- What is taken from a piece: a test, what is asked, a path, ..
abbrev pub test_of : Piece → Test
test_of begins = any
test_of (asks (only t)) = t
test_of (asks (also t f)) = any
test_of (onward x p) = any
test_of (path p) = any
test_of (filter f) = any
test_of (query q) = any

abbrev pub asked_of : Piece → Asked
asked_of begins = only any
asked_of (asks x) = x
asked_of (onward x p) = only any
asked_of (path p) = only any
asked_of (filter f) = only any
asked_of (query q) = only any

abbrev pub path_of : Piece → Path
path_of begins = itself
path_of (asks x) = itself
path_of (onward x p) = itself
path_of (path p) = p
path_of (filter f) = itself
path_of (query q) = itself

-- the path along an axis: its last step, or a step with the rest
abbrev pub path_to : Axis → Piece → Path
path_to a begins = last (plain a any)
path_to a (asks x) = last (step_of a x)
path_to a (onward x p) = then (step_of a x) p
path_to a (path p) = last (plain a any)
path_to a (filter f) = last (plain a any)
path_to a (query q) = last (plain a any)

abbrev pub filter_of : Piece → Filter
filter_of begins = holds itself
filter_of (asks x) = holds itself
filter_of (onward x p) = holds itself
filter_of (path p) = holds p
filter_of (filter f) = f
filter_of (query q) = holds itself

-- a query with one step more
abbrev pub query_with : Piece → model.Step → Path
query_with begins s = last s
query_with (asks x) s = last s
query_with (onward x p) s = last s
query_with (path p) s = last s
query_with (filter f) s = last s
query_with (query q) s = extended q s

abbrev pub query_of : Piece → Path
query_of begins = itself
query_of (asks x) = itself
query_of (onward x p) = itself
query_of (path p) = itself
query_of (filter f) = itself
query_of (query q) = q

-- the piece at a place
abbrev pub piece_at : List Piece → ℕ → Piece
piece_at before i = slice_index_or before i begins

abbrev pub tagged : Tag → List Piece → ℕ → ℕ → Piece
tagged First before i j = begins
tagged Any before i j = asks (only any)
tagged Named before i j = asks (only (named i))
tagged Filtered before i j = asks (also (test_of (piece_at before i)) (filter_of (piece_at before j)))
tagged Then before i j = onward (asked_of (piece_at before i)) (path_of (piece_at before j))
tagged (Along a) before i j = path (path_to a (piece_at before i))
tagged And before i j = filter (both (filter_of (piece_at before i)) (filter_of (piece_at before j)))
tagged Or before i j = filter (either (filter_of (piece_at before i)) (filter_of (piece_at before j)))
tagged Not before i j = filter (negated (filter_of (piece_at before i)))
tagged (Step a) before i j = query (query_with (piece_at before j) (step_of a (asked_of (piece_at before i))))

abbrev pub piece_of : List Piece → Part → Piece
piece_of before p = tagged p.tag before p.first p.second

-- the pieces of the parts, after those before them
abbrev pub pieces_after : List Piece → List Part → List Piece
pieces_after before [] = before
pieces_after before (p ∷ ps) = pieces_after (before ++ (piece_of before p ∷ [])) ps

abbrev pub pieces : List Part → List Piece
pieces ps = pieces_after [] ps

abbrev pub part_at : List Part → ℕ → Part
part_at parts i = slice_index_or parts i (record { tag = First; first = 0; second = 0 })

abbrev pub tag_at : List Part → ℕ → Tag
tag_at parts i = (part_at parts i).tag

-- The part in the first place names the last part of the query.
abbrev pub last_place : List Part → ℕ
last_place parts = (part_at parts 0).first

-- the query of that part
abbrev pub reading : List Part → Path
reading parts = query_of (piece_at (pieces parts) (last_place parts))
