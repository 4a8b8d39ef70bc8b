-- The pre/post plane: every element has a pre rank, which is its rank, and a post rank.
use Rattle.std.specs.Prelude.{ℕ, zero, suc, ◌+◌, ◌-◌, Bool, false, cond, ◌&&◌, ◌||◌, Some, None, Option, ◌==◌, nat_lt}
use Rattle.model.specs.Receipt.{Receipt, count_of, level_at, parent_of, same_rank}

-- whether x is p, or p's parent, or that one's parent, and so on, k of them at the most
unfoldable pub is_among : ℕ → Receipt → ℕ → Option ℕ → Bool
is_among zero r x p = false
is_among (suc k) r x None = false
is_among (suc k) r x (Some p) = p == x || is_among k r x (parent_of r p)

-- Ancestors are the parents repeated: an element has as many as its level.
abbrev pub is_ancestor : Receipt → ℕ → ℕ → Bool
is_ancestor r x y = is_among (level_at r y) r x (parent_of r y)

-- how many ranks below n pass
unfoldable pub how_many : (ℕ → Bool) → ℕ → ℕ
how_many p zero = 0
how_many p (suc k) = cond (p k) (suc (how_many p k)) (how_many p k)

-- Size is the number of elements below.
unfoldable pub size : Receipt → ℕ → ℕ
size r x = how_many (is_ancestor r x) (count_of r)

unfoldable pub post : Receipt → ℕ → ℕ
post r x = (x + size r x) - level_at r x

-- y is a descendant of x: its pre is greater and its post smaller
abbrev pub descends : Receipt → ℕ → ℕ → Bool
descends r x y = nat_lt x y && nat_lt (post r y) (post r x)

-- y is following x: both are greater
abbrev pub follows : Receipt → ℕ → ℕ → Bool
follows r x y = nat_lt x y && nat_lt (post r x) (post r y)

-- y is a child of x: a descendant one level down
abbrev pub is_child : Receipt → ℕ → ℕ → Bool
is_child r x y = descends r x y && level_at r y == level_at r x + 1

-- y is a later sibling of x: it has the same parent and comes later
abbrev pub is_later_sibling : Receipt → ℕ → ℕ → Bool
is_later_sibling r x y = same_rank (parent_of r y) (parent_of r x) && nat_lt x y

-- An element is open if it is the last element or an ancestor of it, and its level is below the depth.
unfoldable pub is_open : Receipt → ℕ → Bool
is_open r x = (x + 1 == count_of r || is_ancestor r x (count_of r - 1)) && nat_lt (level_at r x) r.depth

abbrev pub is_open_at : Receipt → Option ℕ → Bool
is_open_at r None = false
is_open_at r (Some p) = is_open r p
