-- A receipt: its elements in the order of their opening, and the depth at which the next one opens.
use Rattle.std.specs.Prelude.{◌≡◌, ℕ, zero, suc, ◌+◌, ◌-◌, ◌<◌, ◌≤◌, Bool, false, cond, ◌&&◌, List, [], ◌∷◌, ◌++◌, length, Some, None, Option, ◌==◌, nat_lt, slice_index_or}
use Rattle.model.specs.Limits.{most_elements, most_label, most_depth}

pub record Element : Type 0 where
  pub label : ℕ
  pub level : ℕ

-- An element's rank is its place in the list, from 0.
pub record Receipt : Type 0 where
  pub elements : List Element
  pub depth : ℕ

-- what is read beyond the last element
abbrev pub absent : Element
absent = record { label = 0; level = 0 }

abbrev pub count_of : Receipt → ℕ
count_of r = length r.elements

abbrev pub level_at : Receipt → ℕ → ℕ
level_at r i = (slice_index_or r.elements i absent).level

abbrev pub label_at : Receipt → ℕ → ℕ
label_at r i = (slice_index_or r.elements i absent).label

-- The rules that every receipt keeps.
pub record Lawful (r : Receipt) : Type 0 where
  pub few : count_of r ≤ most_elements
  pub first : 0 < count_of r → level_at r 0 ≡ 0
  pub later : (i : ℕ) → i + 1 < count_of r → (1 ≤ level_at r (i + 1)) × (level_at r (i + 1) ≤ level_at r i + 1)
  pub shallow : (i : ℕ) → i < count_of r → level_at r i < most_depth
  pub named : (i : ℕ) → i < count_of r → (1 ≤ label_at r i) × (label_at r i ≤ most_label)
  pub empty_depth : count_of r ≡ 0 → r.depth ≡ 0
  pub open_depth : (i : ℕ) → i + 1 ≡ count_of r → r.depth ≤ level_at r i + 1

-- An answer at a rank: beyond the last element it is absent.
abbrev pub within : Receipt → ℕ → {A : Type 0} → Option A → Option A
within r i o = cond (nat_lt i (count_of r)) o None

abbrev pub label_of : Receipt → ℕ → Option ℕ
label_of r i = within r i (Some (label_at r i))

abbrev pub level_of : Receipt → ℕ → Option ℕ
level_of r i = within r i (Some (level_at r i))

-- the nearest rank before k whose level is one less than v
unfoldable pub nearest : List Element → ℕ → ℕ → Option ℕ
nearest es v zero = None
nearest es v (suc k) = cond ((slice_index_or es k absent).level + 1 == v) (Some k) (nearest es v k)

-- The parent is the nearest earlier element whose level is one less.
abbrev pub parent_of : Receipt → ℕ → Option ℕ
parent_of r i = within r i (nearest r.elements (level_at r i) i)

-- the greatest rank below k that passes
unfoldable pub last_where : (ℕ → Bool) → ℕ → Option ℕ
last_where f zero = None
last_where f (suc k) = cond (f k) (Some k) (last_where f k)

abbrev pub or_else : Option ℕ → Option ℕ → Option ℕ
or_else None b = b
or_else (Some a) b = Some a

-- the least rank below k that passes
unfoldable pub first_where : (ℕ → Bool) → ℕ → Option ℕ
first_where f zero = None
first_where f (suc k) = or_else (first_where f k) (cond (f k) (Some k) None)

-- whether both are the same rank
abbrev pub same_rank : Option ℕ → Option ℕ → Bool
same_rank None b = false
same_rank (Some a) None = false
same_rank (Some a) (Some b) = a == b

-- The first child is the child of least rank.
abbrev pub first_child_of : Receipt → ℕ → Option ℕ
first_child_of r i = within r i (first_where (λ j. same_rank (parent_of r j) (Some i)) (count_of r))

-- Siblings have the same parent; the next and the previous one are the nearest.
abbrev pub next_sibling_of : Receipt → ℕ → Option ℕ
next_sibling_of r i = within r i (first_where (λ j. nat_lt i j && same_rank (parent_of r j) (parent_of r i)) (count_of r))

abbrev pub previous_sibling_of : Receipt → ℕ → Option ℕ
previous_sibling_of r i = within r i (last_where (λ j. same_rank (parent_of r j) (parent_of r i)) i)

abbrev pub empty : Receipt
empty = record { elements = []; depth = 0 }

-- A receipt with elements and nothing open has ended.
abbrev pub has_ended : Receipt → Bool
has_ended r = nat_lt 0 (count_of r) && r.depth == 0

-- An opening appends an element whose level is the depth, and raises the depth.
abbrev pub opened : Receipt → ℕ → Receipt
opened r l = record { elements = r.elements ++ (record { label = l; level = r.depth } ∷ []); depth = r.depth + 1 }

-- A closing lowers the depth.
abbrev pub closed : Receipt → Receipt
closed r = record { elements = r.elements; depth = r.depth - 1 }

-- the parent that the next opening's element would have: the innermost open element
abbrev pub innermost : Receipt → Option ℕ
innermost r = nearest r.elements r.depth (count_of r)

-- the previous sibling that the next opening's element would have
abbrev pub last_inside : Receipt → Option ℕ
last_inside r = last_where (λ j. same_rank (parent_of r j) (innermost r)) (count_of r)
