-- The plane's tests mean what they mean in the tree that the parents make.
use Rattle.std.specs.Prelude.{◌≡◌, ℕ, ◌<◌, true, ◌⊎◌, Some, Decides}
use Rattle.model.specs.Receipt.{Receipt, Lawful, count_of, parent_of}
use Rattle.model.specs.Plane.{descends, follows, is_child, is_later_sibling}

-- x is an ancestor of y: its parent, or an ancestor of its parent
pub data Ancestor (r : Receipt) (x : ℕ) : ℕ → Type 0 where
  one : {y : ℕ} → parent_of r y ≡ Some x → Ancestor r x y
  up : {y p : ℕ} → parent_of r y ≡ Some p → Ancestor r x p → Ancestor r x y

abbrev pub AncestorOrSelf : Receipt → ℕ → ℕ → Type 0
AncestorOrSelf r x y = (x ≡ y) ⊎ Ancestor r x y

-- y follows x in the tree: some u at or above x has a later sibling at or above y
abbrev pub TreeFollows : Receipt → ℕ → ℕ → Type 0
TreeFollows r x y = (u : ℕ) × (v : ℕ) × (AncestorOrSelf r u x) × (is_later_sibling r u v ≡ true) × (AncestorOrSelf r v y)

-- each test is true exactly if the relation holds
pub record TreeAt (r : Receipt) (x y : ℕ) : Type 0 where
  pub descendant : Decides (descends r x y) (Ancestor r x y)
  pub child : Decides (is_child r x y) (parent_of r y ≡ Some x)
  pub following : Decides (follows r x y) (TreeFollows r x y)

abbrev pub PlaneIsTree : Type 0
PlaneIsTree = (r : Receipt) → Lawful r → (x y : ℕ) → x < count_of r → y < count_of r → TreeAt r x y
