-- The axes: where each leads, its inverse, which are forward and backward, and where more may still be reached.
use Rattle.std.specs.Prelude.{ℕ, Bool, true, false, not, ◌&&◌, ◌||◌, ◌==◌}
use Rattle.model.specs.declared.axis.Axis.{Axis}
use Rattle.model.specs.declared.axis.Axis.TheVariants.{Itself, Child, Parent, Descendant, Ancestor, DescendantOrSelf, AncestorOrSelf, FollowingSibling, PrecedingSibling, Following, Preceding}
use Rattle.model.specs.Receipt.{Receipt, parent_of}
use Rattle.model.specs.Plane.{descends, follows, is_child, is_later_sibling, is_open, is_open_at}

-- whether the axis leads from x to y
unfoldable pub leads : Receipt → Axis → ℕ → ℕ → Bool
leads r Itself x y = x == y
leads r Child x y = is_child r x y
leads r Parent x y = is_child r y x
leads r Descendant x y = descends r x y
leads r Ancestor x y = descends r y x
leads r DescendantOrSelf x y = x == y || descends r x y
leads r AncestorOrSelf x y = x == y || descends r y x
leads r FollowingSibling x y = is_later_sibling r x y
leads r PrecedingSibling x y = is_later_sibling r y x
leads r Following x y = follows r x y
leads r Preceding x y = follows r y x

abbrev pub inverse : Axis → Axis
inverse Itself = Itself
inverse Child = Parent
inverse Parent = Child
inverse Descendant = Ancestor
inverse Ancestor = Descendant
inverse DescendantOrSelf = AncestorOrSelf
inverse AncestorOrSelf = DescendantOrSelf
inverse FollowingSibling = PrecedingSibling
inverse PrecedingSibling = FollowingSibling
inverse Following = Preceding
inverse Preceding = Following

abbrev pub is_forward : Axis → Bool
is_forward Itself = true
is_forward Child = true
is_forward Parent = false
is_forward Descendant = true
is_forward Ancestor = false
is_forward DescendantOrSelf = true
is_forward AncestorOrSelf = false
is_forward FollowingSibling = true
is_forward PrecedingSibling = false
is_forward Following = true
is_forward Preceding = false

-- Backward are self and the inverses of the forward axes.
abbrev pub is_backward : Axis → Bool
is_backward a = is_forward (inverse a)

-- whether the axis may reach more from x while the receipt goes on
unfoldable pub grows : Receipt → Axis → ℕ → Bool
grows r Itself x = false
grows r Child x = is_open r x
grows r Parent x = false
grows r Descendant x = is_open r x
grows r Ancestor x = false
grows r DescendantOrSelf x = is_open r x
grows r AncestorOrSelf x = false
grows r FollowingSibling x = is_open_at r (parent_of r x)
grows r PrecedingSibling x = false
grows r Following x = not (x == 0) && is_open r 0
grows r Preceding x = false
