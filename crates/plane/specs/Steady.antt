-- What stays of the labels and the axes as a receipt goes on.
use Rattle.std.specs.Prelude.{◌≡◌, ℕ, ◌<◌, ◌≤◌, true, false, List}
use Rattle.model.specs.declared.action.Action.{Action}
use Rattle.model.specs.declared.axis.Axis.{Axis}
use Rattle.model.specs.Receipt.{Receipt, Lawful, count_of, label_at, has_ended, empty}
use Rattle.model.specs.Axes.{leads, inverse, is_backward, grows}
use Rattle.model.specs.Runs.{after}

-- what s, a later state of r, keeps of it
pub record Continues (r s : Receipt) : Type 0 where
  pub lawful : Lawful s
  pub longer : count_of r ≤ count_of s
  pub label_kept : (x : ℕ) → x < count_of r → label_at s x ≡ label_at r x
  -- Where an axis leads between present elements stays.
  pub kept : (a : Axis) (x y : ℕ) → x < count_of r → y < count_of r → leads s a x y ≡ leads r a x y
  -- Where it does not grow, it leads to no element that came later,
  pub nothing_new : (a : Axis) (x y : ℕ) → x < count_of r → grows r a x ≡ false → count_of r ≤ y → y < count_of s → leads s a x y ≡ false
  -- and it does not grow later.
  pub shut : (a : Axis) (x : ℕ) → x < count_of r → grows r a x ≡ false → grows s a x ≡ false

pub record RelationsStay : Type 0 where
  pub start : Lawful empty
  -- Whatever the actions are, accepted or refused, the receipt after them continues the one before.
  pub runs : (run : List Action) (r : Receipt) → Lawful r → Continues r (after run r)
  -- No axis grows on an ended receipt, and a backward one never does.
  pub ended : (r : Receipt) → Lawful r → has_ended r ≡ true → (a : Axis) (x : ℕ) → x < count_of r → grows r a x ≡ false
  pub backward : (r : Receipt) (a : Axis) (x : ℕ) → is_backward a ≡ true → grows r a x ≡ false
  pub inverses : (r : Receipt) (a : Axis) (x y : ℕ) → leads r (inverse a) x y ≡ leads r a y x
