-- What a verdict promises, whatever calls follow.
use Rattle.std.specs.Prelude.{◌≡◌, ℕ, ◌<◌, true, false, List, ◌≢◌}
use Rattle.model.specs.Receipt.{Receipt, Lawful, count_of, has_ended}
use Rattle.model.specs.Calls.{Call, after_calls}
use Rattle.model.specs.Query.{Path}
use Rattle.model.specs.Selection.{selects}
use Rattle.model.specs.Verdict.{is_out, undecided, is_in, standing}
use Rattle.verdicts.specs.Forward.{forward_path}

pub record VerdictsAreSound : Type 0 where
  pub sure_stays_selected : (r : Receipt) → Lawful r → (q : Path) (y : ℕ) → y < count_of r → standing r q y ≡ is_in → (calls : List Call) → selects (after_calls calls r) q y ≡ true
  pub left_out_stays_out : (r : Receipt) → Lawful r → (q : Path) (y : ℕ) → y < count_of r → standing r q y ≡ is_out → (calls : List Call) → selects (after_calls calls r) q y ≡ false
  pub ended_is_decided : (r : Receipt) → Lawful r → has_ended r ≡ true → (q : Path) (y : ℕ) → y < count_of r → standing r q y ≢ undecided
  pub forward_is_decided : (r : Receipt) (q : Path) → forward_path q ≡ true → (y : ℕ) → standing r q y ≢ undecided
