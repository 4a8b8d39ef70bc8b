-- Verdicts are sound over every list of calls.
use Rattle.std.proofs.Common.{ℕ, ◌<◌, List, arith}
use Rattle.model.specs.Receipt.{Receipt, Lawful, count_of}
use Rattle.model.specs.Calls.{Call, after_calls, actions_of}
use Rattle.model.proofs.Calls.{after_calls_lem}
use Rattle.model.specs.Query.{Path}
use Rattle.model.specs.Selection.{selects}
use Rattle.model.specs.Verdict.{query_formula, standing}
use Rattle.verdicts.specs.Sound.{VerdictsAreSound}
use Rattle.plane.specs.Steady.{Continues}
use Rattle.plane.proofs.Steady.{grows_ended, backward_never_grows}
use Rattle.plane.proofs.Onward.{continues_run}
use Rattle.verdicts.proofs.Threes.{Kept, told_in, told_out}
use Rattle.verdicts.proofs.Standing.{verdict_kept, standing_told}
use Rattle.verdicts.proofs.Decided.{all_still_decided, forward_decided}

-- Shows and writings leave the receipt as it is, so calls continue it as their actions do.
continues_calls : (calls : List Call) (r : Receipt) → Lawful r → Continues r (after_calls calls r)
continues_calls calls r w = rw (after_calls_lem calls r) (continues_run (actions_of calls) r w)

standing_kept : (r : Receipt) → Lawful r → (q : Path) (y : ℕ) → y < count_of r → (calls : List Call) → Kept (standing r q y) (standing (after_calls calls r) q y)
standing_kept r w q y h calls = verdict_kept r (after_calls calls r) (continues_calls calls r w) (query_formula q) y h

pub verdicts_are_sound : VerdictsAreSound
verdicts_are_sound = record {
  sure_stays_selected = λ r w q y h e calls.
      let s = after_calls calls r in
      let m = (continues_calls calls r w).longer in
      told_in (selects s q y) ((standing_told s q y (omega arith)).still_in ((standing_kept r w q y h calls).still_in e));
  left_out_stays_out = λ r w q y h e calls.
      let s = after_calls calls r in
      let m = (continues_calls calls r w).longer in
      told_out (selects s q y) ((standing_told s q y (omega arith)).still_out ((standing_kept r w q y h calls).still_out e));
  ended_is_decided = λ r w ended q y h. all_still_decided r (grows_ended r w ended) (query_formula q) y h;
  forward_is_decided = λ r q forward y. forward_decided r (backward_never_grows r) q forward y;
}
