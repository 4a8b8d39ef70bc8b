use Rattle.std.proofs.Common.{◌≡◌, drop}
use Rattle.names.specs.Rule.{fresh, run}
use Rattle.names.proofs.run_of_names.Given as goal

abbrev pub invariant-loop-i : goal.invariant-loop-i
invariant-loop-i l = run l.room (drop l.i l.sheet) ≡ run fresh l.sheet
