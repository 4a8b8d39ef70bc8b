use Rattle.names.specs.Sheet.{rows}
use Rattle.names.proofs.Cuts.{Searched}
use Rattle.names.proofs.no_repeat.Given as goal

abbrev pub invariant-loop-row : goal.invariant-loop-row
invariant-loop-row l = Searched l.sheet l.start (rows l.row-iterator.0.now)
