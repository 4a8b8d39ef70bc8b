use Rattle.table.specs.Held.{parts_of}
use Rattle.table.proofs.Formulas.{part_by_part}
use Rattle.table.proofs.CheckedQuery.parts.Goals as goal

pub returns-clause-each : goal.returns-clause-each
returns-clause-each c = let q = c.args.self.now in part_by_part (parts_of q) q.whole q.step
