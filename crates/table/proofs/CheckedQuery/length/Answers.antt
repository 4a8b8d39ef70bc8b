use Rattle.std.proofs.Common.{arith}
use Rattle.table.specs.Held.{reads_as}
use Rattle.table.proofs.Lawful.{path_some}
use Rattle.table.proofs.CheckedQuery.length.Goals as goal

pub returns-clause-some : goal.returns-clause-some
returns-clause-some c = let q = c.args.self.now in omega (arith, q.measured, path_some (reads_as q))
