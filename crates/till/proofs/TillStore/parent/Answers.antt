use Rattle.std.proofs.Common.{arith}
use Rattle.std.proofs.lemmas.Grind.{common_steps}
use Rattle.model.proofs.Bounds.{parent_bound}
use Rattle.till.specs.Held.{receipt_of}
use Rattle.till.proofs.TillStore.parent.Goals as goal

pub returns-clause-bound : goal.returns-clause-bound
returns-clause-bound c = parent_bound (receipt_of c.args.self.now) c.args.rank _ (grind (arith, common_steps))
