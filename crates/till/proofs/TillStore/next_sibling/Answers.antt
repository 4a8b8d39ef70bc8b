use Rattle.std.proofs.Common.{arith}
use Rattle.std.proofs.lemmas.Grind.{common_steps}
use Rattle.model.proofs.Bounds.{next_bound}
use Rattle.till.specs.Held.{receipt_of}
use Rattle.till.proofs.TillStore.next_sibling.Goals as goal

pub returns-clause-bound : goal.returns-clause-bound
returns-clause-bound c = next_bound (receipt_of c.args.self.now) c.args.rank _ (grind (arith, common_steps))
