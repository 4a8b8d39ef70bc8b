use Rattle.std.proofs.Common.{rules, arith}
use Rattle.roll.proofs.Outcome.{reads_back, is_written}
use Rattle.roll.proofs.Roll.read.Goals as goal

pub returns-clause-back : goal.returns-clause-back
returns-clause-back c = reads_back c.args.bytes.now _ _ (search rules) (search rules)

pub returns-clause-written : goal.returns-clause-written
returns-clause-written c = is_written c.args.bytes.now _ _ (search rules) (search rules) (λ i. omega (arith, c.type_inv.bytes i))
