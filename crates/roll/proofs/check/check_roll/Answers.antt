use Rattle.std.proofs.Common.{rules}
use Rattle.roll.proofs.Outcome.{applies}
use Rattle.roll.proofs.check.check_roll.Goals as goal

pub returns-in_err-split-clause-named : goal.returns-in_err-split-clause-named
returns-in_err-split-clause-named c = applies c.args.bytes.now c.from_residual.result (search rules)

pub returns-clause-named : goal.returns-clause-named
returns-clause-named c = applies c.args.bytes.now c.check.result (search rules)
