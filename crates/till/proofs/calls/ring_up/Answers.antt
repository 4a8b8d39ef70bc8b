use Rattle.model.specs.Receipt.{empty}
use Rattle.model.proofs.Runs.{after_accepted}
use Rattle.till.proofs.calls.ring_up.Goals as goal

pub returns-clause-moment : goal.returns-clause-moment
returns-clause-moment c = cc (after_accepted c.args.actions.now empty)
