use Rattle.query.proofs.Exact.{fitting_is_accepted}
use Rattle.query.proofs.fitting_is_accepted.Goals as goal

pub returns : goal.returns
returns c = fitting_is_accepted
