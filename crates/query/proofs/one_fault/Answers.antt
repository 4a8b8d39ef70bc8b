use Rattle.query.proofs.Exact.{one_fault}
use Rattle.query.proofs.one_fault.Goals as goal

pub returns : goal.returns
returns c = one_fault
