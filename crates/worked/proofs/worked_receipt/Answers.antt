use Rattle.worked.proofs.worked_receipt.Goals as goal
use Rattle.worked.proofs.Worked.{worked_receipt}

pub returns : goal.returns
returns c = worked_receipt
