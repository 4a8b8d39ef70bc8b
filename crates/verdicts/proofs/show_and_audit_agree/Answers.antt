use Rattle.verdicts.proofs.show_and_audit_agree.Goals as goal
use Rattle.verdicts.proofs.Agree.{show_and_audit_agree}

pub returns : goal.returns
returns c = show_and_audit_agree
