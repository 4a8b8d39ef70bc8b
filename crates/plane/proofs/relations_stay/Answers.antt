use Rattle.plane.proofs.relations_stay.Goals as goal
use Rattle.plane.proofs.Onward.{relations_stay}

pub returns : goal.returns
returns c = relations_stay
