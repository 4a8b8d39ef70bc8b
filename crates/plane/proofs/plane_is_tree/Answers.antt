use Rattle.plane.proofs.plane_is_tree.Goals as goal
use Rattle.plane.proofs.Tree.{plane_is_tree}

pub returns : goal.returns
returns c = plane_is_tree
