use Rattle.grammar.proofs.Unique.{unambiguous}
use Rattle.grammar.proofs.one_tree.Goals as goal

pub returns : goal.returns
returns c = unambiguous
