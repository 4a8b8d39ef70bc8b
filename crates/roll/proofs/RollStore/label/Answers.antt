use Rattle.std.proofs.Common.{rules, ◌∙◌}
use Rattle.roll.proofs.Found.{mapped_got, label_told}
use Rattle.roll.proofs.RollStore.label.Goals as goal

pub returns : goal.returns
returns c = mapped_got c.args.self.now.labels.now c.args.rank c.get.result c.map.result c.get.ensures.lookup (search rules) ∙ label_told c.args.self.now c.args.rank
