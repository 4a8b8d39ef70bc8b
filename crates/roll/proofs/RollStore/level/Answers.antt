use Rattle.std.proofs.Common.{◌∙◌}
use Rattle.roll.proofs.Found.{copied_got, level_told}
use Rattle.roll.proofs.RollStore.level.Goals as goal

pub returns : goal.returns
returns c = c.copied.ensures ∙ copied_got c.args.self.now.levels.now c.args.rank c.get.result c.get.ensures.lookup ∙ level_told c.args.self.now c.args.rank
