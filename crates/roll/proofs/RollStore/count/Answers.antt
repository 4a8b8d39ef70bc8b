use Rattle.std.proofs.Common.{sym}
use Rattle.roll.proofs.Found.{counted}
use Rattle.roll.proofs.RollStore.count.Goals as goal

pub returns : goal.returns
returns c = sym (counted c.args.self.now)
