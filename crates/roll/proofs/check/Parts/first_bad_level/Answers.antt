use Rattle.std.proofs.Common.{rules, length}
use Rattle.std.proofs.iter.runs.Sources.{ranges}
use Rattle.roll.specs.Parts.{level_wrong}
use Rattle.roll.proofs.First.{first_from}
use Rattle.roll.proofs.check.Parts.first_bad_level.Goals as goal

pub returns : goal.returns
returns c =
    let levels = c.args.self.now.levels.now in
    first_from (level_wrong levels) (length levels) c.find.result (search (rules, ranges))
