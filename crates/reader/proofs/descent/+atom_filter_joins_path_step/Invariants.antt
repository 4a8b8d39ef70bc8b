use Rattle.std.proofs.Common.{◌+◌, ◌*◌, length}
use Rattle.reader.proofs.descent.+atom_filter_joins_path_step.Given as goal

abbrev pub decreases-filter : goal.decreases-filter
decreases-filter g l = 4 * length l.text.now + 3

abbrev pub decreases-atom : goal.decreases-atom
decreases-atom g l = 4 * length l.text.now + 2

abbrev pub decreases-path : goal.decreases-path
decreases-path g l = 4 * length l.text.now + 1

abbrev pub decreases-step : goal.decreases-step
decreases-step g l = 4 * length l.text.now

abbrev pub decreases-joins : goal.decreases-joins
decreases-joins g l = 4 * length l.text.now
