use Rattle.std.proofs.Common.{length}
use Rattle.reader.proofs.descent.+spine.Given as goal

abbrev pub decreases-spine : goal.decreases-spine
decreases-spine g l = length l.text.now
