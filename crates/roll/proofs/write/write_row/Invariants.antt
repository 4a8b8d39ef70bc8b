use Rattle.std.proofs.Common.{ℕ, ◌<◌, get_or}
use Rattle.roll.proofs.write.write_row.Given as goal

-- Each place before this rank has the byte of its rank.
abbrev pub invariant-loop-rank : goal.invariant-loop-rank
invariant-loop-rank g l = (k : ℕ) → k < l.rank → goal.F-post g l.byte k (get_or l.row k 0)
