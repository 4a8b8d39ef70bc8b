use Rattle.std.proofs.Common.{unwrap_or}
use Rattle.store.proofs.Climb.{Climbed}
use Rattle.store.proofs.next_place.Given as goal

abbrev pub invariant-up : goal.invariant-up
invariant-up g l = Climbed (g.S.Store.receipt l.s) l.parent l.previous

abbrev pub decreases-up : goal.decreases-up
decreases-up g l = unwrap_or l.parent 0
