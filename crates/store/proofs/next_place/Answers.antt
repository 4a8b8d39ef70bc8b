use Rattle.std.proofs.Common.{arith}
use Rattle.std.proofs.lemmas.Grind.{common_steps}
use Rattle.store.proofs.Climb.{climbed_up, reached_place, no_place}
use Rattle.store.proofs.next_place.Goals as goal

pub returns-then-depth-eq0 : goal.returns-then-depth-eq0
returns-then-depth-eq0 g c = let s = no_place (g.S.Store.receipt c.args.s.now) (omega arith) in record { parent = s.0; previous = s.1 }

pub up-preserved : goal.up-preserved
up-preserved g c =
    let w = rw c.in-Some.is at c.up.invariant in
    let h = w.in_it in
    climbed_up (g.S.Store.receipt c.args.s.now) (g.met.S.Store.lawful c.args.s.now) (omega arith) c.in-Some.at c.up.previous c.parent-parent.result w (grind (arith, common_steps, h)) c.parent-parent.ensures.value

pub returns-else-is_some_and : goal.returns-else-is_some_and
returns-else-is_some_and g c =
    let w = rw c.in-Some.is at c.up.invariant in
    let h = w.in_it in
    let s = reached_place (g.S.Store.receipt c.args.s.now) c.in-Some.at c.up.previous w (grind (arith, common_steps, h)) in
    record { parent = s.0; previous = s.1 }
