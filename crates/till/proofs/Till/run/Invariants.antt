use Rattle.std.proofs.Common.{◌≡◌, ◌+◌, ◌≤◌, length, drop}
use Rattle.model.specs.Runs.{after, accepted}
use Rattle.till.specs.Held.{receipt_of}
use Rattle.till.proofs.Till.run.Given as goal

-- What is left to do leads to the same end, and what is done and still to be accepted makes up the count.
abbrev pub invariant-loop-action : goal.invariant-loop-action
invariant-loop-action l =
    (after (drop l.action-index l.actions) (receipt_of l.self) ≡ after l.actions (receipt_of l.initial.self))
    × (l.done + length (accepted (drop l.action-index l.actions) (receipt_of l.self)) ≡ length (accepted l.actions (receipt_of l.initial.self)))
    × (l.done ≤ l.action-index)
