use Rattle.std.proofs.Common.{◌≡◌, ◌≤◌, drop}
use Rattle.script.specs.Commands.{read_on}
use Rattle.script.proofs.read_number.Given as goal

-- What is left, read on from n, gives the number; n has as many digits as were read.
abbrev pub invariant-loop-digit : goal.invariant-loop-digit
invariant-loop-digit l =
    (read_on l.n (drop l.digit-index l.digits) ≡ read_on 0 l.digits)
    × (l.digit-index ≤ 0 → l.n ≤ 0) × (l.digit-index ≤ 1 → l.n ≤ 9) × (l.digit-index ≤ 2 → l.n ≤ 99) × (l.digit-index ≤ 3 → l.n ≤ 999) × (l.digit-index ≤ 4 → l.n ≤ 9999)
