use Rattle.std.proofs.Common.{◌≡◌, ◌+◌, ◌*◌, false, length, take, drop, ap, ◌∙◌, arith, rules}
use Rattle.std.proofs.lemmas.List.{take_rest}
use Rattle.std.proofs.lemmas.Bool.Decides.{nat_tests}
use Rattle.model.specs.Reading.{foreign, misplaced}
use Rattle.model.proofs.FirstFault.{no_roll, bad_layout}
use Rattle.roll.proofs.Split.{left, tells}
use Rattle.roll.proofs.check.Parts.split.Goals as goal
use Rattle.roll.proofs.check.Parts.split.Goals.{in_default-via-then-bytes-lt8, in_default-via-else-bytes-lt8+in_default-1}

pub returns-in_default-clause-err : goal.returns-in_default-clause-err
returns-in_default-clause-err c =
    no_roll c.args.bytes.now (elim c.in_default.branch [ in_default-via-then-bytes-lt8 w ↦ grind (arith, nat_tests) | in_default-via-else-bytes-lt8+in_default-1 w ↦ grind (arith, nat_tests) ])

pub returns-then-is_misnumbered-clause-err : goal.returns-then-is_misnumbered-clause-err
returns-then-is_misnumbered-clause-err c = bad_layout c.args.bytes.now (grind (arith, nat_tests)) (grind (arith, nat_tests))

pub returns-clause-ok : goal.returns-clause-ok
returns-clause-ok c =
    let bytes = c.args.bytes.now in
    let n = c.number-count.result in
    let a : foreign bytes ≡ false = grind (arith, nat_tests) in
    let b : misplaced bytes ≡ false = grind (arith, nat_tests) in
    let front = c.split_at.ensures.front ∙ ap (take n) (take_rest bytes 8) in
    let back = c.split_at.ensures.back ∙ ap (drop n) (take_rest bytes 8) in
    let w : length bytes ≡ 8 + 2 * n = search rules in
    (left bytes c.split_at.result.0.now c.split_at.result.1.now n c.number-count.ensures w front back a b, tells bytes c.split_at.result.0.now c.split_at.result.1.now n c.number-count.ensures w front back)
