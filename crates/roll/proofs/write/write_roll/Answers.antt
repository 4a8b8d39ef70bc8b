use Rattle.std.proofs.Common.{rules, ◌∙◌, ap, ◌+◌, ◌-◌, ◌≡◌, ◌≤◌, length, arith}
use Rattle.model.specs.Receipt.{count_of}
use Rattle.model.specs.Roll.{header, roll_length}
use Rattle.roll.proofs.Written.{labels_row, levels_row, written}
use Rattle.roll.proofs.write.write_roll.Goals as goal

pub returns-clause-leaves : goal.returns-clause-leaves
returns-clause-leaves g c =
    let r = g.S.Store.receipt c.args.store.now in
    let n = c.count-count.result in
    let e = c.roll_length-length.ensures in
    let k = c.count-count.ensures in
    let room : roll_length (count_of r) ≤ length c.args.memory.now = omega arith in
    let head : c.copy_from_slice.new.self ≡ header r.depth (count_of r) = c.copy_from_slice.ensures.after ∙ c.header.ensures ∙ ap (λ d. header d n) c.depth.ensures ∙ ap (header r.depth) k in
    let ln : length c.write_row.new.row ≡ count_of r = search rules in
    let bn : length c.write_row-2.new.row ≡ count_of r = search rules in
    let ls = levels_row r c.write_row.new.row ln (λ i h. let x = c.write_row.ensures i (omega arith) in search rules) in
    let bs = labels_row r c.write_row-2.new.row bn (λ i h. let x = c.write_row-2.ensures i (omega arith) in search rules) in
    written r c.args.memory.now c.copy_from_slice.new.self c.write_row.new.row c.write_row-2.new.row n ((8 + n) - 8) (c.roll_length-length.result - (8 + n)) k (omega arith) (omega arith) room head ls bs
