use Rattle.std.proofs.Common.{length, get_or, sym, arith}
use Rattle.model.specs.Reading.{wrong_label}
use Rattle.model.proofs.Search.{first_some}
use Rattle.roll.specs.Parts.{level_wrong}
use Rattle.roll.proofs.check.Parts.check.Goals as goal

pub overflow_add-result : goal.overflow_add-result
overflow_add-result c =
    let levels = c.args.self.now.levels.now in
    let f = c.args.self.now.few in
    let s = first_some (level_wrong levels) (length levels) c.in-Some.rank (sym c.in-Some.ensures) in
    omega arith

pub overflow_add-result-in-Some-first_bad_label-2 : goal.overflow_add-result-in-Some-first_bad_label-2
overflow_add-result-in-Some-first_bad_label-2 c =
    let labels = c.args.self.now.labels.now in
    let f = c.args.self.now.few in
    let p = c.args.self.now.paired in
    let s = first_some (λ i. wrong_label (get_or labels i 0)) (length labels) c.in-Some-first_bad_label.rank (sym c.in-Some-first_bad_label.ensures) in
    omega arith
