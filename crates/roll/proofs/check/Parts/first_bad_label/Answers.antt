use Rattle.std.proofs.Common.{rules, length, get_or}
use Rattle.model.specs.Reading.{wrong_label}
use Rattle.roll.proofs.First.{first_from}
use Rattle.roll.proofs.check.Parts.first_bad_label.Goals as goal

pub returns : goal.returns
returns c =
    let labels = c.args.self.now.labels.now in
    first_from (λ i. wrong_label (get_or labels i 0)) (length labels) c.position.result (search rules)
