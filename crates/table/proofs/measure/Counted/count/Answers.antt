use Rattle.table.proofs.Lengths.{costed_more}
use Rattle.table.proofs.measure.Counted.count.Goals as goal

pub invariant_of-self-clause-costed : goal.invariant_of-self-clause-costed
invariant_of-self-clause-costed c =
    let s = c.args.self.now in
    rw c.push.ensures.items (costed_more s.parts.now s.costs.items c.args.part c.cost-cost.result s.costed c.requires.next c.cost-cost.ensures)
