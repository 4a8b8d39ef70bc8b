use Rattle.std.proofs.Common.{rules, ◌∙◌}
use Rattle.model.proofs.Bounds.{next_bound}
use Rattle.roll.specs.Held.{receipt_of}
use Rattle.roll.proofs.Found.{beyond, no_next_told, next_told}
use Rattle.roll.proofs.RollStore.next_sibling.Goals as goal

pub returns-in_err-level-clause-value : goal.returns-in_err-level-clause-value
returns-in_err-level-clause-value c = c.from_residual.ensures ∙ beyond c.args.self.now c.args.rank _ (search rules)

pub returns-in_err-at-clause-value : goal.returns-in_err-at-clause-value
returns-in_err-at-clause-value c = c.from_residual-in_err-at.ensures ∙ no_next_told c.args.self.now c.args.rank (search rules) c.in_ok-level.field-0.now (search rules) c.in_err-at.ensures

pub returns : goal.returns
returns c =
    let e = c.then_some.ensures ∙ next_told c.args.self.now c.args.rank (search rules) c.in_ok-level.field-0.now (search rules) c.in_ok-at.field-0 c.in_ok-at.ensures in
    record { value = e; bound = next_bound (receipt_of c.args.self.now) c.args.rank _ e }
