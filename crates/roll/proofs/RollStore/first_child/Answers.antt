use Rattle.std.proofs.Common.{rules, ◌∙◌}
use Rattle.model.proofs.Bounds.{child_bound}
use Rattle.roll.specs.Held.{receipt_of}
use Rattle.roll.proofs.Found.{beyond, no_child_told, child_told}
use Rattle.roll.proofs.RollStore.first_child.Goals as goal

pub returns-in_err-level-clause-value : goal.returns-in_err-level-clause-value
returns-in_err-level-clause-value c = c.from_residual.ensures ∙ beyond c.args.self.now c.args.rank _ (search rules)

pub returns-in_err-get-clause-value : goal.returns-in_err-get-clause-value
returns-in_err-get-clause-value c =
    c.from_residual-in_err-get.ensures ∙ no_child_told c.args.self.now c.args.rank (search rules) c.in_ok-level.level.now (search rules) (search rules)

pub returns : goal.returns
returns c =
    let e = c.then_some.ensures ∙ child_told c.args.self.now c.args.rank (search rules) c.in_ok-level.level.now (search rules) c.in_ok-get.field-0.now (search rules) (search rules) in
    record { value = e; bound = child_bound (receipt_of c.args.self.now) c.args.rank _ e }
