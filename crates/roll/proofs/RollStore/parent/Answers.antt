use Rattle.std.proofs.Common.{rules, ◌∙◌, arith}
use Rattle.model.proofs.Bounds.{parent_bound}
use Rattle.roll.specs.Held.{receipt_of}
use Rattle.roll.proofs.Found.{beyond, no_parent_told, parent_told}
use Rattle.roll.proofs.RollStore.parent.Goals as goal

pub returns-in_err-get-clause-value : goal.returns-in_err-get-clause-value
returns-in_err-get-clause-value c = c.from_residual.ensures ∙ beyond c.args.self.now c.args.rank _ (search rules)

pub returns-in_err-above-clause-value : goal.returns-in_err-above-clause-value
returns-in_err-above-clause-value c =
    c.from_residual-in_err-above.ensures ∙ no_parent_told c.args.self.now c.args.rank (search rules) c.in_ok-get.field-0.now (search rules) (λ j a e. c.in_err-above.ensures (omega arith))

pub returns : goal.returns
returns c =
    let e = parent_told c.args.self.now c.args.rank (search rules) c.in_ok-get.field-0.now (search rules) c.in_ok-above.above (omega (arith, c.in_ok-above.ensures)) c.rposition.result (search rules) in
    record { value = e; bound = parent_bound (receipt_of c.args.self.now) c.args.rank _ e }
