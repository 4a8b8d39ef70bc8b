use Rattle.std.proofs.Common.{length, rules, arith, ap}
use Rattle.names.proofs.Cuts.{row_at, no_row}
use Rattle.names.proofs.rows.RowsIterator.next.Goals as goal

pub returns-in_err-end-clause-steps : goal.returns-in_err-end-clause-steps
returns-in_err-end-clause-steps c = let none = no_row c.args.self.now.0.now (search rules) in rw c.from_residual.ensures (none, none)

pub returns-clause-steps : goal.returns-clause-steps
returns-clause-steps c = row_at c.args.self.now.0.now c.in_ok-end.end (search rules) (search rules) (search rules)

pub returns-clause-goes : goal.returns-clause-goes
returns-clause-goes c =
    let split = row_at c.args.self.now.0.now c.in_ok-end.end (search rules) (search rules) (search rules) in
    record { on = λ _. (tt, tt, omega (arith, ap length split)); keeps = tt; rests = λ _. tt }
