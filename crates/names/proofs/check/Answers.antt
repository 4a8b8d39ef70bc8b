use Rattle.std.proofs.Common.{◌≡◌, Ok, Err, sym, subst, rules, arith}
use Rattle.names.specs.Sheet.{Checked}
use Rattle.names.proofs.Sheets.{accepted, repeats, broken_at, is_taken, is_apart, only}
use Rattle.names.proofs.check.Goals as goal

pub returns-in_err-run_of_names : goal.returns-in_err-run_of_names
returns-in_err-run_of_names c =
    let t = c.args.sheet.now in
    let f = c.in_err-run_of_names.field-0.0 in
    let e : c.from_residual.result ≡ Err f = search rules in
    let a = subst (Checked t) (sym e) (broken_at t f (record { bytes = omega arith; ends = omega arith }) c.in_err-run_of_names.ensures) in
    record { answers = a; only = only t c.from_residual.result a }

pub returns-in_err-no_repeat : goal.returns-in_err-no_repeat
returns-in_err-no_repeat c =
    let t = c.args.sheet.now in
    let f = c.in_err-no_repeat.field-0.0 in
    let e : c.from_residual-in_err-no_repeat.result ≡ Err f = search rules in
    let a = subst (Checked t) (sym e) (repeats t f (record { bytes = omega arith; ends = omega arith }) (is_taken t _ c.in_ok-run_of_names.ensures) c.in_err-no_repeat.ensures) in
    record { answers = a; only = only t c.from_residual-in_err-no_repeat.result a }

pub returns : goal.returns
returns c =
    let t = c.args.sheet.now in
    let n = c.line_ends-ends.result in
    let a = accepted t n (record { bytes = omega arith; ends = omega arith }) (is_taken t _ c.in_ok-run_of_names.ensures) (is_apart _ _ c.in_ok-no_repeat.ensures) c.line_ends-ends.ensures in
    record { answers = a; only = only t (Ok n) a }
