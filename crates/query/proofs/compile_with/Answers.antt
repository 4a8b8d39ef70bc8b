use Rattle.std.proofs.Common.{Ok, Err}
use Rattle.std.proofs.lemmas.Result.{err_from_is_err_and}
use Rattle.query.proofs.Compiled.{compiled, exactly, kept_past}
use Rattle.query.proofs.compile_with.Goals as goal

pub returns-in_err-size : goal.returns-in_err-size
returns-in_err-size g c =
    let p = err_from_is_err_and c.from_residual.result c.from_residual.ensures.1 in
    let e = exactly c.args.text.now (g.N.Naming.labels c.args.names.now) c.args.table.now c.read.new.table (Err c.in_err-size.field-0.0) c.in_err-size.ensures.answers in
    rw (p.1, p.2) (record { answers = e.answers; only = e.only; written = e.written; small = tt; past = tt })

pub returns : goal.returns
returns g c =
    let t = c.args.text.now in
    let labels = g.N.Naming.labels c.args.names.now in
    let table = c.args.table.now in
    let new = c.read.new.table in
    let size = c.in_ok-size.size in
    let ranged = g.met.N.Lookup.ranged c.args.names.now in
    let small = c.in_ok-size.ensures.small ranged in
    let e = exactly t labels table new (Ok size.steps) (compiled t labels ranged table new size c.read.auto.table c.in_ok-size.ensures.answers small) in
    record { answers = e.answers; only = e.only; written = e.written; small = small; past = kept_past table new size c.in_ok-size.ensures.answers.0.kept c.in_ok-size.ensures.answers.1 }
