use Rattle.std.proofs.Common.{length, Ok, refl, rules, arith}
use Rattle.std.proofs.lemmas.Result.{err_from_is_err_and}
use Rattle.query.specs.declared.QuerySize.{QuerySize}
use Rattle.query.specs.Answers.{Sized, Answered}
use Rattle.query.specs.Limits.{Tree}
use Rattle.reader.specs.Drafts.{started}
use Rattle.query.proofs.Whole.{from_start, broken, refused, room, accepted}
use Rattle.query.proofs.Exact.{one_answer}
use Rattle.query.proofs.Small.{read_small}
use Rattle.query.proofs.read.Goals as goal

pub returns-in_err-parse : goal.returns-in_err-parse
returns-in_err-parse g c =
    let t = c.args.text.now in
    let labels = g.N.Naming.labels c.args.names.now in
    let table = c.args.table.now in
    let s : Sized t = record { some = search rules; few = omega arith } in
    let p = err_from_is_err_and c.from_residual.result c.from_residual.ensures.1 in
    let a : Answered t labels table table c.from_residual.result = rw (p.1, p.2) (refl, broken t labels (length table) c.in_err-parse.field-0.0 s c.in_err-parse.ensures) in
    record { answers = a; only = one_answer t labels table table _ a; small = rw p.1 (λ ranged. tt) }

pub returns-in_err-limit : goal.returns-in_err-limit
returns-in_err-limit g c =
    let t = c.args.text.now in
    let labels = g.N.Naming.labels c.args.names.now in
    let table = c.args.table.now in
    let s : Sized t = record { some = search rules; few = omega arith } in
    let d = c.parse.new.draft in
    let k : Tree t labels started d = from_start t labels c.start-draft.result d c.start-draft.ensures c.in_ok-parse.ensures in
    let p = err_from_is_err_and c.from_residual-in_err-limit.result c.from_residual-in_err-limit.ensures.1 in
    let a : Answered t labels table table c.from_residual-in_err-limit.result = rw (p.1, p.2) (refl, refused t labels (length table) d c.in_err-limit.field-0.0 s k c.in_err-limit.ensures) in
    record { answers = a; only = one_answer t labels table table _ a; small = rw p.1 (λ ranged. tt) }

pub copy-requires : goal.copy-requires
copy-requires g c =
    let t = c.args.text.now in
    let labels = g.N.Naming.labels c.args.names.now in
    let d = c.parse.new.draft in
    let r = room t labels (length c.args.table.now) d (from_start t labels c.start-draft.result d c.start-draft.ensures c.in_ok-parse.ensures) c.in_ok-limit.ensures in
    record { some = r.some; drafted = r.drafted; room = r.room }

pub returns : goal.returns
returns g c =
    let t = c.args.text.now in
    let labels = g.N.Naming.labels c.args.names.now in
    let table = c.args.table.now in
    let s : Sized t = record { some = search rules; few = omega arith } in
    let d = c.parse.new.draft in
    let k : Tree t labels started d = from_start t labels c.start-draft.result d c.start-draft.ensures c.in_ok-parse.ensures in
    let a = accepted t labels table c.copy.new.table d s k c.in_ok-limit.ensures c.copy.ensures in
    let size : QuerySize = record { steps = d.count; places = d.used } in
    let r = room t labels (length table) d k c.in_ok-limit.ensures in
    record { answers = a; only = one_answer t labels table c.copy.new.table (Ok size) a; small = read_small t labels table c.copy.new.table d size k r c.copy.ensures a.1 }
