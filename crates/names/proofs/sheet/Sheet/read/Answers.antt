use Rattle.std.proofs.Common.{sym, ap, subst, ◌∙◌}
use Rattle.names.specs.Sheet.{Checked, line_ends}
use Rattle.names.specs.Held.{judged}
use Rattle.names.proofs.Sheets.{judged_is}
use Rattle.names.proofs.sheet.Sheet.read.Goals as goal

pub returns-clause-answers : goal.returns-clause-answers
returns-clause-answers c =
    let t = c.args.bytes.now in
    let e = ap (λ o. judged o (line_ends t)) c.err.ensures.value ∙ judged_is t c.check.result c.check.ensures.answers in
    subst (Checked t) (sym e) c.check.ensures.answers

pub returns-clause-only : goal.returns-clause-only
returns-clause-only c =
    let t = c.args.bytes.now in
    let e = ap (λ o. judged o (line_ends t)) c.err.ensures.value ∙ judged_is t c.check.result c.check.ensures.answers in
    λ other x. c.check.ensures.only other x ∙ sym e
