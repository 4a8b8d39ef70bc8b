use Rattle.std.proofs.Common.{Ok, sym, refl, subst, ◌∙◌}
use Rattle.names.specs.Sheet.{Checked}
use Rattle.names.proofs.Sheets.{judged_is}
use Rattle.names.proofs.sheet.read.SheetTryFromRefSliceU8.try_from.Goals as goal

pub returns : goal.returns
returns c =
    let t = c.args.bytes.now in
    let h = c.in_ok-check.ensures in
    let e = judged_is t (Ok c.in_ok-check.field-0) h.answers in
    record { answers = subst (Checked t) (sym e) h.answers; only = λ other x. h.only other x ∙ sym e; keeps = refl; faultless = refl }
