use Rattle.std.proofs.Common.{◌∙◌, sym, ap, subst, is_some, arith}
use Rattle.names.specs.Sheet.{repeated}
use Rattle.names.proofs.Cuts.{Searched, searched_part, searched_row_within, searched_row, searched_repeat}
use Rattle.names.proofs.no_repeat.Goals as goal

pub slice_bounds-label-end : goal.slice_bounds-label-end
slice_bounds-label-end c = searched_part _ _ _ c.loop-row.invariant

pub returns-then-is_some : goal.returns-then-is_some
returns-then-is_some c =
    let d = subst (Searched c.args.sheet.now c.loop-row.start) c.in-Some.ensures.steps c.loop-row.invariant in
    ap repeated (searched_repeat _ _ _ _ d (sym (ap is_some c.label.ensures) ∙ sym c.is_some.ensures ∙ c.if-is_some.true))

pub overflow_add-start-in-loop-row : goal.overflow_add-start-in-loop-row
overflow_add-start-in-loop-row c =
    let d = subst (Searched c.args.sheet.now c.loop-row.start) c.in-Some.ensures.steps c.loop-row.invariant in
    omega (arith, searched_row_within _ _ _ _ d)

pub loop-row-preserved : goal.loop-row-preserved
loop-row-preserved c =
    let d = subst (Searched c.args.sheet.now c.loop-row.start) c.in-Some.ensures.steps c.loop-row.invariant in
    searched_row _ _ _ _ d (sym (ap is_some c.label.ensures) ∙ sym c.is_some.ensures ∙ c.if-is_some.false)
