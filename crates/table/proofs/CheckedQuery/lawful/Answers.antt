use Rattle.std.proofs.Common.{◌∙◌, sym, length, subst, arith}
use Rattle.std.specs.List.{AllPass}
use Rattle.std.proofs.lemmas.List.{take_all}
use Rattle.table.specs.Lawful.{narrow}
use Rattle.table.proofs.Made.{fits}
use Rattle.table.proofs.CheckedQuery.lawful.Goals as goal

pub invariant_of-result : goal.invariant_of-result
invariant_of-result c =
    let parts = c.in_ok-parts.parts.now in
    let e = c.in_ok-parts.ensures.reads.0 in
    let f = c.in_ok-query_length.ensures in
    record { whole = sym e.number; step = e.step; measured = f.measured; short = f.short; labelled = f.labelled; few = f.few; narrow_parts = subst (AllPass narrow) (take_all (length parts) parts (omega arith)) f.narrow_parts }

pub returns-clause-reads : goal.returns-clause-reads
returns-clause-reads c =
    let parts = c.in_ok-parts.parts.now in
    let e = c.in_ok-parts.ensures.reads in
    fits parts (length parts) c.in_ok-query_length.query_length c.in_ok-query_length.ensures e.0.number ∙ e.1
