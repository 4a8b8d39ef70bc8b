use Rattle.std.proofs.Common.{◌∙◌, ◌-◌, ap, sym, cond, length, arith, List}
use Rattle.std.specs.List.{list_all}
use Rattle.std.proofs.lemmas.List.{take_all}
use Rattle.table.specs.declared.part.Part.{Part}
use Rattle.table.specs.Lawful.{narrow}
use Rattle.table.specs.Lengths.{capped, cost_at, too_much}
use Rattle.table.proofs.Made.{measured}
use Rattle.table.proofs.checked.lawful_length.Goals as goal

pub returns : goal.returns
returns c =
    let parts = c.args.parts.now in
    let n = length parts in
    let e = c.measure-length.ensures ∙ ap (λ (ps : List Part). cond (list_all narrow ps) (capped (cost_at parts (n - 1))) too_much) (sym (take_all n parts (omega arith))) in
    rw (c.then_some.ensures, c.allowed.ensures) (measured parts n c.measure-length.result c.requires e)
