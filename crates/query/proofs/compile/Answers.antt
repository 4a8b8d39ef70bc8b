use Rattle.std.proofs.Common.{◌≡◌, None, Option, sym, ◌∙◌, subst}
use Rattle.names.specs.declared.NamesFault.{NamesFault}
use Rattle.names.specs.Held.{fault_of, labels_of}
use Rattle.query.specs.Compiled.{CompiledWith}
use Rattle.query.proofs.compile.Goals as goal

pub returns-clause-only : goal.returns-clause-only
returns-clause-only c = λ other new x.
    let s = c.args.sheet.now in
    let e : fault_of s ≡ None = sym c.fault.ensures ∙ c.in_default.is in
    c.compile_with.ensures.only other new (subst (λ (o : Option NamesFault). CompiledWith o c.args.text.now (labels_of s) c.args.table.now new other) e x)
