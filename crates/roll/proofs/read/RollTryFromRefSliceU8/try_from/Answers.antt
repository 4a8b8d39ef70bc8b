use Rattle.std.proofs.Common.{◌∙◌, sym, refl, subst, arith}
use Rattle.std.proofs.lemmas.Result.{err_from_is_err_and}
use Rattle.model.specs.Receipt.{Lawful}
use Rattle.model.proofs.Readings.{accepted, accepted_lawful}
use Rattle.roll.specs.Told.{told}
use Rattle.roll.proofs.Outcome.{accepts, fault_err, fault_ok, refuses}
use Rattle.roll.proofs.read.RollTryFromRefSliceU8.try_from.Goals as goal

pub invariant_of-result : goal.invariant_of-result
invariant_of-result c =
    let none = c.in_ok-parts.ensures.ok.0 ∙ fault_ok _ c.in_ok-check.ensures in
    record { paired = c.in_ok-parts.parts.paired; lawful = subst Lawful c.in_ok-parts.ensures.ok.1 (accepted_lawful c.args.bytes.now (accepted c.args.bytes.now none)) }

pub returns-in_err-parts : goal.returns-in_err-parts
returns-in_err-parts c =
    let p = err_from_is_err_and c.from_residual.result c.from_residual.ensures.1 in
    rw (p.1, p.2) (refuses c.args.bytes.now c.in_err-parts.field-0.0 c.in_err-parts.ensures.err)

pub returns-in_err-check : goal.returns-in_err-check
returns-in_err-check c =
    let p = err_from_is_err_and c.from_residual-in_err-check.result c.from_residual-in_err-check.ensures.1 in
    rw (p.1, p.2) (refuses c.args.bytes.now c.in_err-check.field-0.0 (c.in_ok-parts.ensures.ok.0 ∙ fault_err _ c.in_err-check.field-0.0 c.in_err-check.ensures))

pub returns : goal.returns
returns c =
    let p = c.in_ok-parts.parts in
    (refl, accepts c.args.bytes.now (told p.levels.now p.labels.now p.depth) (λ i. omega (arith, c.type_inv.bytes i)) (c.in_ok-parts.ensures.ok.0 ∙ fault_ok _ c.in_ok-check.ensures) (sym c.in_ok-parts.ensures.ok.1))
