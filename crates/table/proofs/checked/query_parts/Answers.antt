use Rattle.std.proofs.Common.{◌≡◌, ℕ, ◌+◌, ◌<◌, ◌≤◌, true, false, length, take, ap, rules, arith}
use Rattle.std.specs.Option.{IfSome, MatchOption}
use Rattle.std.proofs.lemmas.Bool.Decides.{nat_tests}
use Rattle.table.specs.Reading.{itself, last_place}
use Rattle.table.specs.Formulas.{ends_in_step}
use Rattle.table.specs.Held.{EndsAt}
use Rattle.table.specs.Lawful.{parts_in, checked_reading}
use Rattle.table.proofs.Made.{not_there, not_a_step, too_many, then_some_both, cut}
use Rattle.table.proofs.checked.query_parts.Goals as goal

pub returns-in_err-get-clause-reads : goal.returns-in_err-get-clause-reads
returns-in_err-get-clause-reads c =
    let table = c.args.table.now in
    let h : length table ≤ last_place table = search rules in
    rw c.from_residual-in_err-get.ensures (not_there table h)

pub returns-in_default-clause-reads : goal.returns-in_default-clause-reads
returns-in_default-clause-reads c =
    let table = c.args.table.now in
    let h : last_place table < length table = search rules in
    let e : ends_in_step table ≡ false = search rules in
    not_a_step table h e

pub returns-clause-reads : goal.returns-clause-reads
returns-clause-reads c =
    let table = c.args.table.now in
    let last = c.in_ok-last.field-0.now.first in
    let k : last ≡ last_place table = search rules in
    let h : last_place table < length table = search rules in
    let step : ends_in_step table ≡ true = search rules in
    rw c.then_some.ensures (then_some_both _ _ (λ o. MatchOption o (checked_reading table ≡ itself) (λ parts. EndsAt parts.now (length parts.now) × (checked_reading parts.now ≡ checked_reading table)))
    (λ e. cut table (last + 1) (record { number = omega arith; within = omega arith; few = grind (arith, nat_tests); step = step }))
    (λ e. too_many table (grind (arith, nat_tests))))

pub returns-clause-front : goal.returns-clause-front
returns-clause-front c =
    let table = c.args.table.now in
    let last = c.in_ok-last.field-0.now.first in
    let k : last ≡ last_place table = search rules in
    rw c.then_some.ensures (then_some_both _ _ (λ o. IfSome o (λ parts. parts.now ≡ take (parts_in table) table)) (λ e. ap (λ (i : ℕ). take (i + 1) table) k) (λ e. tt))
