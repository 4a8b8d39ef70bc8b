use Rattle.std.proofs.Common.{◌≡◌, arith, rules, tests, refl}
use Rattle.std.proofs.lemmas.Iterator.{YieldsList-from_range, cases_from_all}
use Rattle.model.specs.Receipt.{count_of}
use Rattle.store.proofs.Same.{SameAt, decides}
use Rattle.store.proofs.same_receipt.Goals as goal
use Rattle.store.proofs.same_receipt.Goals.{then-count, else-count}

pub returns-then-depth : goal.returns-then-depth
returns-then-depth g c =
    let r = g.S.Store.receipt c.args.s.now in
    let s = g.U.Store.receipt c.args.u.now in
    let n = c.count-then-depth.result in
    let count : count_of r ≡ count_of s = elim c.if-count.branch [ then-count w ↦ omega arith | else-count w ↦ grind arith ] in
    let depth : r.depth ≡ s.depth = elim c.if-count.branch [ then-count w ↦ grind (arith, tests) | else-count w ↦ grind arith ] in
    decides r s count n c.all.result c.count-then-depth.ensures depth
    (cases_from_all _ _ c.all.result (SameAt r s) (λ k. SameAt r s k → ⊥) c.all.ensures.ran (YieldsList-from_range 0 n n refl (omega arith)) (λ x q k. search (rules, tests)) (λ x q k. search (rules, tests)))
