use Rattle.std.proofs.Common.{◌≡◌, None, Ok, sym, ap, ◌∙◌}
use lib.ListN.{length-map}
use Rattle.model.specs.Receipt.{opened, count_of}
use Rattle.model.specs.Runs.{opening_fault, unless_fault, answer}
use Rattle.till.specs.Links.{element}
use Rattle.till.specs.Held.{receipt_of}
use Rattle.till.proofs.Grow.{Grown, grown, accepts, refused, parent_below, previous_below, attached_else}
use Rattle.till.proofs.Till.open.Goals as goal
use Rattle.till.proofs.Till.open.Goals.{After-attach}

pub returns-in_err-may_open-clause-holds : goal.returns-in_err-may_open-clause-holds
returns-in_err-may_open-clause-holds c =
    let r = receipt_of c.args.self.now in
    refused (opening_fault c.args.label r) tt c.in_err-may_open.field-0.0 r (opened r c.args.label) (sym c.in_err-may_open.was ∙ c.may_open.ensures)

pub attach-requires-clause-parent : goal.attach-requires-clause-parent
attach-requires-clause-parent c = parent_below c.args.self.now.links.items c.args.self.now.depth _ c.next_place-parent.ensures.parent

pub attach-requires-clause-previous : goal.attach-requires-clause-previous
attach-requires-clause-previous c = previous_below c.args.self.now.links.items c.args.self.now.depth _ c.next_place-parent.ensures.previous

accepted : (c : goal.After-attach) → opening_fault c.args.label (receipt_of c.args.self.now) ≡ None
accepted c = accepts (opening_fault c.args.label (receipt_of c.args.self.now)) tt c.in_ok-may_open.field-0 (sym c.in_ok-may_open.was ∙ c.may_open.ensures)

after : (c : goal.After-attach) → Grown c.args.self.now.links.items c.attach.new.links.items c.args.self.now.depth c.args.label
after c =
    let t = c.args.self.now in
    grown t.links.items c.attach.new.links.items t.depth c.args.label c.next_place-parent.result.parent c.next_place-parent.result.previous t.lawful t.linked (accepted c)
    c.next_place-parent.ensures.parent c.next_place-parent.ensures.previous c.attach.ensures

pub invariant_of-self : goal.invariant_of-self
invariant_of-self c = let g = after c in record { lawful = g.lawful; linked = g.linked }

pub returns : goal.returns
returns c =
    let b = (goal.at.returns c).After-attach in
    let g = after b in
    let f = accepted b in
    let t = c.args.self.now in
    let r = receipt_of t in
    let n = length-map t.links.items element in
    record {
      answers = ap Ok (c.len-rank.ensures.value ∙ sym n) ∙ sym (ap (λ o. answer o (count_of r)) f);
      holds = g.tells ∙ sym (ap (λ o. unless_fault o (opened r c.args.label) r) f);
      keeps = λ i h u p. attached_else t.links.items c.attach.new.links.items i _ c.attach.ensures h (λ e. u (sym c.next_place-parent.ensures.parent ∙ e)) (λ e. p (sym c.next_place-parent.ensures.previous ∙ e));
    }
