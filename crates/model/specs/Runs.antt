-- Openings and closings, when they are refused, and the receipt after a list of them.
use Rattle.std.specs.Prelude.{ℕ, cond, ◌||◌, List, [], ◌∷◌, Some, None, Ok, Err, Option, Result, ◌==◌, nat_le, nat_lt}
use Rattle.model.specs.declared.action.Action.{Action}
use Rattle.model.specs.declared.action.Action.TheVariants.{Open, Close}
use Rattle.model.specs.declared.fault.ReceiptFault.{ReceiptFault}
use Rattle.model.specs.declared.fault.ReceiptFault.TheVariants.{BadLabel, Ended, Full, TooDeep, NothingOpen}
use Rattle.model.specs.Limits.{most_elements, most_label, most_depth}
use Rattle.model.specs.Receipt.{Receipt, count_of, has_ended, opened, closed}

-- The first reason that applies, in this order.
abbrev pub opening_fault : ℕ → Receipt → Option ReceiptFault
opening_fault label r =
    cond (label == 0 || nat_lt most_label label) (Some BadLabel)
    (cond (has_ended r) (Some Ended)
    (cond (nat_le most_elements (count_of r)) (Some Full)
    (cond (nat_le most_depth r.depth) (Some TooDeep) None)))

abbrev pub closing_fault : Receipt → Option ReceiptFault
closing_fault r = cond (r.depth == 0) (Some NothingOpen) None

abbrev pub fault_of : Action → Receipt → Option ReceiptFault
fault_of (Open label) r = opening_fault label r
fault_of Close r = closing_fault r

-- what an accepted action makes of a receipt
abbrev pub effect_of : Action → Receipt → Receipt
effect_of (Open label) r = opened r label
effect_of Close r = closed r

-- the receipt afterwards: a refused action leaves it as it is
abbrev pub unless_fault : Option ReceiptFault → Receipt → Receipt → Receipt
unless_fault None changed r = changed
unless_fault (Some f) changed r = r

abbrev pub after_one : Action → Receipt → Receipt
after_one a r = unless_fault (fault_of a r) (effect_of a r) r

-- the answer: the fault, or a value where there is none
abbrev pub answer : {A : Type 0} → Option ReceiptFault → A → Result A ReceiptFault
answer None v = Ok v
answer (Some f) v = Err f

-- the receipt after a list of actions, in order
abbrev pub after : List Action → Receipt → Receipt
after [] r = r
after (a ∷ rest) r = after rest (after_one a r)

abbrev pub keep_unless : Option ReceiptFault → Action → List Action → List Action
keep_unless None a rest = a ∷ rest
keep_unless (Some f) a rest = rest

-- the actions of a list that are accepted, in order
abbrev pub accepted : List Action → Receipt → List Action
accepted [] r = []
accepted (a ∷ rest) r = keep_unless (fault_of a r) a (accepted rest (after_one a r))

-- what actions make of a receipt where nobody looks whether they are accepted
abbrev pub effects : List Action → Receipt → Receipt
effects [] r = r
effects (a ∷ rest) r = effects rest (effect_of a r)
