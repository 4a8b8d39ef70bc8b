-- The calls of a sale, and the receipt after them.
use Rattle.std.specs.Prelude.{ℕ, List, [], ◌∷◌}
use Rattle.model.specs.declared.action.Action.{Action}
use Rattle.model.specs.Receipt.{Receipt, empty}
use Rattle.model.specs.Runs.{after_one}
use Rattle.model.specs.Query.{Path}

pub data Call : Type 0 where
  -- an opening or a closing
  act : Action → Call
  -- a show of a query at a rate
  show : Path → ℕ → Call
  -- the writing of the roll into memory of this length
  write : ℕ → Call

-- Only an action that is not refused changes the receipt.
abbrev pub after_call : Call → Receipt → Receipt
after_call (act a) r = after_one a r
after_call (show q rate) r = r
after_call (write n) r = r

-- the receipt after a list of calls, in order
abbrev pub after_calls : List Call → Receipt → Receipt
after_calls [] r = r
after_calls (c ∷ rest) r = after_calls rest (after_call c r)

-- the receipt of the moment after these calls
abbrev pub rung_up : List Call → Receipt
rung_up calls = after_calls calls empty

-- the openings and closings among calls, in order
abbrev pub actions_of : List Call → List Action
actions_of [] = []
actions_of (act a ∷ rest) = a ∷ actions_of rest
actions_of (show q rate ∷ rest) = actions_of rest
actions_of (write n ∷ rest) = actions_of rest
