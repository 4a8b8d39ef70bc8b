-- The receipt after calls is the one after their openings and closings.
use Rattle.std.proofs.Common.{◌≡◌, List, [], ◌∷◌, refl}
use Rattle.model.specs.Receipt.{Receipt}
use Rattle.model.specs.Runs.{after_one, after}
use Rattle.model.specs.Calls.{Call, act, show, write, after_calls, actions_of}

pub after_calls_lem : (calls : List Call) (r : Receipt) → after_calls calls r ≡ after (actions_of calls) r
after_calls_lem [] r = refl
after_calls_lem (act a ∷ rest) r = after_calls_lem rest (after_one a r)
after_calls_lem (show q rate ∷ rest) r = after_calls_lem rest r
after_calls_lem (write n ∷ rest) r = after_calls_lem rest r
