-- Laws of runs.
use Rattle.std.proofs.Common.{◌≡◌, ℕ, ◌+◌, ◌<◌, cond, List, [], ◌∷◌, length, get_or, drop, is_ok, Some, None, Option, sym, refl, ap, ◌∙◌, arith}
use Rattle.std.proofs.lemmas.List.{drop_more}
use Rattle.model.specs.declared.action.Action.{Action}
use Rattle.model.specs.declared.fault.ReceiptFault.{ReceiptFault}
use Rattle.model.specs.Receipt.{Receipt}
use Rattle.model.specs.Runs.{fault_of, effect_of, unless_fault, after_one, answer, after, keep_unless, accepted, effects}

-- The receipt after a list of actions is the one that its accepted actions make.
pub after_accepted : (actions : List Action) (r : Receipt) → after actions r ≡ effects (accepted actions r) r
after_accepted [] r = refl
after_accepted (a ∷ rest) r = step (fault_of a r) (after_accepted rest)
  where
    step : (o : Option ReceiptFault) → ((s : Receipt) → after rest s ≡ effects (accepted rest s) s)
        → after rest (unless_fault o (effect_of a r) r) ≡ effects (keep_unless o a (accepted rest (unless_fault o (effect_of a r) r))) r
    step None ih = ih (effect_of a r)
    step (Some f) ih = ih r

kept_count : (o : Option ReceiptFault) (a : Action) (rest : List Action) → length (keep_unless o a rest) ≡ cond (is_ok (answer {A = Unit {0}} o tt)) 1 0 + length rest
kept_count None a rest = omega arith
kept_count (Some f) a rest = omega arith

-- One turn of a loop over a list of actions: what is left leads to the same end, and an accepted action counts.
pub turn : (actions : List Action) (i : ℕ) (d : Action) (r s : Receipt) → i < length actions → s ≡ after_one (get_or actions i d) r
    → (after (drop (i + 1) actions) s ≡ after (drop i actions) r)
    × (length (accepted (drop i actions) r) ≡ cond (is_ok (answer {A = Unit {0}} (fault_of (get_or actions i d) r) tt)) 1 0 + length (accepted (drop (i + 1) actions) s))
turn actions i d r s h e =
    let m = drop_more actions i d h in (
      ap (after (drop (i + 1) actions)) e ∙ sym (ap (λ xs. after xs r) m),
      ap (λ xs. length (accepted xs r)) m ∙ kept_count (fault_of (get_or actions i d) r) (get_or actions i d) _ ∙ ap (λ x. cond (is_ok (answer {A = Unit {0}} (fault_of (get_or actions i d) r) tt)) 1 0 + length (accepted (drop (i + 1) actions) x)) (sym e),
    )
