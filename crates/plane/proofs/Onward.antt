-- What stays from one action to the next stays over whole runs.
use Rattle.std.proofs.Common.{◌≡◌, ℕ, ◌<◌, List, [], ◌∷◌, None, refl, ap, ◌∙◌, ⊎_elim, arith}
use Rattle.std.proofs.lemmas.Bool.{cases_lt}
use Rattle.model.specs.declared.action.Action.{Action}
use Rattle.model.specs.declared.action.Action.TheVariants.{Open, Close}
use Rattle.model.specs.Receipt.{Receipt, Lawful, count_of, opened, closed}
use Rattle.model.specs.Axes.{leads}
use Rattle.model.specs.Runs.{opening_fault, closing_fault, after_one, after}
use Rattle.model.proofs.Opening.{count_more, label_old}
use Rattle.plane.specs.Steady.{Continues, RelationsStay}
use Rattle.model.proofs.Lawfully.{empty_lawful, unless, opening_lawful, closing_lawful}
use Rattle.plane.proofs.Steady.{leads_opened, leads_closed, leads_new, leads_inverse, grows_opened, grows_closed, grows_ended, backward_never_grows}

continues_same : (r : Receipt) → Lawful r → Continues r r
continues_same r w = record { lawful = w; longer = omega arith; label_kept = λ x h. refl; kept = λ a x y h k. refl; nothing_new = λ a x y h e b c. absurd (omega arith); shut = λ a x h e. e }

continues_opened : (r : Receipt) (l : ℕ) → Lawful r → opening_fault l r ≡ None → Continues r (opened r l)
continues_opened r l w f =
    let m = count_more r l in
    record {
      lawful = opening_lawful r l w f;
      longer = omega arith;
      label_kept = label_old r l;
      kept = leads_opened r l w f;
      nothing_new = λ a x y h e b c. let q : y ≡ count_of r = omega arith in ap (leads (opened r l) a x) q ∙ leads_new r l w f x h a e;
      shut = grows_opened r l w f;
    }

continues_closed : (r : Receipt) → Lawful r → closing_fault r ≡ None → Continues r (closed r)
continues_closed r w f = record {
  lawful = closing_lawful r w;
  longer = omega arith;
  label_kept = λ x h. refl;
  kept = λ a x y h k. leads_closed r a x y;
  nothing_new = λ a x y h e b c. absurd (omega arith);
  shut = grows_closed r w f;
}

continues_trans : (r s t : Receipt) → Continues r s → Continues s t → Continues r t
continues_trans r s t a b =
    let m = a.longer in
    let n = b.longer in
    record {
      lawful = b.lawful;
      longer = omega arith;
      label_kept = λ x h. b.label_kept x (omega arith) ∙ a.label_kept x h;
      kept = λ c x y h k. b.kept c x y (omega arith) (omega arith) ∙ a.kept c x y h k;
      nothing_new = λ c x y h e k j. ⊎_elim
          (λ (q : y < count_of s). b.kept c x y (omega arith) q ∙ a.nothing_new c x y h e k q)
          (λ q. b.nothing_new c x y (omega arith) (a.shut c x h e) q j)
          (cases_lt y (count_of s));
      shut = λ c x h e. b.shut c x (omega arith) (a.shut c x h e);
    }

pub continues_one : (a : Action) (r : Receipt) → Lawful r → Continues r (after_one a r)
continues_one (Open l) r w = unless (Continues r) (opening_fault l r) (opened r l) r (continues_opened r l w) (continues_same r w)
continues_one Close r w = unless (Continues r) (closing_fault r) (closed r) r (continues_closed r w) (continues_same r w)

pub continues_run : (run : List Action) (r : Receipt) → Lawful r → Continues r (after run r)
continues_run [] r w = continues_same r w
continues_run (a ∷ rest) r w = let c = continues_one a r w in continues_trans r (after_one a r) (after rest (after_one a r)) c (continues_run rest (after_one a r) c.lawful)

pub relations_stay : RelationsStay
relations_stay = record { start = empty_lawful; runs = continues_run; ended = grows_ended; backward = backward_never_grows; inverses = leads_inverse }
