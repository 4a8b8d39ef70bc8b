use Rattle.std.proofs.Common.{ℕ, length, get_or, Option, sym, ap, ◌∙◌, rules}
use Rattle.reader.specs.Drafts.{labelled}
use Rattle.reader.specs.Parsed.{TestRead}
use Rattle.reader.proofs.Moves.{at_stop, front}
use Rattle.reader.proofs.Compose.{name_stops, name_read}
use Rattle.reader.proofs.descent.test.Goals as goal

pub returns-in_err-rest-in-len1-up : goal.returns-in_err-rest-in-len1-up
returns-in_err-rest-in-len1-up g c =
    let x = c.args.text.now in
    at_stop (TestRead _ _ _ _) c.from_residual.ensures.1 (name_stops (get_or x 0 0) x _ _ (search (rules, front)) (sym c.if-is_letter.ensures) c.in_err-rest-in-len1-up.ensures)

pub returns-in_ok-rest-in-len1-up : goal.returns-in_ok-rest-in-len1-up
returns-in_ok-rest-in-len1-up g c =
    let x = c.args.text.now in
    let d = c.in_ok-rest-in-len1-up.ensures in
    name_read _ (get_or x 0 0) d.0 x _ c.in_ok-rest-in-len1-up.rest.now c.args.draft.now c.name.new.self (search (rules, front)) (sym c.if-is_letter.ensures) d.1 d.2 d.3
    (c.name.ensures ∙ ap (λ (o : Option ℕ). labelled o (length x) c.args.draft.now) c.find-label.ensures)
