use Rattle.std.proofs.Common.{rules}
use Rattle.reader.proofs.Moves.{front, names_after, names_plain, names_long}
use Rattle.reader.proofs.axes.either.Goals as goal

pub returns-in-58 : goal.returns-in-58
returns-in-58 c = λ p s f.
    let x = c.in_ok-rest.rest.now in
    names_after s p c.args.w.now _ x _ c.in_ok-rest.ensures.0 c.in_ok-rest.ensures.1
    (names_plain _ _ _ _ _ s f x _ _ (search (rules, front)) c.spelt.ensures)

pub returns-in-45 : goal.returns-in-45
returns-in-45 c = λ p s f.
    let x = c.in_ok-rest.rest.now in
    names_after s p c.args.w.now _ x _ c.in_ok-rest.ensures.0 c.in_ok-rest.ensures.1
    (names_long _ _ _ _ _ s f x _ _ (search (rules, front)) c.spelt-in-45.ensures)
