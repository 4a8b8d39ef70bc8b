use Rattle.std.proofs.Common.{codes, refl, rules}
use Rattle.grammar.specs.Machine.{after_p, or_sibling}
use Rattle.reader.proofs.Moves.{front, names_names}
use Rattle.reader.proofs.axes.after_p.Goals as goal

pub returns-in-97 : goal.returns-in-97
returns-in-97 c =
    names_names after_p _ (codes "p") 97 _ _ _ (search (rules, front)) (λ fs t. refl) (c.spelt.ensures (codes "pa") refl)

pub returns-in-114 : goal.returns-in-114
returns-in-114 c =
    names_names after_p _ (codes "p") 114 _ _ _ (search (rules, front)) (λ fs t. refl)
    (c.either.ensures (codes "pr") or_sibling (search rules))
