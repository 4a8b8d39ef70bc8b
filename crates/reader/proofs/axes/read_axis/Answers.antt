use Rattle.std.proofs.Common.{[], codes, refl, rules}
use Rattle.grammar.specs.Machine.{axis, or_self, or_sibling}
use Rattle.reader.proofs.Moves.{front, names_names}
use Rattle.reader.proofs.axes.read_axis.Goals as goal

pub returns-in-115 : goal.returns-in-115
returns-in-115 c =
    names_names axis _ [] 115 _ _ _ (search (rules, front)) (λ fs t. refl) (c.spelt.ensures (codes "s") refl)

pub returns-in-99 : goal.returns-in-99
returns-in-99 c =
    names_names axis _ [] 99 _ _ _ (search (rules, front)) (λ fs t. refl) (c.spelt-in-99.ensures (codes "c") refl)

pub returns-in-100 : goal.returns-in-100
returns-in-100 c =
    names_names axis _ [] 100 _ _ _ (search (rules, front)) (λ fs t. refl)
    (c.either.ensures (codes "d") or_self (search rules))

pub returns-in-97 : goal.returns-in-97
returns-in-97 c =
    names_names axis _ [] 97 _ _ _ (search (rules, front)) (λ fs t. refl)
    (c.either-in-97.ensures (codes "a") or_self (search rules))

pub returns-in-102 : goal.returns-in-102
returns-in-102 c =
    names_names axis _ [] 102 _ _ _ (search (rules, front)) (λ fs t. refl)
    (c.either-in-102.ensures (codes "f") or_sibling (search rules))
