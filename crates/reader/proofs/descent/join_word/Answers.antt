use Rattle.std.proofs.Common.{codes, refl, rules}
use Rattle.reader.specs.Parsed.{WordRead}
use Rattle.reader.proofs.Moves.{at_stop, front}
use Rattle.reader.proofs.Compose.{word_stops}
use Rattle.reader.proofs.descent.join_word.Goals as goal

pub returns-in_err-rest-in-97 : goal.returns-in_err-rest-in-97
returns-in_err-rest-in-97 c =
    at_stop (WordRead _) c.from_residual.ensures.1 (word_stops 97 (codes "nd ") _ _ _ (search (rules, front)) (λ fs t. refl) c.in_err-rest-in-97.ensures)

pub returns-in_err-rest-in-111 : goal.returns-in_err-rest-in-111
returns-in_err-rest-in-111 c =
    at_stop (WordRead _) c.from_residual-in_err-rest-in-111.ensures.1 (word_stops 111 (codes "r ") _ _ _ (search (rules, front)) (λ fs t. refl) c.in_err-rest-in-111.ensures)
