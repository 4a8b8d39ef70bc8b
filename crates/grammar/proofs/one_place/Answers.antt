use Rattle.grammar.proofs.Places.{query_or_one_place}
use Rattle.grammar.proofs.one_place.Goals as goal

pub returns : goal.returns
returns c = query_or_one_place
