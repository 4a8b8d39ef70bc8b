use Rattle.verdicts.proofs.Formulas.{formula_is_selection}
use Rattle.verdicts.proofs.formula_is_selection.Goals as goal

pub returns : goal.returns
returns c = formula_is_selection
