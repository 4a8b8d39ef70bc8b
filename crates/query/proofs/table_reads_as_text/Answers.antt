use Rattle.std.proofs.Common.{ap, ◌∙◌}
use Rattle.grammar.proofs.Unique.{unambiguous}
use Rattle.query.specs.Answers.{meaning}
use Rattle.query.proofs.table_reads_as_text.Goals as goal

pub returns : goal.returns
returns c t labels old new size tree a r = a.holds ∙ ap (meaning labels) (unambiguous t a.fits.tree tree a.fits.sound.reads r)
