use Rattle.table.proofs.WholeTables.{whole_part_by_part}
use Rattle.query.proofs.table_reads_as_formula.Goals as goal

pub returns : goal.returns
returns c = whole_part_by_part
