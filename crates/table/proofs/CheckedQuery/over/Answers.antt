use Rattle.table.proofs.Made.{every_table_is_lawful, past_the_query_nothing_counts}
use Rattle.table.proofs.CheckedQuery.over.Goals as goal

pub returns-clause-every : goal.returns-clause-every
returns-clause-every c = every_table_is_lawful

pub returns-clause-past : goal.returns-clause-past
returns-clause-past c = past_the_query_nothing_counts
