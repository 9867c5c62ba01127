use Rattle.superstep_machine.proofs.CellPuts.{entries_that_came}
use Rattle.superstep_machine.proofs.Written.{entries_of_all, writers_get_the_rule, no_writers_no_verdict}
use Rattle.superstep_machine.proofs.collected_law.writers_get_what_the_rule_gives.Goals as goal

pub returns : goal.returns
returns c = record { all = entries_of_all; came = entries_that_came; given = writers_get_the_rule; none = no_writers_no_verdict }
