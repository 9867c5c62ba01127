use Rattle.turnstile.proofs.Orders.{steps_keep_the_rule, receives_what_was_sent, receives_from_each, has_whole_columns}
use Rattle.turnstile.proofs.Allowed.{finishes_by_the_rule_are_allowed}
use Rattle.turnstile.proofs.Acts.{finishes_are_the_tables, looks_are_the_tables}
use Rattle.turnstile.proofs.crossing_laws.interleaving_law.Goals as goal

pub returns-clause-finishes : goal.returns-clause-finishes
returns-clause-finishes c = finishes_are_the_tables

pub returns-clause-looks : goal.returns-clause-looks
returns-clause-looks c = looks_are_the_tables

pub returns-clause-sound : goal.returns-clause-sound
returns-clause-sound c = steps_keep_the_rule

pub returns-clause-allowed : goal.returns-clause-allowed
returns-clause-allowed c = finishes_by_the_rule_are_allowed

pub returns-clause-sent : goal.returns-clause-sent
returns-clause-sent c = receives_what_was_sent

pub returns-clause-taken : goal.returns-clause-taken
returns-clause-taken c = receives_from_each

pub returns-clause-whole : goal.returns-clause-whole
returns-clause-whole c = has_whole_columns
