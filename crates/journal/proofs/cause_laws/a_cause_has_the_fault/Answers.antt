use Rattle.journal.proofs.Explained.{alone_explained, values_agree}
use Rattle.journal.proofs.SetFaults.{set_explained}
use Rattle.journal.proofs.cause_laws.a_cause_has_the_fault.Goals as goal

pub returns-clause-values : goal.returns-clause-values
returns-clause-values c = values_agree

pub returns-clause-alone : goal.returns-clause-alone
returns-clause-alone c = alone_explained

pub returns-clause-sets : goal.returns-clause-sets
returns-clause-sets c = set_explained
