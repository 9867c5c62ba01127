use Rattle.moment_laws.proofs.Whole.{final_is_within, goes_on_before}
use Rattle.moment_laws.proofs.moment_laws.a_bound_only_cuts.Goals as goal

pub returns-clause-within : goal.returns-clause-within
returns-clause-within c = final_is_within

pub returns-clause-before : goal.returns-clause-before
returns-clause-before c = goes_on_before
