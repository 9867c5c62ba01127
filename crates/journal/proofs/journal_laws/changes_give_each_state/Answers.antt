use Rattle.journal.proofs.EachState.{changes_give_each_state}
use Rattle.journal.proofs.journal_laws.changes_give_each_state.Goals as goal

pub returns : goal.returns
returns c = changes_give_each_state
