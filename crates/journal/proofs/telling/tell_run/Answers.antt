use Rattle.journal.specs.declared.journal.Journal.{Journal}
use Rattle.journal.specs.RunEntries.{run_entries}
use Rattle.journal.proofs.Complete.{none_told, part_heard}
use Rattle.journal.proofs.telling.tell_run.Goals as goal

pub returns-in_default-new-clause-part : goal.returns-in_default-new-clause-part
returns-in_default-new-clause-part g c refused =
    none_told g.T.Teller.tells g.T.Teller.breaks_off g.met.T.Teller.tells_nothing c.args.teller
    (run_entries c.args.program.now c.args.input.now c.args.bound)

-- memory was refused within the run, or the telling broke off
pub returns-clause-part : goal.returns-clause-part
returns-clause-part g c refused =
    part_heard g.T.Teller.tells g.T.Teller.breaks_off g.met.T.Teller.tells_on (λ (j : Journal g.row.T.Denot). j.program.now)
    (λ (j : Journal g.row.T.Denot). j.teller) _ c.observe_watched-journal.result.0 _ (c.observe_watched-journal.ensures.part refused)
