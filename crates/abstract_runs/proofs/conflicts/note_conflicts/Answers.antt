use Rattle.abstract_runs.proofs.SharedFaults.{keys_may}
use Rattle.abstract_runs.proofs.conflicts.note_conflicts.Goals as goal

pub returns-clause-noted : goal.returns-clause-noted
returns-clause-noted c = λ before xs key parts same kept.
    keys_may before c.note_write_conflicts.new.faults c.args.rule c.args.rows.now xs parts kept
    (λ key among. c.note_write_conflicts.ensures.kept key.kind key.at (c.in_ok-note_read_conflicts.ensures.noted before xs key parts among))
    (λ key among. c.in_ok-note_write_conflicts.ensures.noted before xs key parts same among) key
