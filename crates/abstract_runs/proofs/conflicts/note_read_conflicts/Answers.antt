use Rattle.std.proofs.Common.{sym, subst}
use Rattle.pram_meaning.specs.Conflict.{reads_of}
use Rattle.pram_values.specs.declared.kind.Kind.TheVariants.{ReadConflict}
use Rattle.abstract_runs.specs.Columns.{AreApartBefore}
use Rattle.abstract_runs.specs.Finding.{MayBy, found_for}
use Rattle.abstract_runs.proofs.Found.{by_later}
use Rattle.abstract_runs.proofs.SharedReads.{conflict_behind, none_conflict, read_kind}
use Rattle.abstract_runs.proofs.conflicts.note_read_conflicts.Goals as goal

pub returns-in_default-clause-noted : goal.returns-in_default-clause-noted
returns-in_default-clause-noted c = λ before xs key parts among.
    absurd (none_conflict before c.args.rule c.args.rows.now xs key
    (subst (λ o. AreApartBefore o c.args.rows.now) c.in_default.is c.in_ok-position.ensures) parts among)

pub returns-clause-noted : goal.returns-clause-noted
returns-clause-noted c = λ before xs key parts among.
    subst (λ kind. MayBy kind key.at c.note.new.self) (sym (read_kind c.args.rule (reads_of xs) key among))
    (by_later (found_for ReadConflict c.note.new.self) c.in-Some.position key.at c.note.ensures.noted
    (conflict_behind before c.args.rule c.args.rows.now xs key c.in-Some.position
    (subst (λ o. AreApartBefore o c.args.rows.now) c.in-Some.is c.in_ok-position.ensures) parts among))
