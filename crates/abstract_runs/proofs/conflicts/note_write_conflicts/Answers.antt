use Rattle.std.proofs.Common.{sym, subst, ◌∙◌}
use Rattle.abstract_runs.specs.Finding.{MayBy, found_for}
use Rattle.abstract_runs.proofs.Found.{by_later}
use Rattle.abstract_runs.proofs.SharedWrites.{clash_behind, clash_kind, never_key}
use Rattle.abstract_runs.proofs.conflicts.note_write_conflicts.Goals as goal

pub returns-then-not-never-clause-noted : goal.returns-then-not-never-clause-noted
returns-then-not-never-clause-noted c = λ before xs key parts same among.
    subst (λ kind. MayBy kind key.at c.note.new.self) (c.clash_kind.ensures ∙ sym (clash_kind c.args.rule xs key among))
    (by_later (found_for c.clash_kind.result c.note.new.self) c.shortest.result key.at c.note.ensures.noted
    (clash_behind before c.args.rule c.args.rows.now xs key c.shortest.result c.shortest.ensures parts among))

pub returns-else-not-never-clause-noted : goal.returns-else-not-never-clause-noted
returns-else-not-never-clause-noted c = λ before xs key parts same among.
    absurd (never_key before c.args.rule c.args.alike c.args.rows.now xs key (c.in_ok-never.ensures c.if-not-never.false) parts same among)
