use Rattle.std.proofs.Common.{subst, ◌∙◌}
use Rattle.abstract_runs.specs.Apart.{AreApart}
use Rattle.abstract_runs.proofs.SharedWrites.{apart_never}
use Rattle.abstract_runs.proofs.conflicts.never_clash.Goals as goal

pub returns-then-apart : goal.returns-then-apart
returns-then-apart c = λ e. apart_never c.args.rule c.args.alike c.args.rows.now
    (subst AreApart (c.deref.ensures.value ∙ c.in_ok-reaches.ensures.targets) (c.in_ok-apart.ensures c.if-apart.true))
    c.in_ok-reaches.ensures.words
