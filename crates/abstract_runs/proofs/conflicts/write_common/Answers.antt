use Rattle.abstract_runs.proofs.AlikeParts.{alike_never}
use Rattle.abstract_runs.proofs.SharedWrites.{common_never}
use Rattle.abstract_runs.proofs.conflicts.write_common.Goals as goal

pub returns-then-alike : goal.returns-then-alike
returns-then-alike c = λ e. alike_never c.args.alike c.args.rows.now c.if-alike.true

pub returns : goal.returns
returns c = λ e. common_never _ c.args.alike c.args.rows.now (c.write_only.ensures e)
