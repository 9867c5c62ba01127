use Rattle.std.proofs.Common.{sym, subst}
use Rattle.abstract_runs.specs.Columns.{NeverClash}
use Rattle.abstract_runs.proofs.SharedWrites.{sum_never}
use Rattle.abstract_runs.proofs.conflicts.is_shared_well.Goals as goal

pub returns-in-Common : goal.returns-in-Common
returns-in-Common c = λ e.
    subst (λ rule. NeverClash rule c.args.alike c.args.rows.now) (sym c.in-Common.is) (c.write_common.ensures e)

pub returns-in-Sum : goal.returns-in-Sum
returns-in-Sum c = λ e.
    let sums = c.have_sums.ensures e in
    subst (λ rule. NeverClash rule c.args.alike c.args.rows.now) (sym c.in-Sum.is) (sum_never c.args.alike c.args.rows.now sums.0 sums.1)
