use Rattle.std.proofs.Common.{subst, to_z, of_z, w64, rules, FitsSigned}
use Rattle.std.proofs.lemmas.Int.{to_z-of_z}
use Rattle.std.specs.List.{All}
use Rattle.abstract_runs.specs.Columns.{WritesOnly}
use Rattle.abstract_runs.proofs.RowSums.{all_more, all_end}
use Rattle.abstract_runs.proofs.conflicts.write_only.Goals as goal

pub loop-k-preserved : goal.loop-k-preserved
loop-k-preserved c =
    all_more (WritesOnly (to_z w64 (of_z w64 c.args.x))) c.args.rows.now c.loop-k.k c.index-rows-k.result c.loop-k.invariant
    c.loop-k-test.true
    c.index-rows-k.is (c.writes_only.ensures c.if-not-writes_only.false)

pub returns : goal.returns
returns c = λ e.
    let fits : FitsSigned w64 c.args.x = search rules in
    subst (λ x. All (WritesOnly x) c.args.rows.now) (to_z-of_z w64 c.args.x fits)
    (all_end (WritesOnly (to_z w64 (of_z w64 c.args.x))) c.args.rows.now c.loop-k.k c.loop-k.invariant c.loop-k-test.false)
