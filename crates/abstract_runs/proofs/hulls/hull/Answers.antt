use Rattle.std.proofs.Common.{arith, tests}
use Rattle.intervals.specs.Intervals.{IsIn}
use Rattle.abstract_runs.proofs.DeclaredCells.{all_taken}
use Rattle.abstract_runs.proofs.hulls.hull.Goals as goal

pub returns : goal.returns
returns c = λ memory cover.
    let some = c.if-size-eq0.false in
    all_taken (λ z. IsIn z c.read_cells.result) c.args.first c.args.size memory
    (λ k low high. c.read_cells.ensures memory k cover (record { least = low; most = grind (arith, tests, some, high) }))
