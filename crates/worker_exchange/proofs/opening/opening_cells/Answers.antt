use Rattle.std.proofs.Common.{pos, ◌∙◌, arith}
use Rattle.std.specs.Prelude.{slice_index_or}
use Rattle.worker_exchange.proofs.OpeningLemmas.{cells_are, by_place}
use Rattle.worker_exchange.proofs.opening.opening_cells.Goals as goal

pub returns-clause-values : goal.returns-clause-values
returns-clause-values g c =
    let m = g.M.AddressMap.shape c.args.map.now in
    let n = c.size-size.ensures in
    let at = c.offsets-test.false in
    cells_are (λ k. slice_index_or c.args.input.now k (pos 0)) (m.cell c.args.part) (m.width c.args.part) c.offsets.cells
    (c.offsets.invariant.long ∙ n) (λ o l. c.offsets.invariant.set o (omega (arith, l, n, at)))

pub returns-clause-fit : goal.returns-clause-fit
returns-clause-fit g c =
    let at = c.offsets-test.false in
    let n = c.offsets.invariant.long in
    by_place c.offsets.cells (λ k l. c.offsets.invariant.fit k (omega (arith, l, n, at)))
