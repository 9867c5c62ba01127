use Rattle.memory_texts.proofs.Within.{few_cells}
use Rattle.memory_texts.proofs.cells.cells_at.Goals as goal

pub between-requires : goal.between-requires
between-requires c = record {
  few = few_cells c.args.layout.now c.args.i _ c.cell-in-Some.result c.cells-cells.result c.cell-in-Some.ensures c.cells-cells.ensures.total
      c.cells-cells.ensures.most;
}
