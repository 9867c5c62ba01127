use Rattle.std.proofs.Common.{◌≡◌, map, take}
use Rattle.serde_json.specs.View.{view}
use Rattle.json_texts.specs.ActFacts.{cell_fact}
use Rattle.json_texts.proofs.acts.cells_value.Given as goal

abbrev pub invariant-loop-cell : goal.invariant-loop-cell
invariant-loop-cell l = map view l.list.items ≡ map (cell_fact l.layout) (take l.cell-index l.cells)
