use Rattle.std.proofs.Common.{◌≡◌, drop}
use Rattle.pictures.specs.Flows.Cells.{is_among}
use Rattle.pictures.proofs.flows.spans.is_among.Given as goal

abbrev pub invariant-loop-span : goal.invariant-loop-span
invariant-loop-span l = is_among (drop l.span-index l.only) l.cell ≡ is_among l.only l.cell
