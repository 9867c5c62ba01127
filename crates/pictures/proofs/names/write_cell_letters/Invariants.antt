use Rattle.std.proofs.Common.{◌≡◌, drop}
use Rattle.program_texts.specs.Shown.{cell_text}
use Rattle.pictures.proofs.names.write_cell_letters.Given as goal

abbrev pub invariant-loop-i : goal.invariant-loop-i
invariant-loop-i g l = (l.out ≡ l.fn.out) × (cell_text l.fn.layout l.fn.cell ≡ cell_text (drop l.i l.fn.layout) l.rest)
