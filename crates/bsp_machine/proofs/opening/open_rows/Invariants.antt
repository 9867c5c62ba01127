use Rattle.std.proofs.Common.{◌≡◌, ℕ, length, Some}
use Rattle.std.specs.Prelude.{slice_get}
use Rattle.bsp_machine.specs.declared.sheet.Sheet.{Sheet}
use Rattle.bsp_machine.specs.Sheets.{IsSheet}
use Rattle.bsp_machine.proofs.opening.open_rows.Given as goal

abbrev pub invariant-workers : goal.invariant-workers
invariant-workers l = record {
  long : length l.rows.items ≡ l._w;
  each : (w : ℕ) (row : Sheet) → slice_get l.rows.items w ≡ Some row → IsSheet l.workers l.most row;
}
