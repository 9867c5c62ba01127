-- What is known behind an instruction of a place.
use Rattle.std.proofs.Common.{ℕ}
use Rattle.superstep_instructions.specs.declared.instr.Instr.{Instr}
use Rattle.tidying.specs.Rows.{Row}
use Rattle.tidying.specs.Certificates.{Rows, Certificate, uniform_then, active_then, idle_then, rows_then, rows_without}

abbrev pub uniform_after : Certificate → ℕ → Instr → Row
uniform_after c k i = uniform_then c.number (c.into k) (c.at k) i

abbrev pub active_after : Certificate → ℕ → Instr → Row
active_after c k i = active_then c.number (c.into k) (c.at k) i

abbrev pub idle_after : Certificate → ℕ → Instr → Row
idle_after c k i = idle_then c.number (c.at k) i

abbrev pub rows_after : Certificate → ℕ → Instr → Rows
rows_after c k i = rows_then c.number (c.into k) (c.at k) i

abbrev pub rows_left : Certificate → ℕ → Instr → Rows
rows_left c k i = rows_without c.number (c.into k) (c.at k) i
