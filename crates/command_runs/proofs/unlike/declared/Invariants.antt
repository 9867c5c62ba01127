use Rattle.std.proofs.Common.{◌≡◌, drop}
use Rattle.memory_texts.specs.Cells.{declaration}
use Rattle.command_runs.proofs.unlike.declared.Given as goal

abbrev pub invariant-loop-i : goal.invariant-loop-i
invariant-loop-i l = declaration l.i (drop l.i l.layout) l.name ≡ declaration 0 l.layout l.name
