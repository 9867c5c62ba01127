use Rattle.std.proofs.Common.{◌≤◌, drop, length}
use Rattle.system_files.specs.Held.{HasNoEnd}
use Rattle.system_files.proofs.console.lines_in.Given as goal

-- no line ends behind those bytes
abbrev pub invariant-loop-count : goal.invariant-loop-count
invariant-loop-count l = record {
  few : l.count ≤ length l.bytes;
  rest : HasNoEnd (drop l.count l.bytes);
}

abbrev pub decreases-loop-count : goal.decreases-loop-count
decreases-loop-count l = l.count
