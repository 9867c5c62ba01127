use Rattle.std.proofs.Common.{drop}
use Rattle.program_texts.specs.Shown.{memory_lines}
use Rattle.text_out.proofs.Progress.{Progress}
use Rattle.program_texts.proofs.show_parts.write_memory.Given as goal

abbrev pub invariant-loop-i : goal.invariant-loop-i
invariant-loop-i g l = Progress (g.W.Out.state l.fn.out) (g.W.Out.state l.out) (memory_lines l.fn.layout l.fn.memory)
    (memory_lines (drop l.i l.fn.layout) l.rest)
