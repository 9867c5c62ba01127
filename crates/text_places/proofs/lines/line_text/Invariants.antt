use Rattle.std.proofs.Common.{◌≡◌, ◌-◌}
use Rattle.text_places.specs.Places.{behind_lines}
use Rattle.text_places.proofs.lines.line_text.Given as goal

abbrev pub invariant-loop : goal.invariant-loop
invariant-loop l = behind_lines (l.line - l.counter) l.rest ≡ behind_lines (l.line - 1) l.fn.text
