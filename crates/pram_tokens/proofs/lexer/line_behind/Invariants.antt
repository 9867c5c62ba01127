use Rattle.std.proofs.Common.{◌≡◌, ◌≤◌, ◌+◌, drop}
use Rattle.pram_tokens.specs.Scanning.{line_after}
use Rattle.pram_tokens.proofs.lexer.line_behind.Given as goal

abbrev pub invariant-loop-b : goal.invariant-loop-b
invariant-loop-b l = (line_after l.line (drop l.b-index l.front) ≡ line_after l.fn.line l.front) × (l.line ≤ l.fn.line + l.b-index)
