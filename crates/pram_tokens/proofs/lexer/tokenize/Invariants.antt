use Rattle.std.proofs.Common.{◌-◌, length}
use Rattle.pram_tokens.proofs.Scans.{IsScanned}
use Rattle.pram_tokens.proofs.lexer.tokenize.Given as goal

abbrev pub invariant-loop-at : goal.invariant-loop-at
invariant-loop-at l = IsScanned l.text l.tokens.items l.offsets.items l.at l.line

abbrev pub decreases-loop-at : goal.decreases-loop-at
decreases-loop-at l = length l.text - l.at
