use Rattle.std.proofs.Common.{◌≡◌, ◌++◌, drop}
use Rattle.pram_printer.specs.Spelling.{spelling}
use Rattle.laid_out_texts.proofs.spelled.spelling_of.Given as goal

abbrev pub invariant-loop-token : goal.invariant-loop-token
invariant-loop-token l = l.to.items ++ spelling (drop l.token-index l.tokens) ≡ spelling l.tokens
