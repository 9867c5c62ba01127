use Rattle.pram_tokens.specs.Plain.{IsAsciiTo}
use Rattle.pram_tokens.proofs.plain.first_other.Given as goal

abbrev pub invariant-loop-at : goal.invariant-loop-at
invariant-loop-at l = IsAsciiTo l.text l.at
