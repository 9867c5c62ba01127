use Rattle.std.proofs.Common.{◌≡◌, drop, length}
use Rattle.memory_texts.specs.Chosen.{parts, unknown_part}
use Rattle.memory_texts.proofs.choice.unknown_part.Given as goal

abbrev pub invariant-loop-part : goal.invariant-loop-part
invariant-loop-part l = unknown_part l.layout (drop (length l.yielded) (parts l.word)) ≡ unknown_part l.layout (parts l.word)
