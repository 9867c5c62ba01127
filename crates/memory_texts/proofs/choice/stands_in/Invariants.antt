use Rattle.std.proofs.Common.{◌≡◌, drop, length}
use Rattle.pram_model.specs.Names.{is_one_of}
use Rattle.memory_texts.specs.Chosen.{parts}
use Rattle.memory_texts.proofs.choice.stands_in.Given as goal

abbrev pub invariant-loop-part : goal.invariant-loop-part
invariant-loop-part l = is_one_of (drop (length l.yielded) (parts l.word)) l.name ≡ is_one_of (parts l.word) l.name
