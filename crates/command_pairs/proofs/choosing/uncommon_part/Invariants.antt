use Rattle.std.proofs.Common.{◌≡◌, drop, length}
use Rattle.std.specs.List.{find}
use Rattle.memory_texts.specs.Chosen.{parts}
use Rattle.command_pairs.specs.Pairs.{is_uncommon}
use Rattle.command_pairs.proofs.choosing.uncommon_part.Given as goal

abbrev pub invariant-loop-part : goal.invariant-loop-part
invariant-loop-part l =
    find (is_uncommon l.first l.second) (drop (length l.yielded) (parts l.word)) ≡ find (is_uncommon l.first l.second) (parts l.word)
