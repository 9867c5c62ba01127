use Rattle.std.proofs.Common.{◌≡◌, take}
use Rattle.address_map.specs.RoundLaws.{rounds_of}
use Rattle.address_map.proofs.rounds.Rounds.forth.Given as goal

abbrev pub invariant-loop-i : goal.invariant-loop-i
invariant-loop-i l = l.moved ≡ rounds_of l.fn.self.spread.cells (take l.i l.fn.self.rounds) l.fn.number
