use Rattle.std.proofs.Common.{◌≡◌, ◌≤◌, take}
use Rattle.address_map.specs.RoundLaws.{rounds_back}
use Rattle.address_map.proofs.rounds.Rounds.back.Given as goal

abbrev pub invariant-loop-left : goal.invariant-loop-left
invariant-loop-left l =
    let k = l.fn.self.spread.cells in
    (l.left ≤ l.fn.self.count) × (rounds_back k (take l.left l.fn.self.rounds) l.moved ≡ rounds_back k
    (take l.fn.self.count l.fn.self.rounds) l.fn.number)

abbrev pub decreases-loop-left : goal.decreases-loop-left
decreases-loop-left l = l.left
