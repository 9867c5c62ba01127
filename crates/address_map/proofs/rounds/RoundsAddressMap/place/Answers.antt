use Rattle.std.proofs.Common.{take, arith}
use Rattle.address_map.specs.RoundLaws.{rounds_inverse_at}
use Rattle.address_map.proofs.rounds.RoundsAddressMap.place.Goals as goal

-- the rounds leave a number below that of the cells
pub split-requires : goal.split-requires
split-requires c =
    let m = c.args.self.now in
    let inverse =
    rounds_inverse_at m.spread.cells m.spread.bits (take m.count m.rounds) m.spread.power m.spread.small m.undone
    in
    let below = inverse.below c.args.cell c.requires in
    let fits = m.spread.fits in
    let is = c.forth.ensures in
    omega arith
