use Rattle.std.proofs.Common.{sym, arith}
use Rattle.std.proofs.lemmas.Bool.Decides.{nat_tests}
use Rattle.address_map.specs.ShiftLaws.{shifted_far}
use Rattle.address_map.proofs.round.folded.Goals as goal

-- nothing is left of 32 bits after as many places
pub returns-then-shift-ge32 : goal.returns-then-shift-ge32
returns-then-shift-ge32 c =
    let far = c.if-shift-ge32.true in
    sym (shifted_far 32 c.args.shift c.args.number c.ranges.number.fits (grind (arith, nat_tests)))
