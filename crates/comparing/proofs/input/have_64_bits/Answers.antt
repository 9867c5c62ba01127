use Rattle.std.proofs.Common.{arith}
use Rattle.comparing.proofs.Told.{are_values}
use Rattle.comparing.proofs.input.have_64_bits.Goals as goal

pub returns : goal.returns
returns c =
    let at = c.values-test.false in
    are_values c.args.input.now (λ i l. c.values.invariant i (omega (arith, l, at)))
