use Rattle.std.proofs.Common.{arith}
use Rattle.combining.proofs.Chains.{place_none, place_here}
use Rattle.combining.proofs.linking.place_from.Goals as goal

pub returns-then-keys-i : goal.returns-then-keys-i
returns-then-keys-i c = record {
  place = place_here c.args.key c.args.keys.now c.loop-i.i c.loop-i-test.true c.if-keys-i.true c.loop-i.invariant;
}

pub returns : goal.returns
returns c = record { place = place_none c.args.key c.args.keys.now (λ j l e. c.loop-i.invariant j (omega arith) e) }
