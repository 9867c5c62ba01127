use Rattle.superstep_listing.proofs.Cuts.{cut_at, lacks_all}
use Rattle.std.proofs.Common.{arith}
use Rattle.superstep_listing.proofs.cut.cut.Goals as goal

pub returns-then-text-i : goal.returns-then-text-i
returns-then-text-i c = record { parts = cut_at c.args.byte c.args.text.now c.loop-i.i c.loop-i.invariant (omega arith) c.if-text-i.true }

pub returns : goal.returns
returns c = record { parts = lacks_all c.args.byte c.args.text.now (λ k below. c.loop-i.invariant k (omega arith)) }
