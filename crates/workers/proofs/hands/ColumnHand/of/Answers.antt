use Rattle.std.proofs.Common.{arith}
use Rattle.workers.proofs.HandLemmas.{all_short}
use Rattle.workers.proofs.hands.ColumnHand.of.Goals as goal

pub invariant_of-result : goal.invariant_of-result
invariant_of-result c =
    let wide = c.worker-worker.ensures.seat.column in
    let same = c.requires.workers in
    let end = c.messages-test.false in
    record {
      short = all_short c.args.seat.column c.args.seat.room (λ j l. c.messages.invariant j (omega (arith, l, wide, same, end)));
    }
