use Rattle.std.proofs.Common.{arith}
use Rattle.drawn_kinds.proofs.Drawing.{all_drawn, turn_word}
use Rattle.drawn_kinds.proofs.words.words.Goals as goal

pub loop-turn-preserved : goal.loop-turn-preserved
loop-turn-preserved c =
    rw c.in_ok-push.ensures.items
    (turn_word c.args.seed c.args.count c.loop-turn.found.items c.loop-turn.turn c.next_u64_via_u32.result c.loop-turn.generator
    c.next_u64_via_u32.new.rng (omega arith) c.next_u64_via_u32.ensures c.loop-turn.invariant)

pub returns-clause-drawn : goal.returns-clause-drawn
returns-clause-drawn c =
    all_drawn c.args.seed c.args.count c.loop-turn.found.items c.loop-turn.turn c.loop-turn.generator (omega arith)
    c.loop-turn.invariant
