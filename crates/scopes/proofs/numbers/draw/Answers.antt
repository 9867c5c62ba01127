use Rattle.std.proofs.Common.{SFits, arith, rules, w64}
use Rattle.std.proofs.lemmas.Int.{to_z-of_z}
use Rattle.scopes.proofs.Turns.{all_drawn, turn_number}
use Rattle.scopes.proofs.numbers.draw.Goals as goal

pub loop-turn-preserved : goal.loop-turn-preserved
loop-turn-preserved c =
    let d = c.args.drawing in
    let low_fits : SFits w64 c.args.drawing.low = search rules in
    let high_fits : SFits w64 c.args.drawing.high = search rules in
    let fits : SFits w64 c.number.result = search rules in
    let is = rw (to_z-of_z w64 c.args.drawing.low low_fits, to_z-of_z w64 c.args.drawing.high high_fits) at c.number.ensures in
    rw (c.in_ok-push.ensures.items, to_z-of_z w64 c.number.result fits)
    (turn_number d.low d.high d.seed c.args.count c.loop-turn.found.items c.loop-turn.turn c.next_u64_via_u32-word.result c.number.result
    c.loop-turn.generator c.next_u64_via_u32-word.new.rng d.ordered (omega arith) c.loop-turn-test.true c.next_u64_via_u32-word.ensures is
    c.loop-turn.invariant)

pub returns-clause-drawn : goal.returns-clause-drawn
returns-clause-drawn c =
    let d = c.args.drawing in
    all_drawn d.low d.high d.seed c.args.count c.loop-turn.found.items c.loop-turn.turn c.loop-turn.generator (omega arith)
    c.loop-turn.invariant
