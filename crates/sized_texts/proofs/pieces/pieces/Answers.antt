use Rattle.std.proofs.Common.{arith, refl}
use Rattle.sized_texts.specs.Faults.{shown}
use Rattle.sized_texts.proofs.Turns.{turn_brace, turn_byte}
use Rattle.sized_texts.proofs.pieces.pieces.Goals as goal

pub loop-at-preserved-in-Ok : goal.loop-at-preserved-in-Ok
loop-at-preserved-in-Ok c =
    turn_brace c.args.sizes.now c.args.text.now (shown c.loop-at.to) c.loop-at.comment c.loop-at.at _ c.split_at.result.1.now
    c.loop-at.invariant c.loop-at-test.true refl c.split_at.ensures.back (shown c.add_number.new.to) c.in-Ok.value c.in-Ok.behind.now
    c.if-opens.ensures c.in-Ok.ensures.gives (omega (arith, c.in-Ok.ensures.shorter))
    c.in_ok-add_number-in-Ok.ensures.text c.in_ok-add_number-in-Ok.ensures.places

pub loop-at-preserved : goal.loop-at-preserved
loop-at-preserved c =
    turn_byte c.args.sizes.now c.args.text.now (shown c.loop-at.to) c.loop-at.comment c.loop-at.at _ c.split_at.result.1.now
    c.loop-at.invariant c.loop-at-test.true refl c.split_at.ensures.back (shown c.add_byte.new.to) c.in_comment-comment.result
    c.if-opens.ensures c.in_comment-comment.ensures c.in_ok-add_byte.ensures.text c.in_ok-add_byte.ensures.places
