use Rattle.std.proofs.Common.{◌+◌, arith, refl, length, length-drop, ap}
use Rattle.sized_texts.specs.SizeLines.{sizes_of}
use Rattle.sized_texts.proofs.Exits.{found_in, leaves}
use Rattle.sized_texts.proofs.Heads.{turn_comment, turn_wrong}
use Rattle.sized_texts.proofs.head.sizes_of.Goals as goal

pub returns-in_err-declare : goal.returns-in_err-declare
returns-in_err-declare c = record {
  answers = leaves {Y = Unit {0}} (λ s. s) (λ _. c.declare.new.sizes) c.from_residual.result _
      c.from_residual.ensures.1 (length c.args.text.now) _ _ c.in_err-declare.ensures
      (λ w. turn_wrong c.args.given.now c.loop-at.sizes c.args.text.now (sizes_of c.args.given.now c.args.text.now) c.loop-at.at _
      c.split_at.result.1.now c.loop-at.invariant.so c.loop-at-test.true refl c.split_at.ensures.back c.comment_len-length.result _ _ w
      c.if-is_blank.ensures c.if-byte-eq35.true c.comment_len-length.ensures.value c.split_at-then-byte-eq35.ensures.front refl);
}

pub loop-at-preserved : goal.loop-at-preserved
loop-at-preserved c = record {
  so = turn_comment c.args.given.now c.loop-at.sizes c.args.text.now (sizes_of c.args.given.now c.args.text.now) c.loop-at.at _
      c.split_at.result.1.now c.loop-at.invariant.so c.loop-at-test.true refl c.split_at.ensures.back c.comment_len-length.result _ _ _
      c.if-is_blank.ensures c.if-byte-eq35.true c.comment_len-length.ensures.value c.split_at-then-byte-eq35.ensures.front refl
      (found_in (length c.args.text.now) _ _ c.in_ok-declare.ensures);
  fits = omega (arith, ap length c.split_at.ensures.back, length-drop (c.loop-at.at + 1) c.args.text.now);
}
