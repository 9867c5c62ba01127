use Rattle.std.proofs.Common.{◌+◌, arith, refl, length, length-drop, ap}
use Rattle.sized_texts.specs.FalseLines.{false_line}
use Rattle.sized_texts.proofs.FalseLines.{turn_comment}
use Rattle.sized_texts.proofs.false_lines.false_line.Goals as goal

pub loop-at-preserved : goal.loop-at-preserved
loop-at-preserved c = record {
  so = turn_comment c.args.text.now (false_line c.args.text.now) c.loop-at.at _ c.split_at.result.1.now c.loop-at.invariant.so
      c.loop-at-test.true refl c.split_at.ensures.back c.comment_len-length.result c.split_at-then-byte-eq35.result.0.now
      c.if-is_blank.ensures c.if-byte-eq35.true c.comment_len-length.ensures.value c.split_at-then-byte-eq35.ensures.front
      c.if-is_false.ensures;
  fits = omega (arith, ap length c.split_at.ensures.back, length-drop (c.loop-at.at + 1) c.args.text.now);
}
