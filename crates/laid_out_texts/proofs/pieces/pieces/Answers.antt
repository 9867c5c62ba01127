use Rattle.std.proofs.Common.{◌≡◌, ◌≤◌, ◌+◌, ◌++◌, arith, refl, sym, ap, ◌∙◌, length, length-drop}
use Rattle.laid_out_texts.specs.Pieces.{pieces_of, trimmed}
use Rattle.laid_out_texts.proofs.Scanned.{pushed}
use Rattle.laid_out_texts.proofs.pieces.pieces.Goals as goal

pub loop-at-preserved : goal.loop-at-preserved
loop-at-preserved c = record {
  so = pushed c.args.text.now c.loop-at.at _ c.loop-at.found.items c.push.new.self.items _ c.split_at.result.1.now c.piece_len-length.result
      (pieces_of c.args.text.now) c.loop-at-test.true refl c.in_ok-push.ensures.items
      (c.trimmed.ensures ∙ ap trimmed c.split_at-else-is_blank.ensures.front) c.if-is_blank.ensures c.split_at.ensures.back
      c.piece_len-length.ensures.value c.piece_len-length.ensures.moves c.loop-at.invariant.so;
  fits = omega (arith, ap length c.split_at.ensures.back, length-drop c.loop-at.at c.args.text.now);
}
