use Rattle.std.proofs.Common.{ℕ, ◌-◌, List, subst}
use Rattle.std.specs.Prelude.{codes}
use Rattle.text_out.specs.Out.{Writes}
use Rattle.svg_texts.specs.Shapes.{shape_text}
use Rattle.tracer.specs.Picture.{bar, sent_paint, share_words}
use Rattle.tracer.proofs.bars.write_sent_bar.Goals as goal

pub returns : goal.returns
returns g c = record {
  written = subst (λ (t : List ℕ). Writes (g.W.Out.state c.args.out.now) (g.W.Out.state c.write_sent_at.new.out) t c.write_sent_at.result)
      (λ i. shape_text (bar (c.bar_left.ensures.left i) (214 - c.bar_height-height.ensures.height i) (c.bar_height-height.ensures.height
      i) sent_paint
      (share_words c.args.share.worker (codes " sent ") c.args.share.words))) c.write_sent_at.ensures.written;
}
