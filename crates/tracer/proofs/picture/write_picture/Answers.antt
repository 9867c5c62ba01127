use Rattle.std.proofs.Common.{ℕ, List, subst, ◌∙◌}
use Rattle.text_out.specs.Out.{Writes}
use Rattle.svg_texts.specs.Shapes.{picture_text}
use Rattle.tracer.specs.Picture.{picture_of, picture_width}
use Rattle.tracer.proofs.picture.write_picture.Goals as goal

pub returns : goal.returns
returns g c =
    let wide = c.picture_width-width.ensures ∙ (λ i. picture_width (c.workers_of.ensures i) (c.drawn.ensures.drawn i)) in
    record {
      written = subst (λ (t : List ℕ). Writes (g.W.Out.state c.args.out.now) (g.W.Out.state c.write_measured.new.out) t
          c.write_measured.result)
          (λ i. picture_text (picture_of (wide i) (c.workers_of.ensures i) (c.most_words.ensures.most i) c.args.lines.now
          c.args.outcome.now
          c.args.counts.now))
          c.write_measured.ensures.written;
    }
