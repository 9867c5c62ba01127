use Rattle.std.proofs.Common.{ℕ, ◌+◌, List, subst}
use Rattle.text_out.specs.Out.{Writes}
use Rattle.svg_texts.specs.declared.lettering.Anchor.TheVariants.{Middle}
use Rattle.svg_texts.specs.declared.lettering.Face.TheVariants as face
use Rattle.svg_texts.specs.Plain.{number}
use Rattle.svg_texts.specs.Shapes.{shape_text}
use Rattle.tracer.proofs.bars.write_worker_number.Goals as goal

pub returns : goal.returns
returns g c = record {
  written = subst (λ (t : List ℕ). Writes (g.W.Out.state c.args.out.now) (g.W.Out.state c.write_number.new.out) t c.write_number.result)
      (λ i. shape_text (number (c.bar_left.ensures.left i + 6) 327 Middle face.Small c.args.worker)) c.write_number.ensures.written;
}
