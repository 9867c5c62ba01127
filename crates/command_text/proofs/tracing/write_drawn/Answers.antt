use Rattle.program_texts.specs.Status.{status_of}
use Rattle.svg_texts.specs.Shapes.{picture_text}
use Rattle.tracer.specs.Picture.{picture}
use Rattle.command_facts.proofs.Writing.{cut_off, wrote}
use Rattle.command_text.proofs.TracesWritten.{drawn_so}
use Rattle.command_text.proofs.tracing.write_drawn.Goals as goal

pub returns-in_err-write_picture : goal.returns-in_err-write_picture
returns-in_err-write_picture g c =
    let found = c.args.found.now in
    let ends = status_of c.args.outcome.now in
    let lines = c.deref.result.now in
    let end = c.deref-2.result.now in
    record {
      written = drawn_so ends found.lines.items lines found.ends.items end found.counts _ _ c.from_residual.result c.deref.ensures.value
          c.deref-2.ensures.value (cut_off ends (picture_text (picture lines end found.counts)) _ _ c.from_residual.result
          c.from_residual.ensures.1
          c.in_err-write_picture.ensures.written);
    }

pub returns : goal.returns
returns g c =
    let found = c.args.found.now in
    let ends = status_of c.args.outcome.now in
    let lines = c.deref.result.now in
    let end = c.deref-2.result.now in
    record {
      written = drawn_so ends found.lines.items lines found.ends.items end found.counts _ _ c.finish.result c.deref.ensures.value
          c.deref-2.ensures.value (wrote ends _ (picture_text (picture lines end found.counts)) _ _ _ c.finish.result c.of.ensures
          c.in_ok-write_picture.ensures.written c.finish.ensures.ok c.finish.ensures.failed);
    }
