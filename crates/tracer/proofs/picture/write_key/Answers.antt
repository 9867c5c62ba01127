use Rattle.std.proofs.Common.{refl, ◌++◌}
use Rattle.std.specs.Prelude.{codes}
use Rattle.svg_texts.specs.declared.lettering.Anchor.TheVariants.{Start}
use Rattle.svg_texts.specs.declared.lettering.Face.TheVariants as face
use Rattle.svg_texts.specs.Plain.{label}
use Rattle.svg_texts.specs.Shapes.{shape_text}
use Rattle.tracer.specs.Picture.{key_received, key_sent}
use Rattle.text_out.proofs.Progress.{breaks_off, closes, goes_on, starts}
use Rattle.tracer.proofs.picture.write_key.Goals as goal

pub returns-in_err-write_key_sent : goal.returns-in_err-write_key_sent
returns-in_err-write_key_sent g c =
    let part1 = shape_text key_sent in
    let part2 = shape_text key_received in
    let part3 = shape_text (label 236 38 Start face.Plain (codes "h: the most words that one worker sent or received")) in
    record {
      written = breaks_off _ _ _ _ _ part1 (part2 ++ part3) c.from_residual.result _ c.from_residual.ensures.1 (starts _ _) refl
          c.in_err-write_key_sent.ensures.written;
    }

pub returns-in_err-write_key_received : goal.returns-in_err-write_key_received
returns-in_err-write_key_received g c =
    let part1 = shape_text key_sent in
    let part2 = shape_text key_received in
    let part3 = shape_text (label 236 38 Start face.Plain (codes "h: the most words that one worker sent or received")) in
    let after1 = goes_on _ _ _ _ _ part1 (part2 ++ part3) (starts _ _) refl c.in_ok-write_key_sent.ensures.written in
    record {
      written = breaks_off _ _ _ _ _ part2 part3 c.from_residual-in_err-write_key_received.result _
          c.from_residual-in_err-write_key_received.ensures.1 after1 refl c.in_err-write_key_received.ensures.written;
    }

pub returns : goal.returns
returns g c =
    let part1 = shape_text key_sent in
    let part2 = shape_text key_received in
    let part3 = shape_text (label 236 38 Start face.Plain (codes "h: the most words that one worker sent or received")) in
    let after1 = goes_on _ _ _ _ _ part1 (part2 ++ part3) (starts _ _) refl c.in_ok-write_key_sent.ensures.written in
    let after2 = goes_on _ _ _ _ _ part2 part3 after1 refl c.in_ok-write_key_received.ensures.written in
    record {
      written = closes _ _ _ _ _ c.write_label.result after2 c.write_label.ensures.written;
    }
