use Rattle.std.proofs.Common.{refl, ◌++◌, sym}
use Rattle.std.specs.Prelude.{codes}
use Rattle.svg_texts.specs.Shapes.{text_front}
use Rattle.std.specs.Fmt.{signed_decimal}
use Rattle.svg_texts.specs.Plain.{lettered}
use Rattle.pictures.specs.Flows.MarkShapes.{value_face}
use Rattle.text_out.proofs.Progress.{breaks_off, closes, goes_on, starts}
use Rattle.pictures.proofs.flows.shapes.write_value.Goals as goal

pub returns-in_err-open_label : goal.returns-in_err-open_label
returns-in_err-open_label g c =
    let part1 = text_front c.args.x c.args.y (lettered c.args.anchor (value_face c.args.value.now)) in
    let part2 = signed_decimal c.args.value.now in
    let part3 = codes "</text>\n" in
    record {
      written = breaks_off _ _ _ _ _ (text_front c.args.x c.args.y (lettered c.args.anchor c.value_face.result)) (part2 ++ part3)
          c.from_residual.result _ c.from_residual.ensures.1 (starts _ _) (λ i. text_front c.args.x c.args.y (lettered c.args.anchor (sym
          c.value_face.ensures i)) ++ (part2 ++ part3)) c.in_err-open_label.ensures.written;
    }

pub returns-in_err-write_digits : goal.returns-in_err-write_digits
returns-in_err-write_digits g c =
    let part1 = text_front c.args.x c.args.y (lettered c.args.anchor (value_face c.args.value.now)) in
    let part2 = signed_decimal c.args.value.now in
    let part3 = codes "</text>\n" in
    let after1 = goes_on _ _ _ _ _ (text_front c.args.x c.args.y (lettered c.args.anchor c.value_face.result)) (part2 ++ part3) (starts _
    _) (λ i. text_front c.args.x c.args.y (lettered c.args.anchor (sym c.value_face.ensures i)) ++ (part2 ++ part3))
    c.in_ok-open_label.ensures.written in
    record {
      written = breaks_off _ _ _ _ _ part2 part3 c.from_residual-in_err-write_digits.result _
          c.from_residual-in_err-write_digits.ensures.1 after1 refl c.in_err-write_digits.ensures.written;
    }

pub returns : goal.returns
returns g c =
    let part1 = text_front c.args.x c.args.y (lettered c.args.anchor (value_face c.args.value.now)) in
    let part2 = signed_decimal c.args.value.now in
    let part3 = codes "</text>\n" in
    let after1 = goes_on _ _ _ _ _ (text_front c.args.x c.args.y (lettered c.args.anchor c.value_face.result)) (part2 ++ part3) (starts _
    _) (λ i. text_front c.args.x c.args.y (lettered c.args.anchor (sym c.value_face.ensures i)) ++ (part2 ++ part3))
    c.in_ok-open_label.ensures.written in
    let after2 = goes_on _ _ _ _ _ part2 part3 after1 refl c.in_ok-write_digits.ensures.written in
    record {
      written = closes _ _ _ _ _ c.close_text.result after2 c.close_text.ensures.written;
    }
