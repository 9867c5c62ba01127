use Rattle.std.proofs.Common.{refl, ◌++◌, sym}
use Rattle.std.proofs.Common.{FitsSigned, rules, w64}
use Rattle.std.proofs.lemmas.Int.{to_z-of_z}
use Rattle.std.specs.Prelude.{codes}
use Rattle.std.specs.Fmt.{signed_decimal}
use Rattle.svg_texts.specs.Shapes.{text_front}
use Rattle.pictures.specs.Looks.{plain}
use Rattle.text_out.proofs.Progress.{breaks_off, closes, goes_on, starts}
use Rattle.pictures.proofs.steps.bands.write_label.Goals as goal

pub returns-in_err-open_plain : goal.returns-in_err-open_plain
returns-in_err-open_plain g c =
    let part1 = text_front 12 c.args.y plain in
    let part2 = signed_decimal c.args.index.now in
    let part3 = codes "</text>\n" in
    record {
      written = breaks_off _ _ _ _ _ part1 (part2 ++ part3) c.from_residual.result _ c.from_residual.ensures.1 (starts _ _) refl
          c.in_err-open_plain.ensures.written;
    }

pub returns-in_err-write_index : goal.returns-in_err-write_index
returns-in_err-write_index g c =
    let fits : FitsSigned w64 c.args.index.now = search rules in
    let part1 = text_front 12 c.args.y plain in
    let part2 = signed_decimal c.args.index.now in
    let part3 = codes "</text>\n" in
    let after1 = goes_on _ _ _ _ _ part1 (part2 ++ part3) (starts _ _) refl c.in_ok-open_plain.ensures.written in
    record {
      written = breaks_off _ _ _ _ _ (_) part3 c.from_residual-in_err-write_index.result _ c.from_residual-in_err-write_index.ensures.1
          after1 (λ i. signed_decimal (sym (to_z-of_z w64 c.args.index.now fits) i) ++ part3) c.in_err-write_index.ensures.written;
    }

pub returns : goal.returns
returns g c =
    let fits : FitsSigned w64 c.args.index.now = search rules in
    let part1 = text_front 12 c.args.y plain in
    let part2 = signed_decimal c.args.index.now in
    let part3 = codes "</text>\n" in
    let after1 = goes_on _ _ _ _ _ part1 (part2 ++ part3) (starts _ _) refl c.in_ok-open_plain.ensures.written in
    let after2 = goes_on _ _ _ _ _ (_) part3 after1 (λ i. signed_decimal (sym (to_z-of_z w64 c.args.index.now fits) i) ++ part3)
    c.in_ok-write_index.ensures.written in
    record {
      written = closes _ _ _ _ _ c.close_text.result after2 c.close_text.ensures.written;
    }
