use Rattle.std.proofs.Common.{refl, ◌++◌}
use Rattle.svg_texts.specs.declared.colour.Colour.TheVariants.{Black}
use Rattle.svg_texts.specs.Plain.{line}
use Rattle.svg_texts.specs.Shapes.{shape_text}
use Rattle.text_out.proofs.Progress.{breaks_off, closes, goes_on, starts}
use Rattle.tracer.proofs.scale.write_axes.Goals as goal

pub returns-in_err-write_line : goal.returns-in_err-write_line
returns-in_err-write_line g c =
    let part1 = shape_text (line 168 214 c.args.width 214 Black) in
    let part2 = shape_text (line 163 214 168 214 Black) in
    let part3 = shape_text (line 168 114 168 314 Black) in
    record {
      written = breaks_off _ _ _ _ _ part1 (part2 ++ part3) c.from_residual.result _ c.from_residual.ensures.1 (starts _ _) refl
          c.in_err-write_line.ensures.written;
    }

pub returns-in_err-write_line-2 : goal.returns-in_err-write_line-2
returns-in_err-write_line-2 g c =
    let part1 = shape_text (line 168 214 c.args.width 214 Black) in
    let part2 = shape_text (line 163 214 168 214 Black) in
    let part3 = shape_text (line 168 114 168 314 Black) in
    let after1 = goes_on _ _ _ _ _ part1 (part2 ++ part3) (starts _ _) refl c.in_ok-write_line.ensures.written in
    record {
      written = breaks_off _ _ _ _ _ part2 part3 c.from_residual-in_err-write_line-2.result _
          c.from_residual-in_err-write_line-2.ensures.1 after1 refl c.in_err-write_line-2.ensures.written;
    }

pub returns : goal.returns
returns g c =
    let part1 = shape_text (line 168 214 c.args.width 214 Black) in
    let part2 = shape_text (line 163 214 168 214 Black) in
    let part3 = shape_text (line 168 114 168 314 Black) in
    let after1 = goes_on _ _ _ _ _ part1 (part2 ++ part3) (starts _ _) refl c.in_ok-write_line.ensures.written in
    let after2 = goes_on _ _ _ _ _ part2 part3 after1 refl c.in_ok-write_line-2.ensures.written in
    record {
      written = closes _ _ _ _ _ c.write_line-3.result after2 c.write_line-3.ensures.written;
    }
