use Rattle.std.proofs.Common.{refl, ◌++◌, sym}
use Rattle.svg_texts.specs.declared.colour.Colour.TheVariants.{Black}
use Rattle.svg_texts.specs.declared.lettering.Anchor.TheVariants.{Start}
use Rattle.svg_texts.specs.declared.lettering.Face.TheVariants as face
use Rattle.svg_texts.specs.Plain.{label, line}
use Rattle.svg_texts.specs.Shapes.{shape_text}
use Rattle.text_out.proofs.Progress.{breaks_off, closes, goes_on, starts}
use Rattle.pictures.proofs.sizes.panel.write_axes.Goals as goal

pub returns-in_err-write_label : goal.returns-in_err-write_label
returns-in_err-write_label g c =
    let part1 = shape_text (label 168 c.saturating_sub-title.result Start face.Bold c.heading-words.result.now) in
    let part2 = shape_text (line 168 c.saturating_sub-upper.result 168 c.args.frame.base Black) in
    let part3 = shape_text (line 168 c.args.frame.base 672 c.args.frame.base Black) in
    record {
      written = breaks_off _ _ _ _ _ part1 (part2 ++ part3) c.from_residual.result _ c.from_residual.ensures.1 (starts _ _) (λ i.
          shape_text (label 168 (sym c.saturating_sub-title.ensures i) Start face.Bold (sym c.heading-words.ensures i)) ++ (shape_text
          (line 168 (sym c.saturating_sub-upper.ensures i) 168 c.args.frame.base Black) ++ shape_text (line 168 c.args.frame.base 672
          c.args.frame.base Black))) c.in_err-write_label.ensures.written;
    }

pub returns-in_err-write_line : goal.returns-in_err-write_line
returns-in_err-write_line g c =
    let part1 = shape_text (label 168 c.saturating_sub-title.result Start face.Bold c.heading-words.result.now) in
    let part2 = shape_text (line 168 c.saturating_sub-upper.result 168 c.args.frame.base Black) in
    let part3 = shape_text (line 168 c.args.frame.base 672 c.args.frame.base Black) in
    let after1 = goes_on _ _ _ _ _ part1 (part2 ++ part3) (starts _ _) (λ i. shape_text (label 168 (sym c.saturating_sub-title.ensures i)
    Start face.Bold (sym c.heading-words.ensures i)) ++ (shape_text (line 168 (sym c.saturating_sub-upper.ensures i) 168
    c.args.frame.base Black) ++ shape_text (line 168 c.args.frame.base 672 c.args.frame.base Black)))
    c.in_ok-write_label.ensures.written in
    record {
      written = breaks_off _ _ _ _ _ part2 part3 c.from_residual-in_err-write_line.result _ c.from_residual-in_err-write_line.ensures.1
          after1 refl c.in_err-write_line.ensures.written;
    }

pub returns : goal.returns
returns g c =
    let part1 = shape_text (label 168 c.saturating_sub-title.result Start face.Bold c.heading-words.result.now) in
    let part2 = shape_text (line 168 c.saturating_sub-upper.result 168 c.args.frame.base Black) in
    let part3 = shape_text (line 168 c.args.frame.base 672 c.args.frame.base Black) in
    let after1 = goes_on _ _ _ _ _ part1 (part2 ++ part3) (starts _ _) (λ i. shape_text (label 168 (sym c.saturating_sub-title.ensures i)
    Start face.Bold (sym c.heading-words.ensures i)) ++ (shape_text (line 168 (sym c.saturating_sub-upper.ensures i) 168
    c.args.frame.base Black) ++ shape_text (line 168 c.args.frame.base 672 c.args.frame.base Black)))
    c.in_ok-write_label.ensures.written in
    let after2 = goes_on _ _ _ _ _ part2 part3 after1 refl c.in_ok-write_line.ensures.written in
    record {
      written = closes _ _ _ _ _ c.write_line-2.result after2 c.write_line-2.ensures.written;
    }
