use Rattle.std.proofs.Common.{refl, ◌++◌, sym}
use Rattle.std.proofs.Common.{w64}
use Rattle.std.proofs.lemmas.Int.{to_z-of_z}
use Rattle.std.specs.Prelude.{codes}
use Rattle.svg_texts.specs.Shapes.{shape_text, words_text}
use Rattle.pictures.specs.Steps.Marks.{met_mark, who_met}
use Rattle.text_out.proofs.Progress.{breaks_off, closes, goes_on, starts}
use Rattle.pictures.proofs.steps.marks.write_outline.Goals as goal

pub returns-in_err-open_titled : goal.returns-in_err-open_titled
returns-in_err-open_titled g c =
    let part1 = codes "<g><title>" in
    let part2 = words_text (who_met c.args.index) in
    let part3 = codes "</title>\n" ++ (shape_text (met_mark c.args.at.x c.args.at.y) ++ codes "</g>\n") in
    record {
      written = breaks_off _ _ _ _ _ part1 (part2 ++ part3) c.from_residual.result _ c.from_residual.ensures.1 (starts _ _) refl
          c.in_err-open_titled.ensures.written;
    }

pub returns-in_err-write_who_met : goal.returns-in_err-write_who_met
returns-in_err-write_who_met g c =
    let part1 = codes "<g><title>" in
    let part2 = words_text (who_met c.args.index) in
    let part3 = codes "</title>\n" ++ (shape_text (met_mark c.args.at.x c.args.at.y) ++ codes "</g>\n") in
    let after1 = goes_on _ _ _ _ _ part1 (part2 ++ part3) (starts _ _) refl c.in_ok-open_titled.ensures.written in
    record {
      written = breaks_off _ _ _ _ _ (_) part3 c.from_residual-in_err-write_who_met.result _
          c.from_residual-in_err-write_who_met.ensures.1 after1 (λ i. words_text (who_met (sym (to_z-of_z w64 c.args.index c.ranges.index)
          i)) ++ part3) c.in_err-write_who_met.ensures.written;
    }

pub returns : goal.returns
returns g c =
    let part1 = codes "<g><title>" in
    let part2 = words_text (who_met c.args.index) in
    let part3 = codes "</title>\n" ++ (shape_text (met_mark c.args.at.x c.args.at.y) ++ codes "</g>\n") in
    let after1 = goes_on _ _ _ _ _ part1 (part2 ++ part3) (starts _ _) refl c.in_ok-open_titled.ensures.written in
    let after2 = goes_on _ _ _ _ _ (_) part3 after1 (λ i. words_text (who_met (sym (to_z-of_z w64 c.args.index c.ranges.index) i)) ++
    part3) c.in_ok-write_who_met.ensures.written in
    record {
      written = closes _ _ _ _ _ c.write_outline_rest.result after2 c.write_outline_rest.ensures.written;
    }
