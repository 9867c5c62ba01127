use Rattle.std.proofs.Common.{refl, ◌++◌}
use Rattle.std.specs.Prelude.{codes}
use Rattle.journal.specs.Entries.{act_is}
use Rattle.svg_texts.specs.Shapes.{shape_text, words_text}
use Rattle.pictures.specs.Steps.Marks.{marked, title_words}
use Rattle.text_out.proofs.Progress.{breaks_off, closes, goes_on, starts}
use Rattle.pictures.proofs.steps.marks.write_box.Goals as goal

pub returns-in_err-open_titled : goal.returns-in_err-open_titled
returns-in_err-open_titled g c =
    let part1 = codes "<g><title>" in
    let part2 = words_text (title_words c.args.layout.now (act_is c.args.act.now)) in
    let part3 = codes "</title>\n" ++ (shape_text (marked c.args.at.x c.args.at.y (act_is c.args.act.now)) ++ codes "</g>\n") in
    record {
      written = breaks_off _ _ _ _ _ part1 (part2 ++ part3) c.from_residual.result _ c.from_residual.ensures.1 (starts _ _) refl
          c.in_err-open_titled.ensures.written;
    }

pub returns-in_err-write_title : goal.returns-in_err-write_title
returns-in_err-write_title g c =
    let part1 = codes "<g><title>" in
    let part2 = words_text (title_words c.args.layout.now (act_is c.args.act.now)) in
    let part3 = codes "</title>\n" ++ (shape_text (marked c.args.at.x c.args.at.y (act_is c.args.act.now)) ++ codes "</g>\n") in
    let after1 = goes_on _ _ _ _ _ part1 (part2 ++ part3) (starts _ _) refl c.in_ok-open_titled.ensures.written in
    record {
      written = breaks_off _ _ _ _ _ part2 part3 c.from_residual-in_err-write_title.result _ c.from_residual-in_err-write_title.ensures.1
          after1 refl c.in_err-write_title.ensures.written;
    }

pub returns : goal.returns
returns g c =
    let part1 = codes "<g><title>" in
    let part2 = words_text (title_words c.args.layout.now (act_is c.args.act.now)) in
    let part3 = codes "</title>\n" ++ (shape_text (marked c.args.at.x c.args.at.y (act_is c.args.act.now)) ++ codes "</g>\n") in
    let after1 = goes_on _ _ _ _ _ part1 (part2 ++ part3) (starts _ _) refl c.in_ok-open_titled.ensures.written in
    let after2 = goes_on _ _ _ _ _ part2 part3 after1 refl c.in_ok-write_title.ensures.written in
    record {
      written = closes _ _ _ _ _ c.write_box_rest.result after2 c.write_box_rest.ensures.written;
    }
