use Rattle.std.proofs.Common.{refl, ◌++◌}
use Rattle.std.specs.Prelude.{codes}
use Rattle.journal.specs.Entries.{act_is}
use Rattle.svg_texts.specs.Shapes.{shape_text}
use Rattle.pictures.specs.Steps.Marks.{marked}
use Rattle.text_out.proofs.Progress.{breaks_off, closes, goes_on, starts}
use Rattle.pictures.proofs.steps.marks.write_box_rest.Goals as goal

pub returns-in_err-write_title_end : goal.returns-in_err-write_title_end
returns-in_err-write_title_end g c =
    let part1 = codes "</title>\n" in
    let part2 = shape_text (marked c.args.at.x c.args.at.y (act_is c.args.act.now)) in
    let part3 = codes "</g>\n" in
    record {
      written = breaks_off _ _ _ _ _ part1 (part2 ++ part3) c.from_residual.result _ c.from_residual.ensures.1 (starts _ _) refl
          c.in_err-write_title_end.ensures.written;
    }

pub returns-in_err-write_marked : goal.returns-in_err-write_marked
returns-in_err-write_marked g c =
    let part1 = codes "</title>\n" in
    let part2 = shape_text (marked c.args.at.x c.args.at.y (act_is c.args.act.now)) in
    let part3 = codes "</g>\n" in
    let after1 = goes_on _ _ _ _ _ part1 (part2 ++ part3) (starts _ _) refl c.in_ok-write_title_end.ensures.written in
    record {
      written = breaks_off _ _ _ _ _ part2 part3 c.from_residual-in_err-write_marked.result _
          c.from_residual-in_err-write_marked.ensures.1 after1 refl c.in_err-write_marked.ensures.written;
    }

pub returns : goal.returns
returns g c =
    let part1 = codes "</title>\n" in
    let part2 = shape_text (marked c.args.at.x c.args.at.y (act_is c.args.act.now)) in
    let part3 = codes "</g>\n" in
    let after1 = goes_on _ _ _ _ _ part1 (part2 ++ part3) (starts _ _) refl c.in_ok-write_title_end.ensures.written in
    let after2 = goes_on _ _ _ _ _ part2 part3 after1 refl c.in_ok-write_marked.ensures.written in
    record {
      written = closes _ _ _ _ _ c.close_titled.result after2 c.close_titled.ensures.written;
    }
