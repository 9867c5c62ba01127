use Rattle.std.proofs.Common.{refl, ◌++◌}
use Rattle.std.proofs.Common.{◌+◌, ◌-◌}
use Rattle.std.specs.Prelude.{codes}
use Rattle.svg_texts.specs.Plain.{numbered}
use Rattle.svg_texts.specs.Shapes.{words_text}
use Rattle.text_out.proofs.Progress.{breaks_off, closes, goes_on, starts}
use Rattle.pictures.proofs.steps.head.write_gap.Goals as goal

pub returns-in_err-write_numbered : goal.returns-in_err-write_numbered
returns-in_err-write_numbered g c =
    let part1 = words_text (numbered (codes ", without the ") (c.args.statements - 112)) in
    let part2 = words_text (numbered (codes " from ") (97 + c.args.part.skipped)) in
    let part3 = words_text (numbered (codes " to ") (c.args.statements - 16 + c.args.part.skipped)) in
    record {
      written = breaks_off _ _ _ _ _ part1 (part2 ++ part3) c.from_residual.result _ c.from_residual.ensures.1 (starts _ _) refl
          c.in_err-write_numbered.ensures.written;
    }

pub returns-in_err-write_numbered-2 : goal.returns-in_err-write_numbered-2
returns-in_err-write_numbered-2 g c =
    let part1 = words_text (numbered (codes ", without the ") (c.args.statements - 112)) in
    let part2 = words_text (numbered (codes " from ") (97 + c.args.part.skipped)) in
    let part3 = words_text (numbered (codes " to ") (c.args.statements - 16 + c.args.part.skipped)) in
    let after1 = goes_on _ _ _ _ _ part1 (part2 ++ part3) (starts _ _) refl c.in_ok-write_numbered.ensures.written in
    record {
      written = breaks_off _ _ _ _ _ part2 part3 c.from_residual-in_err-write_numbered-2.result _
          c.from_residual-in_err-write_numbered-2.ensures.1 after1 refl c.in_err-write_numbered-2.ensures.written;
    }

pub returns : goal.returns
returns g c =
    let part1 = words_text (numbered (codes ", without the ") (c.args.statements - 112)) in
    let part2 = words_text (numbered (codes " from ") (97 + c.args.part.skipped)) in
    let part3 = words_text (numbered (codes " to ") (c.args.statements - 16 + c.args.part.skipped)) in
    let after1 = goes_on _ _ _ _ _ part1 (part2 ++ part3) (starts _ _) refl c.in_ok-write_numbered.ensures.written in
    let after2 = goes_on _ _ _ _ _ part2 part3 after1 refl c.in_ok-write_numbered-2.ensures.written in
    record {
      written = closes _ _ _ _ _ c.write_numbered-3.result after2 c.write_numbered-3.ensures.written;
    }
