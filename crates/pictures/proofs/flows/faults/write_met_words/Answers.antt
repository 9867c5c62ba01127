use Rattle.std.proofs.Common.{refl, ◌++◌}
use Rattle.std.specs.Prelude.{codes}
use Rattle.svg_texts.specs.Letters.{letters}
use Rattle.std.specs.Prelude.{take}
use Rattle.program_texts.specs.Shown.{spaced}
use Rattle.svg_texts.specs.Shapes.{words_text}
use Rattle.pictures.specs.Flows.Columns.{met_cut}
use Rattle.text_out.proofs.Progress.{breaks_off, closes, goes_on, starts}
use Rattle.pictures.proofs.flows.faults.write_met_words.Goals as goal

pub returns-in_err-write_all : goal.returns-in_err-write_all
returns-in_err-write_all g c =
    let part1 = codes "processors" in
    let part2 = letters (spaced (take 12 c.args.met.now)) ++ words_text (met_cut c.args.met.now) in
    record {
      written = breaks_off _ _ _ _ _ part1 part2 c.from_residual.result _ c.from_residual.ensures.1 (starts _ _) refl
          c.in_err-write_all.ensures.written;
    }

pub returns : goal.returns
returns g c =
    let part1 = codes "processors" in
    let part2 = letters (spaced (take 12 c.args.met.now)) ++ words_text (met_cut c.args.met.now) in
    let after1 = goes_on _ _ _ _ _ part1 part2 (starts _ _) refl c.in_ok-write_all.ensures.written in
    record {
      written = closes _ _ _ _ _ c.write_named_met.result after1 c.write_named_met.ensures.written;
    }
