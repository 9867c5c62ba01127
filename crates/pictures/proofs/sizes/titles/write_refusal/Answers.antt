use Rattle.std.proofs.Common.{refl}
use Rattle.std.specs.Prelude.{codes}
use Rattle.svg_texts.specs.Letters.{letters}
use Rattle.text_out.proofs.Progress.{breaks_off, closes, goes_on, starts}
use Rattle.pictures.proofs.sizes.titles.write_refusal.Goals as goal

pub returns-in_err-write_letters : goal.returns-in_err-write_letters
returns-in_err-write_letters g c =
    let part1 = letters (codes " ") in
    let part2 = letters c.args.refusal.now in
    record {
      written = breaks_off _ _ _ _ _ part1 part2 c.from_residual.result _ c.from_residual.ensures.1 (starts _ _) refl
          c.in_err-write_letters.ensures.written;
    }

pub returns : goal.returns
returns g c =
    let part1 = letters (codes " ") in
    let part2 = letters c.args.refusal.now in
    let after1 = goes_on _ _ _ _ _ part1 part2 (starts _ _) refl c.in_ok-write_letters.ensures.written in
    record {
      written = closes _ _ _ _ _ c.write_letters-2.result after1 c.write_letters-2.ensures.written;
    }
