use Rattle.std.proofs.Common.{refl, ◌++◌, sym}
use Rattle.std.proofs.Common.{w64}
use Rattle.std.proofs.lemmas.Int.{to_z-of_z}
use Rattle.std.specs.Prelude.{codes}
use Rattle.svg_texts.specs.Letters.{letters}
use Rattle.std.specs.Fmt.{signed_decimal}
use Rattle.text_out.proofs.Progress.{breaks_off, closes, goes_on, starts}
use Rattle.pictures.proofs.names.write_element.Goals as goal

pub returns-in_err-write_letters : goal.returns-in_err-write_letters
returns-in_err-write_letters g c =
    let part1 = letters c.args.name.now in
    let part2 = codes "[" ++ (signed_decimal c.args.subscript ++ codes "]") in
    record {
      written = breaks_off _ _ _ _ _ part1 part2 c.from_residual.result _ c.from_residual.ensures.1 (starts _ _) refl
          c.in_err-write_letters.ensures.written;
    }

pub returns : goal.returns
returns g c =
    let part1 = letters c.args.name.now in
    let part2 = codes "[" ++ (signed_decimal c.args.subscript ++ codes "]") in
    let after1 = goes_on _ _ _ _ _ part1 (_) (starts _ _) (λ i. part1 ++ (codes "[" ++ (signed_decimal (sym (to_z-of_z w64
    c.args.subscript c.ranges.subscript) i) ++ codes "]"))) c.in_ok-write_letters.ensures.written in
    record {
      written = closes _ _ _ _ _ c.write_subscript.result after1 c.write_subscript.ensures.written;
    }
