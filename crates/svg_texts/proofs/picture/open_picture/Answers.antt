use Rattle.std.proofs.Common.{refl, ◌++◌}
use Rattle.svg_texts.specs.Letters.{letters}
use Rattle.svg_texts.specs.Shapes.{ground_text, size_text}
use Rattle.text_out.proofs.Progress.{breaks_off, closes, goes_on, starts}
use Rattle.svg_texts.proofs.picture.open_picture.Goals as goal

pub returns-in_err-write_size : goal.returns-in_err-write_size
returns-in_err-write_size g c =
    let part1 = size_text c.args.wide c.args.tall in
    let part2 = letters c.args.title.now in
    let part3 = ground_text c.args.wide c.args.tall in
    record {
      written = breaks_off _ _ _ _ _ part1 (part2 ++ part3) c.from_residual.result _ c.from_residual.ensures.1 (starts _ _) refl
          c.in_err-write_size.ensures.written;
    }

pub returns-in_err-write_letters : goal.returns-in_err-write_letters
returns-in_err-write_letters g c =
    let part1 = size_text c.args.wide c.args.tall in
    let part2 = letters c.args.title.now in
    let part3 = ground_text c.args.wide c.args.tall in
    let after1 = goes_on _ _ _ _ _ part1 (part2 ++ part3) (starts _ _) refl c.in_ok-write_size.ensures.written in
    record {
      written = breaks_off _ _ _ _ _ part2 part3 c.from_residual-in_err-write_letters.result _
          c.from_residual-in_err-write_letters.ensures.1 after1 refl c.in_err-write_letters.ensures.written;
    }

pub returns : goal.returns
returns g c =
    let part1 = size_text c.args.wide c.args.tall in
    let part2 = letters c.args.title.now in
    let part3 = ground_text c.args.wide c.args.tall in
    let after1 = goes_on _ _ _ _ _ part1 (part2 ++ part3) (starts _ _) refl c.in_ok-write_size.ensures.written in
    let after2 = goes_on _ _ _ _ _ part2 part3 after1 refl c.in_ok-write_letters.ensures.written in
    record {
      written = closes _ _ _ _ _ c.write_ground.result after2 c.write_ground.ensures.written;
    }
