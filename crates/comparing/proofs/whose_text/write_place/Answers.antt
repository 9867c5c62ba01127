use Rattle.std.proofs.Common.{codes, refl}
use Rattle.text_out.proofs.Progress.{breaks_off, closes, goes_on, starts}
use Rattle.text_places.specs.Escaped.{escaped}
use Rattle.comparing.proofs.whose_text.write_place.Goals as goal

pub returns-in_err-write_all : goal.returns-in_err-write_all
returns-in_err-write_all g c =
    let one = codes " in " in
    let two = escaped c.args.name.now in
    record {
      written = breaks_off _ _ _ _ _ one two
          c.from_residual.result _ c.from_residual.ensures.1 (starts _ _) refl c.in_err-write_all.ensures.written;
    }

pub returns : goal.returns
returns g c =
    let one = codes " in " in
    let two = escaped c.args.name.now in
    let after_1 = goes_on _ _ _ _ _ one two (starts _ _) refl c.in_ok-write_all.ensures.written in
    record { written = closes _ _ _ _ _ c.write_name.result after_1 c.write_name.ensures.written }
