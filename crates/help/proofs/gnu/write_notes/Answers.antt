use Rattle.std.proofs.Common.{◌++◌, ap, sym}
use Rattle.text_places.proofs.Pieces.{both, stops_in_first}
use Rattle.help.specs.GnuLines.{more_text, other_text}
use Rattle.help.proofs.gnu.write_notes.Goals as goal

pub returns-in_err-write_more : goal.returns-in_err-write_more
returns-in_err-write_more g c =
    let whole = ap (λ l. more_text c.args.name.now c.args.bytes.now c.args.message.now.place l ++ other_text c.args.name.now
    c.args.bytes.now c.args.message.now.other) (sym c.as_slice.ensures.value) in
    record {
      written = stops_in_first _ _ _ _ _ c.from_residual.result _ whole c.from_residual.ensures.1
          c.in_err-write_more.ensures.written;
    }

pub returns : goal.returns
returns g c =
    let whole = ap (λ l. more_text c.args.name.now c.args.bytes.now c.args.message.now.place l ++ other_text c.args.name.now
    c.args.bytes.now c.args.message.now.other) (sym c.as_slice.ensures.value) in
    record { written = both _ _ _ _ _ _ c.write_other.result whole c.in_ok-write_more.ensures.written c.write_other.ensures.written }
