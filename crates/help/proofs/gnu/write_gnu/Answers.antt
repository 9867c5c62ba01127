use Rattle.std.proofs.Common.{◌++◌, ap, sym}
use Rattle.text_places.proofs.Pieces.{both, stops_in_first}
use Rattle.help.specs.GnuLines.{error_text, notes_text}
use Rattle.help.specs.Messages.{message_is}
use Rattle.help.proofs.gnu.write_gnu.Goals as goal

pub returns-in_err-write_first : goal.returns-in_err-write_first
returns-in_err-write_first g c =
    let whole = ap (λ l. error_text c.args.name.now c.args.bytes.now c.args.message.now.place l c.args.code.now ++ notes_text
    c.args.name.now c.args.bytes.now (message_is c.args.message.now)) (sym c.as_slice-sentence.ensures.value) in
    record {
      written = stops_in_first _ _ _ _ _ c.from_residual.result _ whole c.from_residual.ensures.1
          c.in_err-write_first.ensures.written;
    }

pub returns : goal.returns
returns g c =
    let whole = ap (λ l. error_text c.args.name.now c.args.bytes.now c.args.message.now.place l c.args.code.now ++ notes_text
    c.args.name.now c.args.bytes.now (message_is c.args.message.now)) (sym c.as_slice-sentence.ensures.value) in
    record { written = both _ _ _ _ _ _ c.write_notes.result whole c.in_ok-write_first.ensures.written c.write_notes.ensures.written }
