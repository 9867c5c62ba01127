use Rattle.std.proofs.Common.{◌++◌, ap, sym}
use Rattle.text_places.proofs.Pieces.{both, stops_in_first}
use Rattle.help.specs.Messages.{message_is, rest_text, sentence_line}
use Rattle.help.proofs.text.write_said.Goals as goal

pub returns-in_err-write_sentence : goal.returns-in_err-write_sentence
returns-in_err-write_sentence g c =
    let whole = ap (λ l. sentence_line l c.args.message.now.other ++ rest_text c.args.name.now c.args.bytes.now
    (message_is c.args.message.now)) (sym c.as_slice.ensures.value) in
    record {
      written = stops_in_first _ _ _ _ _ c.from_residual.result _ whole c.from_residual.ensures.1
          c.in_err-write_sentence.ensures.written;
    }

pub returns : goal.returns
returns g c =
    let whole = ap (λ l. sentence_line l c.args.message.now.other ++ rest_text c.args.name.now c.args.bytes.now
    (message_is c.args.message.now)) (sym c.as_slice.ensures.value) in
    record { written = both _ _ _ _ _ _ c.write_rest.result whole c.in_ok-write_sentence.ensures.written c.write_rest.ensures.written }
