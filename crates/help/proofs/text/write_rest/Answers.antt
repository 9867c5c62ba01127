use Rattle.std.proofs.Common.{◌++◌, None, ap, sym}
use Rattle.text_places.proofs.Pieces.{both, stops_in_first}
use Rattle.help.specs.Messages.{other_text, sentence_line}
use Rattle.help.proofs.text.write_rest.Goals as goal

pub returns-in_err-write_sentence : goal.returns-in_err-write_sentence
returns-in_err-write_sentence g c =
    let whole = ap (λ l. sentence_line l None ++ other_text c.args.name.now c.args.bytes.now c.args.message.now.other)
    (sym c.as_slice.ensures.value) in
    record {
      written = stops_in_first _ _ _ _ _ c.from_residual.result _ whole c.from_residual.ensures.1
          c.in_err-write_sentence.ensures.written;
    }

pub returns : goal.returns
returns g c =
    let whole = ap (λ l. sentence_line l None ++ other_text c.args.name.now c.args.bytes.now c.args.message.now.other)
    (sym c.as_slice.ensures.value) in
    record { written = both _ _ _ _ _ _ c.write_other.result whole c.in_ok-write_sentence.ensures.written c.write_other.ensures.written }
