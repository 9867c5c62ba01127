use Rattle.std.proofs.Common.{◌++◌, sym}
use Rattle.text_places.specs.Excerpts.{excerpt}
use Rattle.text_places.proofs.Pieces.{both, stops_in_first}
use Rattle.diagnoses.specs.FalseLines.{false_sentence, stray_note}
use Rattle.diagnoses.proofs.false_lines.write_stray.Goals as goal

pub returns-in_err-write_excerpt : goal.returns-in_err-write_excerpt
returns-in_err-write_excerpt g c = record {
  written = stops_in_first _ _ (stray_note c.args.source.now c.args.at)
      (excerpt c.as_bytes.result.now c.as_slice.result.now c.args.at) false_sentence c.from_residual.result _
      (λ i. excerpt (sym c.as_bytes.ensures.value i) (sym c.as_slice.ensures.value i) c.args.at ++ false_sentence)
      c.from_residual.ensures.1 c.in_err-write_excerpt.ensures.written;
}

pub returns : goal.returns
returns g c = record {
  written = both _ _ _ (stray_note c.args.source.now c.args.at)
      (excerpt c.as_bytes.result.now c.as_slice.result.now c.args.at) false_sentence c.write_sentence.result
      (λ i. excerpt (sym c.as_bytes.ensures.value i) (sym c.as_slice.ensures.value i) c.args.at ++ false_sentence)
      c.in_ok-write_excerpt.ensures.written c.write_sentence.ensures.written;
}
