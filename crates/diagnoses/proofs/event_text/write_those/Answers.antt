use Rattle.std.proofs.Common.{◌++◌, ◌-◌, ◌∙◌, ap, length, sym}
use Rattle.program_texts.specs.Shown.{spaced}
use Rattle.text_places.proofs.Pieces.{both, stops_in_first}
use Rattle.diagnoses.specs.FaultTexts.{most_told, others_text}
use Rattle.diagnoses.proofs.event_text.write_those.Goals as goal

pub returns-in_err-write_values : goal.returns-in_err-write_values
returns-in_err-write_values g c = record {
  written = stops_in_first _ _ _ _ _ c.from_residual.result _
      (ap (λ w. spaced w ++ others_text (length c.args.who.now - most_told)) (sym c.first_met.ensures)) c.from_residual.ensures.1
      c.in_err-write_values.ensures.written;
}

pub returns : goal.returns
returns g c = record {
  written = both _ _ _ _ _ _ c.write_count.result
      (ap (λ w. spaced w ++ others_text (length c.args.who.now - most_told)) (sym c.first_met.ensures)
      ∙ ap (λ n. spaced c.first_met.result.now ++ others_text n) (sym c.more_met.ensures)) c.in_ok-write_values.ensures.written
      c.write_count.ensures.written;
}
