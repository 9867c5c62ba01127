use Rattle.std.proofs.Common.{◌++◌, ap, sym}
use Rattle.diagnoses.specs.FaultTexts.{met_text}
use Rattle.text_places.proofs.Pieces.{both, stops_in_first}
use Rattle.diagnoses.proofs.event_text.write_event.Goals as goal

pub returns-in_err-write_all : goal.returns-in_err-write_all
returns-in_err-write_all g c = record {
  written = stops_in_first _ _ _ _ _ c.from_residual.result _ (ap (λ k. k ++ met_text c.args.who.now) (sym c.kind_sentence.ensures))
      c.from_residual.ensures.1 c.in_err-write_all.ensures.written;
}

pub returns : goal.returns
returns g c = record {
  written = both _ _ _ _ _ _ c.write_met.result (ap (λ k. k ++ met_text c.args.who.now) (sym c.kind_sentence.ensures))
      c.in_ok-write_all.ensures.written c.write_met.ensures.written;
}
