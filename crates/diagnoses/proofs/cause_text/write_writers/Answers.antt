use Rattle.std.proofs.Common.{◌++◌, ◌-◌, ◌∙◌, ap, codes, length, sym}
use Rattle.text_places.proofs.Pieces.{both, stops_in_first}
use Rattle.diagnoses.specs.FaultTexts.{more_text, most_told, writes_text}
use Rattle.diagnoses.proofs.cause_text.write_writers.Goals as goal

pub returns-in_err-write_listed : goal.returns-in_err-write_listed
returns-in_err-write_listed g c = record {
  written = stops_in_first _ _ _ _ _ c.from_residual.result _
      (ap (λ w. writes_text (codes ";") w ++ more_text (length c.args.writes.now - most_told)) (sym c.first_writes.ensures))
      c.from_residual.ensures.1 c.in_err-write_listed.ensures.written;
}

pub returns : goal.returns
returns g c = record {
  written = both _ _ _ _ _ _ c.write_more.result
      (ap (λ w. writes_text (codes ";") w ++ more_text (length c.args.writes.now - most_told)) (sym c.first_writes.ensures)
      ∙ ap (λ n. writes_text (codes ";") c.first_writes.result.now ++ more_text n) (sym c.more_writes.ensures))
      c.in_ok-write_listed.ensures.written c.write_more.ensures.written;
}
