use Rattle.std.proofs.lemmas.List.{at_drop_more}
use Rattle.text_out.proofs.Writing.{writes_stopped}
use Rattle.text_out.proofs.Progress.{goes_on, stops}
use Rattle.sweeps.specs.CsvText.{escaped}
use Rattle.sweeps.proofs.csv_field.write_escaped.Goals as goal

pub returns-in_err-write_doubled : goal.returns-in_err-write_doubled
returns-in_err-write_doubled g c =
    let at = at_drop_more escaped c.args.field.now c.loop-byte.byte-index _ c.loop-byte-test.true in
    record {
      written = writes_stopped _ _ _ c.from_residual.result _ c.from_residual.ensures.1
          (stops _ _ _ _ _ _ _ c.loop-byte.invariant at c.in_err-write_doubled.ensures.written);
    }

pub loop-byte-preserved : goal.loop-byte-preserved
loop-byte-preserved g c =
    let at = at_drop_more escaped c.args.field.now c.loop-byte.byte-index _ c.loop-byte-test.true in
    goes_on _ _ _ _ _ _ _ c.loop-byte.invariant at c.in_ok-write_doubled.ensures.written
