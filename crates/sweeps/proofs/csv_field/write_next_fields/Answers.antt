use Rattle.std.proofs.Common.{ℕ, List, [], map}
use Rattle.std.proofs.lemmas.List.{at_drop_all, at_drop_more}
use Rattle.std.specs.Borrow.{Bor}
use Rattle.text_out.proofs.Writing.{with_bytes-nothing, writes_stopped}
use Rattle.text_out.proofs.Progress.{closes, goes_on, stops}
use Rattle.sweeps.specs.CsvText.{next_fields}
use Rattle.sweeps.proofs.csv_field.write_next_fields.Goals as goal

pub returns-in_err-write_next_field : goal.returns-in_err-write_next_field
returns-in_err-write_next_field g c =
    let at = at_drop_more (λ (fields : List (Bor (List ℕ))). next_fields (map (λ f. f.now) fields)) c.args.fields.now
    c.loop-field.field-index _ c.loop-field-test.true in
    record {
      written = writes_stopped _ _ _ c.from_residual.result _ c.from_residual.ensures.1
          (stops _ _ _ _ _ _ _ c.loop-field.invariant at c.in_err-write_next_field.ensures.written);
    }

pub loop-field-preserved : goal.loop-field-preserved
loop-field-preserved g c =
    let at = at_drop_more (λ (fields : List (Bor (List ℕ))). next_fields (map (λ f. f.now) fields)) c.args.fields.now
    c.loop-field.field-index _ c.loop-field-test.true in
    goes_on _ _ _ _ _ _ _ c.loop-field.invariant at c.in_ok-write_next_field.ensures.written

pub returns : goal.returns
returns g c =
    let at = at_drop_all (λ (fields : List (Bor (List ℕ))). next_fields (map (λ f. f.now) fields)) c.args.fields.now
    c.loop-field.field-index c.loop-field-test.false in
    record {
      written = closes _ _ _ _ _ c.write_all.result
          (goes_on _ _ _ _ _ [] (next_fields []) c.loop-field.invariant at (with_bytes-nothing _)) c.write_all.ensures.written;
    }
