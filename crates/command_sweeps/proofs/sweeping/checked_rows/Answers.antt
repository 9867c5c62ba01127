use Rattle.std.proofs.Common.{◌≡◌, ◌∙◌, List, false, inr, subst, sym}
use Rattle.std.specs.List.{list_any}
use Rattle.sweeps.specs.declared.size_row.SizeRow.{SizeRow}
use Rattle.command_sweeps.specs.Sweeps.{is_run}
use Rattle.command_requests.proofs.Sizes.{hands_on}
use Rattle.command_sweeps.proofs.SweptRows.{refusal_held}
use Rattle.command_sweeps.proofs.sweeping.checked_rows.Goals as goal

pub returns-in_err-check_first-clause-refused : goal.returns-in_err-check_first-clause-refused
returns-in_err-check_first-clause-refused g c =
    let h = c.in_err-check_first.field-0.0 in
    let first = c.in_err-check_first.ensures in
    hands_on _ h _ c.from_residual.ensures.1 (inr (record {
      rows = c.in-Ok.rows.items;
      are_rows = c.in-Ok.ensures.rows;
      refused = subst (λ (rows : List SizeRow). list_any (λ r. is_run r.ending) rows ≡ false) c.deref.ensures.value
          (sym c.has_run.ensures ∙ c.if-not-has_run.true);
      first = first.0;
      is_first = first.1;
      stops = refusal_held _ _ c.in-Ok.ensures.same c.args.file.now c.args.words.word.now first.0 h first.2;
    }))
