use Rattle.std.proofs.Common.{refl}
use Rattle.text_out.proofs.Progress.{breaks_off, closes, goes_on, starts}
use Rattle.step_text.specs.ChangeTexts.{changes_text, head_text}
use Rattle.step_text.proofs.step_text.write_ran.Goals as goal

pub returns-in_err-write_head : goal.returns-in_err-write_head
returns-in_err-write_head g c =
    let head = head_text c.args.detail.now.columns c.args.location c.args.processors in
    let changes = changes_text c.args.layout.now c.args.changes.now in
    record {
      written = breaks_off _ _ _ _ _ head changes c.from_residual.result _ c.from_residual.ensures.1 (starts _ _) refl
          c.in_err-write_head.ensures.written;
    }

pub returns : goal.returns
returns g c =
    let head = head_text c.args.detail.now.columns c.args.location c.args.processors in
    let changes = changes_text c.args.layout.now c.args.changes.now in
    let first = goes_on _ _ _ _ _ head changes (starts _ _) refl c.in_ok-write_head.ensures.written in
    record { written = closes _ _ _ _ _ c.write_changes.result first c.write_changes.ensures.written }
