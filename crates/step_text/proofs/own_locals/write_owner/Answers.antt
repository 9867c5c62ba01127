use Rattle.std.proofs.Common.{◌++◌, ap, refl, sym}
use Rattle.text_out.proofs.Progress.{breaks_off, closes, goes_on, starts}
use Rattle.step_text.specs.BesideCells.{processor_head}
use Rattle.step_text.specs.OwnLocals.{values_text}
use Rattle.step_text.proofs.own_locals.write_owner.Goals as goal

pub returns-in_err-write_processor_head : goal.returns-in_err-write_processor_head
returns-in_err-write_processor_head g c =
    let own = c.args.own.now in
    record {
      written = breaks_off _ _ _ _ _ (processor_head own.processor) (values_text c.args.tree.now c.args.at 0 own.values.items)
          c.from_residual.result _ c.from_residual.ensures.1 (starts _ _) refl
          c.in_err-write_processor_head.ensures.written;
    }

pub returns : goal.returns
returns g c =
    let own = c.args.own.now in
    let values = values_text c.args.tree.now c.args.at 0 in
    let same = ap (λ vs. processor_head own.processor ++ values vs) (sym c.deref.ensures.value) in
    let head = goes_on _ _ _ _ _ (processor_head own.processor) (values c.deref.result.now) (starts _ _) same
    c.in_ok-write_processor_head.ensures.written in
    record { written = closes _ _ _ _ _ c.write_own_values.result head c.write_own_values.ensures.written }
