use Rattle.std.proofs.Common.{refl}
use Rattle.text_out.proofs.Progress.{breaks_off, closes, goes_on, starts}
use Rattle.step_text.specs.BesideCells.{beside_text}
use Rattle.step_text.specs.ChangeTexts.{ran_text}
use Rattle.step_text.proofs.step_text.write_whole.Goals as goal

pub returns-in_err-write_ran : goal.returns-in_err-write_ran
returns-in_err-write_ran g c =
    let r = c.args.ran.now in
    let text = ran_text c.args.layout.now c.args.detail.now.columns r.location r.processors r.cells.now in
    let rest = beside_text c.args.detail.now.locals r.location.offset r.variables.now r.locals.now r.printed.now in
    record {
      written = breaks_off _ _ _ _ _ text rest c.from_residual.result _ c.from_residual.ensures.1
          (starts _ _) refl c.in_err-write_ran.ensures.written;
    }

pub returns : goal.returns
returns g c =
    let r = c.args.ran.now in
    let text = ran_text c.args.layout.now c.args.detail.now.columns r.location r.processors r.cells.now in
    let rest = beside_text c.args.detail.now.locals r.location.offset r.variables.now r.locals.now r.printed.now in
    let cells = goes_on _ _ _ _ _ text rest (starts _ _) refl c.in_ok-write_ran.ensures.written in
    record { written = closes _ _ _ _ _ c.write_beside_cells.result cells c.write_beside_cells.ensures.written }
