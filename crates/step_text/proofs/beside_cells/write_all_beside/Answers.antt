use Rattle.text_out.proofs.Progress.{breaks_off, closes, goes_on, starts}
use Rattle.std.proofs.Common.{◌++◌, refl}
use Rattle.step_text.specs.BesideCells.{locals_text, printed_text}
use Rattle.step_text.proofs.beside_cells.write_all_beside.Goals as goal

pub returns-in_err-write_variables : goal.returns-in_err-write_variables
returns-in_err-write_variables g c =
    let rest = locals_text c.args.tree.now c.args.at c.args.locals.now ++ printed_text c.args.printed.now in
    record {
      written = breaks_off _ _ _ _ _ _ rest c.from_residual.result _ c.from_residual.ensures.1 (starts _ _) refl
          c.in_err-write_variables.ensures.written;
    }

pub returns-in_err-write_locals : goal.returns-in_err-write_locals
returns-in_err-write_locals g c =
    let rest = locals_text c.args.tree.now c.args.at c.args.locals.now ++ printed_text c.args.printed.now in
    let variables = goes_on _ _ _ _ _ _ rest (starts _ _) refl c.in_ok-write_variables.ensures.written in
    record {
      written = breaks_off _ _ _ _ _ _ (printed_text c.args.printed.now) c.from_residual-in_err-write_locals.result _
          c.from_residual-in_err-write_locals.ensures.1 variables refl c.in_err-write_locals.ensures.written;
    }

pub returns : goal.returns
returns g c =
    let rest = locals_text c.args.tree.now c.args.at c.args.locals.now ++ printed_text c.args.printed.now in
    let variables = goes_on _ _ _ _ _ _ rest (starts _ _) refl c.in_ok-write_variables.ensures.written in
    let locals = goes_on _ _ _ _ _ _ (printed_text c.args.printed.now) variables refl c.in_ok-write_locals.ensures.written in
    record { written = closes _ _ _ _ _ c.write_printed.result locals c.write_printed.ensures.written }
