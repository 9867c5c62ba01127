use Rattle.std.proofs.Common.{◌++◌, None, ap, length, sym}
use Rattle.text_out.proofs.Progress.{breaks_off, closes, goes_on, starts}
use Rattle.step_text.specs.BesideCells.{each_local_text, more_text}
use Rattle.step_text.proofs.beside_cells.write_locals.Goals as goal

pub returns-in_err-write_each_local : goal.returns-in_err-write_each_local
returns-in_err-write_each_local g c =
    let more = more_text (length c.args.locals.now) in
    let first = ap (λ l. each_local_text c.args.tree.now c.args.at None l ++ more) (sym c.first_locals.ensures) in
    record {
      written = breaks_off _ _ _ _ _ (each_local_text c.args.tree.now c.args.at None c.first_locals.result.now) more c.from_residual.result
          _
          c.from_residual.ensures.1 (starts _ _) first c.in_err-write_each_local.ensures.written;
    }

pub returns : goal.returns
returns g c =
    let more = more_text (length c.args.locals.now) in
    let first = ap (λ l. each_local_text c.args.tree.now c.args.at None l ++ more) (sym c.first_locals.ensures) in
    let each = goes_on _ _ _ _ _ (each_local_text c.args.tree.now c.args.at None c.first_locals.result.now) more
    (starts _ _) first c.in_ok-write_each_local.ensures.written in
    record { written = closes _ _ _ _ _ c.write_more.result each c.write_more.ensures.written }
