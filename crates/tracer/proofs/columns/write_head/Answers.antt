use Rattle.std.proofs.Common.{◌++◌, sym}
use Rattle.superstep_machine.specs.Purposes.{purpose_is}
use Rattle.svg_texts.specs.Shapes.{shape_text}
use Rattle.tracer.specs.Picture.{column_front, column_line}
use Rattle.text_out.proofs.Progress.{breaks_off, closes, goes_on, starts}
use Rattle.tracer.proofs.columns.write_head.Goals as goal

pub returns-in_err-write_front : goal.returns-in_err-write_front
returns-in_err-write_front g c =
    let part1 = shape_text (column_front c.args.x c.args.width c.args.k (purpose_is c.exchange-purpose.result.0)
    c.exchange-purpose.result.1) in
    let part2 = shape_text (column_line c.args.x c.args.line) in
    record {
      written = breaks_off _ _ _ _ _ part1 part2 c.from_residual.result _ c.from_residual.ensures.1 (starts _ _) (λ i. shape_text
          (column_front c.args.x c.args.width c.args.k (sym c.exchange-purpose.ensures.purpose i) (sym c.exchange-purpose.ensures.relation
          i)) ++ shape_text (column_line c.args.x c.args.line)) c.in_err-write_front.ensures.written;
    }

pub returns : goal.returns
returns g c =
    let part1 = shape_text (column_front c.args.x c.args.width c.args.k (purpose_is c.exchange-purpose.result.0)
    c.exchange-purpose.result.1) in
    let part2 = shape_text (column_line c.args.x c.args.line) in
    let after1 = goes_on _ _ _ _ _ part1 part2 (starts _ _) (λ i. shape_text (column_front c.args.x c.args.width c.args.k (sym
    c.exchange-purpose.ensures.purpose i) (sym c.exchange-purpose.ensures.relation i)) ++ shape_text (column_line c.args.x
    c.args.line)) c.in_ok-write_front.ensures.written in
    record {
      written = closes _ _ _ _ _ c.write_column_line.result after1 c.write_column_line.ensures.written;
    }
