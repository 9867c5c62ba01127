use Rattle.std.proofs.Common.{refl}
use Rattle.tracer.specs.Traced.{line_text, relation_text}
use Rattle.text_out.proofs.Progress.{breaks_off, closes, goes_on, starts}
use Rattle.tracer.proofs.exchange_line.write_ending.Goals as goal

pub returns-in_err-write_relation : goal.returns-in_err-write_relation
returns-in_err-write_relation g c =
    let part1 = relation_text c.args.h in
    let part2 = line_text c.args.line in
    record {
      written = breaks_off _ _ _ _ _ part1 part2 c.from_residual.result _ c.from_residual.ensures.1 (starts _ _) refl
          c.in_err-write_relation.ensures.written;
    }

pub returns : goal.returns
returns g c =
    let part1 = relation_text c.args.h in
    let part2 = line_text c.args.line in
    let after1 = goes_on _ _ _ _ _ part1 part2 (starts _ _) refl c.in_ok-write_relation.ensures.written in
    record {
      written = closes _ _ _ _ _ c.write_line.result after1 c.write_line.ensures.written;
    }
