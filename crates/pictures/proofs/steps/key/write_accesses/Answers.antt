use Rattle.std.proofs.Common.{refl}
use Rattle.svg_texts.specs.Shapes.{shape_text}
use Rattle.pictures.specs.Steps.Picture.{key_reads, key_writes}
use Rattle.text_out.proofs.Progress.{breaks_off, closes, goes_on, starts}
use Rattle.pictures.proofs.steps.key.write_accesses.Goals as goal

pub returns-in_err-write_key_reads : goal.returns-in_err-write_key_reads
returns-in_err-write_key_reads g c =
    let part1 = shape_text key_reads in
    let part2 = shape_text key_writes in
    record {
      written = breaks_off _ _ _ _ _ part1 part2 c.from_residual.result _ c.from_residual.ensures.1 (starts _ _) refl
          c.in_err-write_key_reads.ensures.written;
    }

pub returns : goal.returns
returns g c =
    let part1 = shape_text key_reads in
    let part2 = shape_text key_writes in
    let after1 = goes_on _ _ _ _ _ part1 part2 (starts _ _) refl c.in_ok-write_key_reads.ensures.written in
    record {
      written = closes _ _ _ _ _ c.write_key_writes.result after1 c.write_key_writes.ensures.written;
    }
