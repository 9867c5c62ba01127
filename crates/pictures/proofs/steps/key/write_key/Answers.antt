use Rattle.std.proofs.Common.{refl, ◌++◌}
use Rattle.svg_texts.specs.Shapes.{Over, shape_text}
use Rattle.pictures.specs.Steps.Picture.{key_acts, key_met, key_more, key_reads, key_writes}
use Rattle.text_out.proofs.Progress.{breaks_off, closes, goes_on, starts}
use Rattle.pictures.proofs.steps.key.write_key.Goals as goal

pub returns-in_err-write_key_acts : goal.returns-in_err-write_key_acts
returns-in_err-write_key_acts g c =
    let part1 = shape_text key_acts in
    let part2 = shape_text (Over key_reads key_writes) in
    let part3 = shape_text (Over key_met key_more) in
    record {
      written = breaks_off _ _ _ _ _ part1 (part2 ++ part3) c.from_residual.result _ c.from_residual.ensures.1 (starts _ _) refl
          c.in_err-write_key_acts.ensures.written;
    }

pub returns-in_err-write_accesses : goal.returns-in_err-write_accesses
returns-in_err-write_accesses g c =
    let part1 = shape_text key_acts in
    let part2 = shape_text (Over key_reads key_writes) in
    let part3 = shape_text (Over key_met key_more) in
    let after1 = goes_on _ _ _ _ _ part1 (part2 ++ part3) (starts _ _) refl c.in_ok-write_key_acts.ensures.written in
    record {
      written = breaks_off _ _ _ _ _ part2 part3 c.from_residual-in_err-write_accesses.result _
          c.from_residual-in_err-write_accesses.ensures.1 after1 refl c.in_err-write_accesses.ensures.written;
    }

pub returns : goal.returns
returns g c =
    let part1 = shape_text key_acts in
    let part2 = shape_text (Over key_reads key_writes) in
    let part3 = shape_text (Over key_met key_more) in
    let after1 = goes_on _ _ _ _ _ part1 (part2 ++ part3) (starts _ _) refl c.in_ok-write_key_acts.ensures.written in
    let after2 = goes_on _ _ _ _ _ part2 part3 after1 refl c.in_ok-write_accesses.ensures.written in
    record {
      written = closes _ _ _ _ _ c.write_others.result after2 c.write_others.ensures.written;
    }
