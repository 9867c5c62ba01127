use Rattle.std.proofs.Common.{refl, ◌++◌}
use Rattle.std.specs.Prelude.{codes}
use Rattle.svg_texts.specs.Shapes.{shape_text}
use Rattle.tracer.specs.Picture.{aside}
use Rattle.text_out.proofs.Progress.{breaks_off, closes, goes_on, starts}
use Rattle.tracer.proofs.scale.write_titles.Goals as goal

pub returns-in_err-write_aside : goal.returns-in_err-write_aside
returns-in_err-write_aside g c =
    let part1 = shape_text (aside 64 (codes "exchange")) in
    let part2 = shape_text (aside 143 (codes "words sent")) in
    let part3 = shape_text (aside 218 (codes "0")) in
    let part4 = shape_text (aside 293 (codes "words received")) in
    let part5 = shape_text (aside 327 (codes "worker")) in
    record {
      written = breaks_off _ _ _ _ _ part1 (part2 ++ (part3 ++ (part4 ++ part5))) c.from_residual.result _ c.from_residual.ensures.1
          (starts _ _) refl c.in_err-write_aside.ensures.written;
    }

pub returns-in_err-write_aside-2 : goal.returns-in_err-write_aside-2
returns-in_err-write_aside-2 g c =
    let part1 = shape_text (aside 64 (codes "exchange")) in
    let part2 = shape_text (aside 143 (codes "words sent")) in
    let part3 = shape_text (aside 218 (codes "0")) in
    let part4 = shape_text (aside 293 (codes "words received")) in
    let part5 = shape_text (aside 327 (codes "worker")) in
    let after1 = goes_on _ _ _ _ _ part1 (part2 ++ (part3 ++ (part4 ++ part5))) (starts _ _) refl c.in_ok-write_aside.ensures.written in
    record {
      written = breaks_off _ _ _ _ _ part2 (part3 ++ (part4 ++ part5)) c.from_residual-in_err-write_aside-2.result _
          c.from_residual-in_err-write_aside-2.ensures.1 after1 refl c.in_err-write_aside-2.ensures.written;
    }

pub returns-in_err-write_aside-3 : goal.returns-in_err-write_aside-3
returns-in_err-write_aside-3 g c =
    let part1 = shape_text (aside 64 (codes "exchange")) in
    let part2 = shape_text (aside 143 (codes "words sent")) in
    let part3 = shape_text (aside 218 (codes "0")) in
    let part4 = shape_text (aside 293 (codes "words received")) in
    let part5 = shape_text (aside 327 (codes "worker")) in
    let after1 = goes_on _ _ _ _ _ part1 (part2 ++ (part3 ++ (part4 ++ part5))) (starts _ _) refl c.in_ok-write_aside.ensures.written in
    let after2 = goes_on _ _ _ _ _ part2 (part3 ++ (part4 ++ part5)) after1 refl c.in_ok-write_aside-2.ensures.written in
    record {
      written = breaks_off _ _ _ _ _ part3 (part4 ++ part5) c.from_residual-in_err-write_aside-3.result _
          c.from_residual-in_err-write_aside-3.ensures.1 after2 refl c.in_err-write_aside-3.ensures.written;
    }

pub returns-in_err-write_aside-4 : goal.returns-in_err-write_aside-4
returns-in_err-write_aside-4 g c =
    let part1 = shape_text (aside 64 (codes "exchange")) in
    let part2 = shape_text (aside 143 (codes "words sent")) in
    let part3 = shape_text (aside 218 (codes "0")) in
    let part4 = shape_text (aside 293 (codes "words received")) in
    let part5 = shape_text (aside 327 (codes "worker")) in
    let after1 = goes_on _ _ _ _ _ part1 (part2 ++ (part3 ++ (part4 ++ part5))) (starts _ _) refl c.in_ok-write_aside.ensures.written in
    let after2 = goes_on _ _ _ _ _ part2 (part3 ++ (part4 ++ part5)) after1 refl c.in_ok-write_aside-2.ensures.written in
    let after3 = goes_on _ _ _ _ _ part3 (part4 ++ part5) after2 refl c.in_ok-write_aside-3.ensures.written in
    record {
      written = breaks_off _ _ _ _ _ part4 part5 c.from_residual-in_err-write_aside-4.result _
          c.from_residual-in_err-write_aside-4.ensures.1 after3 refl c.in_err-write_aside-4.ensures.written;
    }

pub returns : goal.returns
returns g c =
    let part1 = shape_text (aside 64 (codes "exchange")) in
    let part2 = shape_text (aside 143 (codes "words sent")) in
    let part3 = shape_text (aside 218 (codes "0")) in
    let part4 = shape_text (aside 293 (codes "words received")) in
    let part5 = shape_text (aside 327 (codes "worker")) in
    let after1 = goes_on _ _ _ _ _ part1 (part2 ++ (part3 ++ (part4 ++ part5))) (starts _ _) refl c.in_ok-write_aside.ensures.written in
    let after2 = goes_on _ _ _ _ _ part2 (part3 ++ (part4 ++ part5)) after1 refl c.in_ok-write_aside-2.ensures.written in
    let after3 = goes_on _ _ _ _ _ part3 (part4 ++ part5) after2 refl c.in_ok-write_aside-3.ensures.written in
    let after4 = goes_on _ _ _ _ _ part4 part5 after3 refl c.in_ok-write_aside-4.ensures.written in
    record {
      written = closes _ _ _ _ _ c.write_aside-5.result after4 c.write_aside-5.ensures.written;
    }
