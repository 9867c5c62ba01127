use Rattle.std.proofs.Common.{refl, ◌++◌, sym}
use Rattle.std.proofs.Common.{length, take}
use Rattle.std.specs.Prelude.{codes}
use Rattle.svg_texts.specs.Shapes.{words_text}
use Rattle.pictures.specs.Steps.Picture.{indices_words, more_met}
use Rattle.text_out.proofs.Progress.{breaks_off, closes, goes_on, starts}
use Rattle.pictures.proofs.steps.foot.write_met_words.Goals as goal

pub returns-in_err-write_all : goal.returns-in_err-write_all
returns-in_err-write_all g c =
    let part1 = codes "met: processors" in
    let part2 = words_text (indices_words (take 8 c.args.met.now)) in
    let part3 = words_text (more_met (length c.args.met.now)) in
    record {
      written = breaks_off _ _ _ _ _ part1 (part2 ++ part3) c.from_residual.result _ c.from_residual.ensures.1 (starts _ _) refl
          c.in_err-write_all.ensures.written;
    }

pub returns-in_err-write_indices : goal.returns-in_err-write_indices
returns-in_err-write_indices g c =
    let part1 = codes "met: processors" in
    let part2 = words_text (indices_words (take 8 c.args.met.now)) in
    let part3 = words_text (more_met (length c.args.met.now)) in
    let after1 = goes_on _ _ _ _ _ part1 (part2 ++ part3) (starts _ _) refl c.in_ok-write_all.ensures.written in
    record {
      written = breaks_off _ _ _ _ _ (_) part3 c.from_residual-in_err-write_indices.result _
          c.from_residual-in_err-write_indices.ensures.1 after1 (λ i. words_text (indices_words (sym c.named.ensures i)) ++ part3)
          c.in_err-write_indices.ensures.written;
    }

pub returns : goal.returns
returns g c =
    let part1 = codes "met: processors" in
    let part2 = words_text (indices_words (take 8 c.args.met.now)) in
    let part3 = words_text (more_met (length c.args.met.now)) in
    let after1 = goes_on _ _ _ _ _ part1 (part2 ++ part3) (starts _ _) refl c.in_ok-write_all.ensures.written in
    let after2 = goes_on _ _ _ _ _ (_) part3 after1 (λ i. words_text (indices_words (sym c.named.ensures i)) ++ part3)
    c.in_ok-write_indices.ensures.written in
    record {
      written = closes _ _ _ _ _ c.write_more_met.result after2 c.write_more_met.ensures.written;
    }
