use Rattle.std.proofs.Common.{refl, ◌++◌, sym}
use Rattle.std.specs.Prelude.{codes}
use Rattle.std.proofs.Common.{◌-◌}
use Rattle.svg_texts.specs.declared.form.Form.TheVariants.{Rectangle}
use Rattle.svg_texts.specs.Shapes.{Drawn, shape_text, words_text}
use Rattle.tracer.specs.Picture.{sent_paint, share_words}
use Rattle.text_out.proofs.Progress.{breaks_off, closes, goes_on, starts}
use Rattle.tracer.proofs.bars.write_sent_at.Goals as goal

pub returns-in_err-open_titled : goal.returns-in_err-open_titled
returns-in_err-open_titled g c =
    let part1 = codes "<g><title>" in
    let part2 = words_text (share_words c.args.share.worker (codes " sent ") c.args.share.words) in
    let part3 = codes "</title>\n" in
    let part4 = shape_text (Drawn (Rectangle c.args.x (214 - c.args.height) 12 c.args.height) sent_paint) in
    let part5 = codes "</g>\n" in
    record {
      written = breaks_off _ _ _ _ _ part1 (part2 ++ (part3 ++ (part4 ++ part5))) c.from_residual.result _ c.from_residual.ensures.1
          (starts _ _) refl c.in_err-open_titled.ensures.written;
    }

pub returns-in_err-write_share : goal.returns-in_err-write_share
returns-in_err-write_share g c =
    let part1 = codes "<g><title>" in
    let part2 = words_text (share_words c.args.share.worker (codes " sent ") c.args.share.words) in
    let part3 = codes "</title>\n" in
    let part4 = shape_text (Drawn (Rectangle c.args.x (214 - c.args.height) 12 c.args.height) sent_paint) in
    let part5 = codes "</g>\n" in
    let after1 = goes_on _ _ _ _ _ part1 (part2 ++ (part3 ++ (part4 ++ part5))) (starts _ _) refl c.in_ok-open_titled.ensures.written in
    record {
      written = breaks_off _ _ _ _ _ part2 (part3 ++ (part4 ++ part5)) c.from_residual-in_err-write_share.result _
          c.from_residual-in_err-write_share.ensures.1 after1 refl c.in_err-write_share.ensures.written;
    }

pub returns-in_err-write_title_end : goal.returns-in_err-write_title_end
returns-in_err-write_title_end g c =
    let part1 = codes "<g><title>" in
    let part2 = words_text (share_words c.args.share.worker (codes " sent ") c.args.share.words) in
    let part3 = codes "</title>\n" in
    let part4 = shape_text (Drawn (Rectangle c.args.x (214 - c.args.height) 12 c.args.height) sent_paint) in
    let part5 = codes "</g>\n" in
    let after1 = goes_on _ _ _ _ _ part1 (part2 ++ (part3 ++ (part4 ++ part5))) (starts _ _) refl c.in_ok-open_titled.ensures.written in
    let after2 = goes_on _ _ _ _ _ part2 (part3 ++ (part4 ++ part5)) after1 refl c.in_ok-write_share.ensures.written in
    record {
      written = breaks_off _ _ _ _ _ part3 (part4 ++ part5) c.from_residual-in_err-write_title_end.result _
          c.from_residual-in_err-write_title_end.ensures.1 after2 refl c.in_err-write_title_end.ensures.written;
    }

pub returns-in_err-write_as_sent : goal.returns-in_err-write_as_sent
returns-in_err-write_as_sent g c =
    let part1 = codes "<g><title>" in
    let part2 = words_text (share_words c.args.share.worker (codes " sent ") c.args.share.words) in
    let part3 = codes "</title>\n" in
    let part4 = shape_text (Drawn (Rectangle c.args.x (214 - c.args.height) 12 c.args.height) sent_paint) in
    let part5 = codes "</g>\n" in
    let after1 = goes_on _ _ _ _ _ part1 (part2 ++ (part3 ++ (part4 ++ part5))) (starts _ _) refl c.in_ok-open_titled.ensures.written in
    let after2 = goes_on _ _ _ _ _ part2 (part3 ++ (part4 ++ part5)) after1 refl c.in_ok-write_share.ensures.written in
    let after3 = goes_on _ _ _ _ _ part3 (part4 ++ part5) after2 refl c.in_ok-write_title_end.ensures.written in
    record {
      written = breaks_off _ _ _ _ _ (shape_text (Drawn c.bar_at.result sent_paint)) part5 c.from_residual-in_err-write_as_sent.result _
          c.from_residual-in_err-write_as_sent.ensures.1 after3 (λ i. shape_text (Drawn (sym c.bar_at.ensures i) sent_paint) ++ part5)
          c.in_err-write_as_sent.ensures.written;
    }

pub returns : goal.returns
returns g c =
    let part1 = codes "<g><title>" in
    let part2 = words_text (share_words c.args.share.worker (codes " sent ") c.args.share.words) in
    let part3 = codes "</title>\n" in
    let part4 = shape_text (Drawn (Rectangle c.args.x (214 - c.args.height) 12 c.args.height) sent_paint) in
    let part5 = codes "</g>\n" in
    let after1 = goes_on _ _ _ _ _ part1 (part2 ++ (part3 ++ (part4 ++ part5))) (starts _ _) refl c.in_ok-open_titled.ensures.written in
    let after2 = goes_on _ _ _ _ _ part2 (part3 ++ (part4 ++ part5)) after1 refl c.in_ok-write_share.ensures.written in
    let after3 = goes_on _ _ _ _ _ part3 (part4 ++ part5) after2 refl c.in_ok-write_title_end.ensures.written in
    let after4 = goes_on _ _ _ _ _ (shape_text (Drawn c.bar_at.result sent_paint)) part5 after3 (λ i. shape_text (Drawn (sym
    c.bar_at.ensures i) sent_paint) ++ part5) c.in_ok-write_as_sent.ensures.written in
    record {
      written = closes _ _ _ _ _ c.close_titled.result after4 c.close_titled.ensures.written;
    }
