use Rattle.std.proofs.Common.{◌++◌, sym}
use Rattle.exchange_counts.specs.CountedExchanges.{exchange_at}
use Rattle.tracer.specs.Traced.{ending_text, words_text}
use Rattle.text_out.proofs.Progress.{breaks_off, closes, goes_on, starts}
use Rattle.tracer.proofs.exchange_line.write_rest.Goals as goal

pub returns-in_err-write_words : goal.returns-in_err-write_words
returns-in_err-write_words g c =
    let part1 = words_text (exchange_at c.args.counts.now c.args.k) in
    let part2 = ending_text c.args.h c.args.line in
    record {
      written = breaks_off _ _ _ _ _ part1 part2 c.from_residual.result _ c.from_residual.ensures.1 (starts _ _)
          (λ i. words_text (exchange_at c.args.counts.now c.args.k) ++ ending_text (sym c.requires.relation i) c.args.line)
          c.in_err-write_words.ensures.written;
    }

pub returns : goal.returns
returns g c =
    let part1 = words_text (exchange_at c.args.counts.now c.args.k) in
    let part2 = ending_text c.args.h c.args.line in
    let after1 = goes_on _ _ _ _ _ part1 part2 (starts _ _) (λ i. words_text (exchange_at c.args.counts.now c.args.k) ++ ending_text
    (sym c.requires.relation i) c.args.line) c.in_ok-write_words.ensures.written in
    record {
      written = closes _ _ _ _ _ c.write_ending.result after1 c.write_ending.ensures.written;
    }
