use Rattle.std.proofs.Common.{codes, refl}
use Rattle.text_out.proofs.Progress.{breaks_off, closes, goes_on, starts}
use Rattle.costs.specs.CostText.{fact, words_line}
use Rattle.costs.proofs.cost_text.write_most.Goals as goal

pub returns-in_err-write_exchanges : goal.returns-in_err-write_exchanges
returns-in_err-write_exchanges g c =
    let front = fact (codes "exchanges at most ") c.args.cost.now.most_exchanges in
    let rest = words_line c.args.cost.now.most_words in
    record {
      written = breaks_off _ _ _ _ _ front rest c.from_residual.result _ c.from_residual.ensures.1 (starts _ _) refl
          c.in_err-write_exchanges.ensures.written;
    }

pub returns : goal.returns
returns g c =
    let front = fact (codes "exchanges at most ") c.args.cost.now.most_exchanges in
    let rest = words_line c.args.cost.now.most_words in
    record {
      written = closes _ _ _ _ _ c.write_words.result
          (goes_on _ _ _ _ _ front rest (starts _ _) refl c.in_ok-write_exchanges.ensures.written)
          c.write_words.ensures.written;
    }
