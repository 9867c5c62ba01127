use Rattle.std.proofs.Common.{refl}
use Rattle.text_out.proofs.Progress.{breaks_off, closes, goes_on, starts}
use Rattle.write_rules.specs.Verdict.{verdict_of}
use Rattle.program_texts.specs.Shown.{shown}
use Rattle.command_text.specs.Costs.{costs_text}
use Rattle.command_text.proofs.writing.write_numbers_and_outcome.Goals as goal

pub returns-in_err-write_numbers : goal.returns-in_err-write_numbers
returns-in_err-write_numbers g c =
    let words = c.args.words in
    let outcome = shown c.args.layout.now (verdict_of c.args.outcome.now) in
    record {
      written = breaks_off _ _ _ _ _ (costs_text (verdict_of c.args.outcome.now) c.args.cost.now words.schedule words.lines) outcome
          c.from_residual.result _
          c.from_residual.ensures.1 (starts _ _) refl c.in_err-write_numbers.ensures.written;
    }

pub returns : goal.returns
returns g c =
    let words = c.args.words in
    let outcome = shown c.args.layout.now (verdict_of c.args.outcome.now) in
    record {
      written = closes _ _ _ _ _ c.show.result (goes_on _ _ _ _ _ (costs_text (verdict_of c.args.outcome.now) c.args.cost.now words.schedule
          words.lines)
          outcome (starts _ _) refl c.in_ok-write_numbers.ensures.written) c.show.ensures.written;
    }
