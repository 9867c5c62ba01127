use Rattle.std.proofs.Common.{◌<◌, length, ap, ◌∙◌, arith}
use Rattle.std.specs.Prelude.{decimal}
use Rattle.text_out.proofs.Writing.{writes_stopped}
use Rattle.text_out.proofs.Progress.{goes_on, stops}
use Rattle.exchange_counts.specs.CountedExchanges.{exchange_at}
use Rattle.tracer.proofs.TraceLemmas.{numbers_at}
use Rattle.tracer.proofs.exchange_line.write_sent.Goals as goal

-- the writer stopped within one number
pub returns-in_err-write_parts : goal.returns-in_err-write_parts
returns-in_err-write_parts g c =
    let e = exchange_at c.args.counts.now c.args.k in
    let as_many = c.workers-workers.ensures.sent c.args.k c.requires.first c.requires.last in
    let test = c.workers-test.true in
    let below : c.workers.w < length e.sent = omega (arith, as_many, test) in
    let digits = c.as_bytes.ensures.value ∙ c.format.ensures.text ∙ ap decimal c.sent.ensures in
    let at = numbers_at e.sent c.workers.w c.as_bytes.result.now below digits in
    record {
      written = writes_stopped _ _ _ c.from_residual.result _ c.from_residual.ensures.1
          (stops _ _ _ _ _ _ _ c.workers.invariant.progress at c.in_err-write_parts.ensures.written);
    }

pub workers-preserved : goal.workers-preserved
workers-preserved g c =
    let e = exchange_at c.args.counts.now c.args.k in
    let as_many = c.workers-workers.ensures.sent c.args.k c.requires.first c.requires.last in
    let test = c.workers-test.true in
    let below : c.workers.w < length e.sent = omega (arith, as_many, test) in
    let digits = c.as_bytes.ensures.value ∙ c.format.ensures.text ∙ ap decimal c.sent.ensures in
    let at = numbers_at e.sent c.workers.w c.as_bytes.result.now below digits in
    record { progress = goes_on _ _ _ _ _ _ _ c.workers.invariant.progress at c.in_ok-write_parts.ensures.written }
