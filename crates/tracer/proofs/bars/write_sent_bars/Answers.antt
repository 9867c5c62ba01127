use Rattle.std.proofs.Common.{ap, ◌<◌, length, arith}
use Rattle.text_out.proofs.Writing.{writes_stopped}
use Rattle.text_out.proofs.Progress.{goes_on, stops}
use Rattle.exchange_counts.specs.CountedExchanges.{exchange_at}
use Rattle.svg_texts.specs.Shapes.{shape_text}
use Rattle.tracer.proofs.BarTexts.{sent_at, sent_fits}
use Rattle.tracer.proofs.bars.write_sent_bars.Goals as goal

pub write_sent_bar-requires : goal.write_sent_bar-requires
write_sent_bar-requires g c =
    let e = exchange_at c.args.counts.now c.args.k in
    let as_many = c.workers-workers.ensures.sent c.args.k c.requires.first c.requires.last in
    let test = c.workers-test.true in
    let below : c.workers.w < length e.sent = omega (arith, as_many, test) in
    record { words = sent_fits e c.workers.w c.sent.result c.args.scale.most below c.sent.ensures c.requires.most }

-- the writer stopped within one bar
pub returns-in_err-write_sent_bar : goal.returns-in_err-write_sent_bar
returns-in_err-write_sent_bar g c =
    let e = exchange_at c.args.counts.now c.args.k in
    let as_many = c.workers-workers.ensures.sent c.args.k c.requires.first c.requires.last in
    let test = c.workers-test.true in
    let below : c.workers.w < length e.sent = omega (arith, as_many, test) in
    record {
      written = writes_stopped _ _ _ c.from_residual.result _ c.from_residual.ensures.1
          (stops _ _ _ _ _ _ _ c.workers.invariant.progress (ap shape_text (sent_at c.args.scale.most c.args.scale.x c.workers.w e.sent
          c.sent.result below
          c.sent.ensures))
          c.in_err-write_sent_bar.ensures.written);
    }

pub workers-preserved : goal.workers-preserved
workers-preserved g c =
    let e = exchange_at c.args.counts.now c.args.k in
    let as_many = c.workers-workers.ensures.sent c.args.k c.requires.first c.requires.last in
    let test = c.workers-test.true in
    let below : c.workers.w < length e.sent = omega (arith, as_many, test) in
    record {
      progress = goes_on _ _ _ _ _ _ _ c.workers.invariant.progress
          (ap shape_text (sent_at c.args.scale.most c.args.scale.x c.workers.w e.sent c.sent.result below c.sent.ensures))
          c.in_ok-write_sent_bar.ensures.written;
    }
