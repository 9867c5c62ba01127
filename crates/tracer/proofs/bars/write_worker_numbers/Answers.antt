use Rattle.std.proofs.Common.{ap}
use Rattle.text_out.proofs.Writing.{writes_stopped}
use Rattle.text_out.proofs.Progress.{goes_on, stops}
use Rattle.svg_texts.specs.Shapes.{shape_text}
use Rattle.tracer.proofs.BarTexts.{number_at}
use Rattle.tracer.proofs.bars.write_worker_numbers.Goals as goal

pub returns-in_err-write_worker_number : goal.returns-in_err-write_worker_number
returns-in_err-write_worker_number g c =
    let at = ap shape_text (number_at c.args.x c.workers.w c.args.workers c.workers-test.true) in
    record {
      written = writes_stopped _ _ _ c.from_residual.result _ c.from_residual.ensures.1
          (stops _ _ _ _ _ _ _ c.workers.invariant.progress at c.in_err-write_worker_number.ensures.written);
    }

pub workers-preserved : goal.workers-preserved
workers-preserved g c =
    let at = ap shape_text (number_at c.args.x c.workers.w c.args.workers c.workers-test.true) in
    record {
      progress = goes_on _ _ _ _ _ _ _ c.workers.invariant.progress at c.in_ok-write_worker_number.ensures.written;
    }
