use Rattle.text_out.proofs.Writing.{writes_stopped}
use Rattle.text_out.proofs.Progress.{goes_on, stops}
use Rattle.pages.proofs.Embedding.{embedded_at}
use Rattle.pages.proofs.facts.write_lines.Goals as goal

-- the writer stopped within one byte
pub returns-in_err-write_byte : goal.returns-in_err-write_byte
returns-in_err-write_byte g c =
    let at = embedded_at c.args.facts.now c.loop-byte.byte-index 0 c.loop-byte-test.true in
    record {
      written = writes_stopped _ _ _ c.from_residual.result _ c.from_residual.ensures.1
          (stops _ _ _ _ _ _ _ c.loop-byte.invariant at c.in_err-write_byte.ensures.written);
    }

pub loop-byte-preserved : goal.loop-byte-preserved
loop-byte-preserved g c =
    goes_on _ _ _ _ _ _ _ c.loop-byte.invariant (embedded_at c.args.facts.now c.loop-byte.byte-index 0 c.loop-byte-test.true)
    c.in_ok-write_byte.ensures.written
