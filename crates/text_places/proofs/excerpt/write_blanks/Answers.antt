use Rattle.text_out.proofs.Writing.{writes_stopped}
use Rattle.text_out.proofs.Progress.{goes_on, stops}
use Rattle.text_places.specs.Excerpts.{blank_byte}
use Rattle.text_places.proofs.Pieces.{mapped_at}
use Rattle.text_places.proofs.excerpt.write_blanks.Goals as goal

pub returns-in_err-write_all : goal.returns-in_err-write_all
returns-in_err-write_all g c =
    let at = mapped_at blank_byte c.args.bytes.now c.loop-byte.byte-index c.blank_byte.result c.loop-byte-test.true c.blank_byte.ensures in
    record {
      written = writes_stopped _ _ _ c.from_residual.result _ c.from_residual.ensures.1
          (stops _ _ _ _ _ _ _ c.loop-byte.invariant at c.in_err-write_all.ensures.written);
    }

pub loop-byte-preserved : goal.loop-byte-preserved
loop-byte-preserved g c =
    let at = mapped_at blank_byte c.args.bytes.now c.loop-byte.byte-index c.blank_byte.result c.loop-byte-test.true c.blank_byte.ensures in
    goes_on _ _ _ _ _ _ _ c.loop-byte.invariant at c.in_ok-write_all.ensures.written
