use Rattle.text_out.proofs.Progress.{breaks_off, goes_on}
use Rattle.text_out.proofs.Writing.{joined_at}
use Rattle.text_out.proofs.writer.Out.write_parts.Goals as goal

-- the writer stopped within one text
pub returns-in_err-write_all : goal.returns-in_err-write_all
returns-in_err-write_all g c =
    let at = joined_at c.args.parts.now c.loop-part.part-index _ c.loop-part-test.true in
    record {
      written = breaks_off _ _ _ _ _ _ _ c.from_residual.result _ c.from_residual.ensures.1 c.loop-part.invariant at
          c.in_err-write_all.ensures.written;
    }

pub loop-part-preserved : goal.loop-part-preserved
loop-part-preserved g c =
    let at = joined_at c.args.parts.now c.loop-part.part-index _ c.loop-part-test.true in
    goes_on _ _ _ _ _ _ _ c.loop-part.invariant at c.in_ok-write_all.ensures.written
