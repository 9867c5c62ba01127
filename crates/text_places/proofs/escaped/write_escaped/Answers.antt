use Rattle.std.proofs.Common.{◌-◌, arith, drop, refl}
use Rattle.text_out.proofs.Progress.{breaks_off, goes_on}
use Rattle.text_places.proofs.Escaping.{one_more}
use Rattle.text_places.proofs.escaped.write_escaped.Goals as goal

-- the writer stopped within one byte
pub returns-in_err-write_byte : goal.returns-in_err-write_byte
returns-in_err-write_byte g c =
    let count = c.pending-count.result in
    let rest = c.loop-rest.rest.now in
    let at = one_more c.loop-rest.left count c.first_of.result (count - 1) rest (drop 1 rest)
    (grind (arith, c.loop-rest-test.true, c.is_empty.ensures)) c.pending-count.ensures c.first_of.ensures refl refl in
    record {
      written = breaks_off _ _ _ _ _ _ _ c.from_residual.result _ c.from_residual.ensures.1 c.loop-rest.invariant at
          c.in_err-write_byte.ensures.written;
    }

pub loop-rest-preserved : goal.loop-rest-preserved
loop-rest-preserved g c =
    let count = c.pending-count.result in
    let rest = c.loop-rest.rest.now in
    let at = one_more c.loop-rest.left count c.first_of.result c.saturating_sub-left.result rest c.split_at.result.1.now
    (grind (arith, c.loop-rest-test.true, c.is_empty.ensures)) c.pending-count.ensures c.first_of.ensures
    (grind (arith, c.saturating_sub-left.ensures)) c.split_at.ensures.back in
    goes_on _ _ _ _ _ _ _ c.loop-rest.invariant at c.in_ok-write_byte.ensures.written
