use Rattle.std.proofs.Common.{◌≤◌, arith, length}
use Rattle.text_out.proofs.Writing.{writes_stopped}
use Rattle.text_out.proofs.Progress.{closes, stops}
use Rattle.step_text.proofs.OwnTexts.{owner_written, owners_at, owners_end}
use Rattle.step_text.proofs.own_locals.write_owners.Goals as goal

-- the writer stopped within one processor
pub returns-in_err-write_if_first : goal.returns-in_err-write_if_first
returns-in_err-write_if_first g c =
    let at = owners_at c.args.tree.now c.args.at c.args.locals.now c.loop-own.own-index c.loop-own.count c.own-item.result
    c.loop-own-test.true c.own-item.is in
    record {
      written = writes_stopped _ _ _ c.from_residual.result _ c.from_residual.ensures.1
          (stops _ _ _ _ _ _ _ c.loop-own.invariant.progress at c.in_err-write_if_first.ensures.written);
    }

pub loop-own-preserved : goal.loop-own-preserved
loop-own-preserved g c =
    owner_written _ _ _ _ c.args.tree.now c.args.at c.args.locals.now c.loop-own.own-index c.loop-own.count c.with_owner-count.result
    c.own-item.result c.loop-own.invariant c.loop-own-test.true c.own-item.is c.in_ok-write_if_first.ensures.written
    c.with_owner-count.ensures

-- how many more there are, behind the last
pub returns : goal.returns
returns g c =
    let over : length c.args.locals.now ≤ c.loop-own.own-index = (let stop = c.loop-own-test.false in omega (arith, stop)) in
    let more = owners_end _ _ _ c.args.tree.now c.args.at c.args.locals.now c.loop-own.own-index c.loop-own.count c.loop-own.invariant
    over in
    record { written = closes _ _ _ _ _ c.write_more.result more c.write_more.ensures.written }
