use Rattle.std.proofs.Common.{◌∙◌, arith}
use Rattle.std.proofs.lemmas.List.{length-set}
use Rattle.worker_bank.proofs.Splits.{dropped_too}
use Rattle.worker_bank.proofs.level.drop_all.Goals as goal

pub places-preserved : goal.places-preserved
places-preserved c =
    let from = c.places.auto.k in
    let below = c.places-test.true in
    let all = c.requires.to in
    let few = c.places.invariant.split.dropped in
    let same = c.places.invariant.left_room in
    let room = c.requires.left in
    let k = c.places.k in
    record {
      split =
          dropped_too c.args.list.now c.args.column.now k c.args.active.now c.places.left (c.args.counts.0, c.places.dropped)
          c.places.invariant.split (omega (arith, below, all)) (omega (arith, few, below, all, same, room))
          (c.requires.none k (omega (arith, from)) (omega (arith, below)));
      left_room = length-set c.places.left c.places.dropped _ ∙ same;
    }
