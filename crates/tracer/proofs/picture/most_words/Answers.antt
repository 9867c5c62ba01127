use Rattle.std.proofs.Common.{◌<◌, length, arith}
use Rattle.tracer.specs.Picture.{drawn}
use Rattle.tracer.proofs.ColumnTexts.{most_more}
use Rattle.tracer.proofs.picture.most_words.Goals as goal

pub exchanges-preserved : goal.exchanges-preserved
exchanges-preserved c =
    let test = c.exchanges-test.true in
    let long = c.drawn-i-end.ensures.drawn in
    let below : c.exchanges.i < length (drawn c.args.counts.now) = omega (arith, test, long) in
    record {
      all = most_more c.args.counts.now c.exchanges.i c.exchanges.most c.max-most.result c.exchange-purpose.result.1 below
          c.exchanges.invariant.all
          c.exchange-purpose.ensures.relation c.max-most.ensures;
    }
