use Rattle.std.proofs.Common.{◌≤◌, length, arith}
use Rattle.tracer.proofs.CostSums.{all_summed}
use Rattle.tracer.proofs.cost.bsp_cost.Goals as goal

pub returns : goal.returns
returns c =
    let test = c.exchanges-test.false in
    let long = c.len-i-end.ensures in
    let end : length c.args.counts.now ≤ c.exchanges.i = omega (arith, test, long) in
    record {
      cost = all_summed c.args.rates.word c.args.rates.start c.exchanges.sum c.exchanges.i c.args.counts.now end c.exchanges.invariant.all
          c.exchanges.invariant.small;
    }
