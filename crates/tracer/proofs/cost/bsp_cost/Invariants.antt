use Rattle.std.proofs.Common.{◌≡◌, ◌+◌, ◌<◌, ◌^◌, drop}
use Rattle.tracer.specs.Cost.{bsp_cost}
use Rattle.tracer.proofs.cost.bsp_cost.Given as goal

abbrev pub invariant-exchanges : goal.invariant-exchanges
invariant-exchanges l = record {
  all : l.sum + bsp_cost l.rates.word l.rates.start (drop l.i l.counts) ≡ bsp_cost l.rates.word l.rates.start l.counts;
  small : l.sum < 2 ^ 128;
}
