use Rattle.std.proofs.Common.{arith, tests, refl}
use Rattle.abstract_runs.proofs.sure_faults.sure_write.Goals as goal

pub returns : goal.returns
returns c =
    let taken = c.if-not-row.false in
    let alike = c.if-reach.false in
    record {
      sure = grind (arith, tests, taken);
      effect = c.in-Some.effect;
      is = c.in-Some.is;
      value = refl;
      reach = c.in-Some-reach.reach;
      goes = c.in-Some-reach.is;
      least = refl;
      most = grind (arith, tests, alike);
    }
