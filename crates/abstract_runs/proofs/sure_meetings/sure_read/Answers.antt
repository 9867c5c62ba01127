use Rattle.std.proofs.Common.{arith, tests, refl, sym, ◌∙◌}
use Rattle.abstract_runs.proofs.sure_meetings.sure_read.Goals as goal

pub returns : goal.returns
returns c =
    let taken = c.if-not-row.false in
    let alike = c.if-reach.false in
    record {
      sure = grind (arith, tests, taken);
      reach = c.in-Some.reach;
      is = sym c.reach_at.ensures ∙ c.in-Some.is;
      least = refl;
      most = grind (arith, tests, alike);
    }
