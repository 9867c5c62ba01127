use Rattle.std.proofs.Common.{pos, refl}
use Rattle.abstract_runs.proofs.SureSums.{adds_either, value_of_write}
use Rattle.abstract_runs.proofs.sure_sums.added_to.Goals as goal

pub returns : goal.returns
returns c =
    let row = c.args.row.now in
    adds_either c.args.c row c.join.result (c.join.ensures.right (pos 0) ((c.point-nothing.ensures.member (pos 0)).1 refl))
    (λ w one. c.join.ensures.left w.value
    (value_of_write c.args.c row.effect c.in-Some.effect c.in-Some-reach.reach w c.in-Some.is c.in-Some-reach.is one))
