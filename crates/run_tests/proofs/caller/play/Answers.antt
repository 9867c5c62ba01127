use Rattle.std.proofs.Common.{[], sym, ◌∙◌, subst}
use Rattle.superstep_machine.specs.Run.{opening, setting}
use Rattle.bsp_machine.specs.Workers.{IsBetween}
use Rattle.workers.specs.Worked.{HasWorked}
use Rattle.run_tests.proofs.caller.play.Goals as goal

pub work-requires-clause-somewhere : goal.work-requires-clause-somewhere
work-requires-clause-somewhere g c =
    let code = c.args.code.now in
    let m = g.M.AddressMap.shape c.args.map.now in
    let bound = c.args.bound in
    record {
      states = λ n. opening (setting code m bound n) c.args.input.now c.args.at;
      told = λ n. [];
      between = subst
          (λ w. IsBetween code m bound (λ n. opening (setting code m bound n) c.args.input.now c.args.at) (λ n. []) w c.args.worker)
          (sym c.requires.seat.order) (c.requires.opens.between bound);
    }

pub returns : goal.returns
returns g c =
    let code = c.args.code.now in
    let m = g.M.AddressMap.shape c.args.map.now in
    let bound = c.args.bound in
    let e = c.work.ensures in
    let between = subst
    (λ w. IsBetween code m bound (λ n. opening (setting code m bound n) c.args.input.now c.args.at) (λ n. []) w c.args.worker)
    (sym c.requires.seat.order) (c.requires.opens.between bound) in
    record {
      own = e.owner.table ∙ c.requires.seat.own;
      order = e.owner.worker ∙ c.requires.seat.order;
      ended = record {
        workers = e.owner.workers ∙ c.requires.seat.fresh.workers ∙ c.requires.workers;
        worked = subst (λ w. HasWorked code m bound (λ n. opening (setting code m bound n) c.args.input.now c.args.at) (λ n. []) w
            c.work.result.0 c.work.result.1) c.requires.seat.order
            (e.worked (λ n. opening (setting code m bound n) c.args.input.now c.args.at) (λ n. []) between);
        over = e.over;
      };
    }
