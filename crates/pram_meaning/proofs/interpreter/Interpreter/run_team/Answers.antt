use Rattle.std.proofs.lemmas.Result.{err_from_is_err_and}
use Rattle.pram_meaning.specs.Moments.{inner_list_moments}
use Rattle.pram_meaning.specs.Runs.{state_of}
use Rattle.pram_meaning.specs.Store.{numbers, with_team}
use Rattle.pram_meaning.proofs.Telling.{part_none}
use Rattle.pram_meaning.proofs.interpreter.Interpreter.run_team.Goals as goal

pub returns-in_err-team-clause-heard : goal.returns-in_err-team-clause-heard
returns-in_err-team-clause-heard g c =
    let r = c.from_residual in
    let p = err_from_is_err_and r.result r.ensures.1 in
    rw (p.1, p.2)
    (part_none g.H.Listener.hears g.H.Listener.gives_up g.met.H.Listener.hears_nothing c.args.listener.now
    (inner_list_moments c.args.self.now.program.now c.args.self.now.bound c.args.body.now.items (numbers 0 c.args.count)
    (with_team c.args.low c.args.count c.args.locals (state_of c.args.run.now))))

pub returns-in_err-active-clause-heard : goal.returns-in_err-active-clause-heard
returns-in_err-active-clause-heard g c =
    let r = c.from_residual-in_err-active in
    let p = err_from_is_err_and r.result r.ensures.1 in
    rw (p.1, p.2)
    (part_none g.H.Listener.hears g.H.Listener.gives_up g.met.H.Listener.hears_nothing c.args.listener.now
    (inner_list_moments c.args.self.now.program.now c.args.self.now.bound c.args.body.now.items (numbers 0 c.args.count)
    (with_team c.args.low c.args.count c.args.locals (state_of c.args.run.now))))
