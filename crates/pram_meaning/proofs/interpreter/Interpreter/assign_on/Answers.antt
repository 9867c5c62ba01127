use Rattle.std.proofs.lemmas.Result.{err_from_is_err_and}
use Rattle.pram_meaning.specs.Moments.{set_assign_moment}
use Rattle.pram_meaning.specs.Sets.{state_in}
use Rattle.pram_meaning.proofs.Telling.{part_all}
use Rattle.pram_meaning.proofs.interpreter.Interpreter.assign_on.Goals as goal

pub returns-in_err-settle_on-clause-heard : goal.returns-in_err-settle_on-clause-heard
returns-in_err-settle_on-clause-heard g c =
    let r = c.from_residual-in_err-settle_on in
    let p = err_from_is_err_and r.result r.ensures.1 in
    rw (p.1, p.2)
    (part_all g.H.Listener.hears g.H.Listener.gives_up c.args.listener.now c.attempt_on.new.listener
    (set_assign_moment c.args.self.now.program.now c.args.self.now.bound c.args.location c.args.target.now c.args.e.now
    c.args.active.now.items (state_in c.args.run.now c.args.team.now.items)) c.in_ok-all.ensures.heard)
