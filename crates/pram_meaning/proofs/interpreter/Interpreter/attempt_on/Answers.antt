use Rattle.std.proofs.Common.{Global, Vec, ap, map, rules}
use Rattle.std.proofs.lemmas.Result.{err_from_is_err_and}
use Rattle.pram_meaning.specs.declared.part as part
use Rattle.pram_meaning.specs.Attempt.{attempt_step}
use Rattle.pram_meaning.specs.Judging.{part_is}
use Rattle.pram_meaning.specs.Listening.{done_on, step_action_is}
use Rattle.pram_meaning.specs.Sets.{state_in}
use Rattle.pram_meaning.proofs.Telling.{part_none, waits}
use Rattle.pram_meaning.proofs.SetMoments.{fails_refused, goes_refused}
use Rattle.pram_meaning.proofs.interpreter.Interpreter.attempt_on.Goals as goal

pub returns-in_err-begin_on-clause-heard : goal.returns-in_err-begin_on-clause-heard
returns-in_err-begin_on-clause-heard g c =
    let r = c.from_residual in
    let p = err_from_is_err_and r.result r.ensures.1 in
    rw (p.1, p.2)
    (waits g.H.Listener.hears g.H.Listener.gives_up g.met.H.Listener.hears_nothing (Vec part.Part.Part Global) _ _ _ _ _ _
    c.in_err-begin_on.ensures.counts)

pub returns-in_default-clause-heard : goal.returns-in_default-clause-heard
returns-in_default-clause-heard g c = search (rules, part_none, g.met.H.Listener.hears_nothing)

pub returns-in_err-acts_on-in-None-clause-heard : goal.returns-in_err-acts_on-in-None-clause-heard
returns-in_err-acts_on-in-None-clause-heard g c =
    let r = c.from_residual-in_err-acts_on-in-None in
    let p = err_from_is_err_and r.result r.ensures.1 in
    let e = c.in-Some.ensures in
    let w = c.args.self.now.program.now in
    let act = step_action_is c.args.action.now in
    rw (p.1, p.2)
    (goes_refused g.H.Listener.hears g.H.Listener.gives_up g.met.H.Listener.hears_nothing w c.args.self.now.bound
    c.args.location act (done_on w act) (λ s. attempt_step s c.args.target.now c.args.e.now) c.args.active.now.items
    (state_in c.args.run.now c.args.team.now.items) (state_in c.begin_on.new.run c.args.team.now.items)
    (state_in c.judge.new.run c.args.team.now.items) (map part_is c.in-Some.all.items) (map part_is c.deref.result.now)
    c.in-Some.key c.args.listener.now c.acts_on.new.self c.in_ok-begin_on.ensures.counts e.kept e.parts e.least c.in-None.is
    (ap (map part_is) c.deref.ensures.value) c.in_err-acts_on-in-None.ensures.refused)

pub returns-in_err-fails_on-in-Some-key-clause-heard :
    goal.returns-in_err-fails_on-in-Some-key-clause-heard
returns-in_err-fails_on-in-Some-key-clause-heard g c =
    let r = c.from_residual-in_err-fails_on-in-Some-key in
    let p = err_from_is_err_and r.result r.ensures.1 in
    let e = c.in-Some.ensures in
    let w = c.args.self.now.program.now in
    let act = step_action_is c.args.action.now in
    rw (p.1, p.2)
    (fails_refused g.H.Listener.hears g.H.Listener.gives_up g.met.H.Listener.hears_nothing w c.args.self.now.bound
    c.args.location act (done_on w act) (λ s. attempt_step s c.args.target.now c.args.e.now) c.args.active.now.items
    (state_in c.args.run.now c.args.team.now.items) (state_in c.begin_on.new.run c.args.team.now.items)
    (state_in c.judge.new.run c.args.team.now.items) (map part_is c.in-Some.all.items) (map part_is c.deref-in-Some-key.result.now)
    c.in-Some.key c.in-Some-key.key c.args.listener.now c.fails_on.new.self c.in_ok-begin_on.ensures.counts e.kept e.parts e.least
    c.in-Some-key.is
    (ap (map part_is) c.deref-in-Some-key.ensures.value) c.in_err-fails_on-in-Some-key.ensures.refused)
