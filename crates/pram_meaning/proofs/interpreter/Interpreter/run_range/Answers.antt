use Rattle.std.proofs.Common.{rules, Err, subst, ℤ, ℕ, refl}
use Rattle.std.proofs.lemmas.Result.{err_from_is_err_and}
use Rattle.pram_meaning.specs.Attempt.{attempt_range}
use Rattle.pram_meaning.specs.Runs.{IsPair, state_of}
use Rattle.pram_meaning.specs.Store.{seen}
use Rattle.pram_meaning.proofs.AloneMoments.{fails_refused, goes_refused}
use Rattle.pram_meaning.proofs.Telling.{part_none, waits}
use Rattle.pram_meaning.proofs.interpreter.Interpreter.run_range.Goals as goal

pub returns-in_err-begin-clause-heard : goal.returns-in_err-begin-clause-heard
returns-in_err-begin-clause-heard g c =
    let r = c.from_residual in
    let p = err_from_is_err_and r.result r.ensures.1 in
    rw (p.1, p.2)
    (waits g.H.Listener.hears g.H.Listener.gives_up g.met.H.Listener.hears_nothing (ℤ × ℕ) _ _ _ _ _ _ c.in_err-begin.ensures.counts)

pub returns-in_err-acts-in-Ok-clause-heard : goal.returns-in_err-acts-in-Ok-clause-heard
returns-in_err-acts-in-Ok-clause-heard g c =
    let r = c.from_residual-in_err-acts-in-Ok in
    let p = err_from_is_err_and r.result r.ensures.1 in
    rw (p.1, p.2)
    (goes_refused g.H.Listener.hears g.H.Listener.gives_up g.met.H.Listener.hears_nothing {A = (ℤ × ℕ)} _ _ _ _ _ _ _ _ _ _ _ _ _ _
    c.in_ok-begin.ensures.counts c.in-Ok.ensures.range c.deref.ensures.value refl c.in_err-acts-in-Ok.ensures.refused)

pub returns-in_err-fails-in-Err-Fault-clause-heard :
    goal.returns-in_err-fails-in-Err-Fault-clause-heard
returns-in_err-fails-in-Err-Fault-clause-heard g c =
    let r = c.from_residual-in_err-fails-in-Err-Fault in
    let p = err_from_is_err_and r.result r.ensures.1 in
    let at = subst (λ f. IsPair (Err f) c.try_range.new.trail.items (attempt_range c.args.self.now.program.now.procs
    (seen c.args.self.now.program.now (state_of c.begin.new.run)) c.args.low.now c.args.high.now))
    c.in-Err-Fault.field-0-is c.in-Err-Fault.ensures.range in
    rw (p.1, p.2)
    (fails_refused g.H.Listener.hears g.H.Listener.gives_up g.met.H.Listener.hears_nothing {A = (ℤ × ℕ)} _ _ _ _ _ _ _ _ _ _ _ _ _
    c.in_ok-begin.ensures.counts at c.deref-in-Err-Fault.ensures.value c.in_err-fails-in-Err-Fault.ensures.refused)

pub returns-clause-heard : goal.returns-clause-heard
returns-clause-heard g c = search (rules, part_none, g.met.H.Listener.hears_nothing)
