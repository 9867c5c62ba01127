use Rattle.std.proofs.Common.{rules, ◌≡◌, ℕ, ℤ, of_z, subst, to_z, w64}
use Rattle.std.proofs.lemmas.Result.{err_from_is_err_and}
use Rattle.pram_meaning.specs.Attempt.{attempt_range}
use Rattle.pram_meaning.specs.Bounded.{evaluated}
use Rattle.pram_meaning.specs.Listening.{HasHeard}
use Rattle.pram_meaning.specs.Moments.{inner_list_moments, range_moment}
use Rattle.pram_meaning.specs.Runs.{state_of}
use Rattle.pram_meaning.specs.Store.{numbers, seen, with_team}
use Rattle.pram_meaning.proofs.Telling.{first_goes, first_halts}
use Rattle.pram_meaning.proofs.interpreter.Interpreter.run_pardo.Goals as goal

pub returns-in_err-first-clause-heard : goal.returns-in_err-first-clause-heard
returns-in_err-first-clause-heard g c =
    let r = c.from_residual in
    let p = err_from_is_err_and r.result r.ensures.1 in
    let w = c.args.self.now.program.now in
    let n = c.args.self.now.bound in
    let m = state_of c.args.run.now in
    rw (p.1, p.2)
    (first_halts g.H.Listener.hears g.H.Listener.gives_up {A = ℤ × ℕ} (Unit {0}) c.args.listener.now c.run_range.new.listener
    (range_moment w n c.args.location c.args.low.now c.args.high.now m)
    (evaluated n c.args.location.line (λ m. attempt_range w.procs (seen w m) c.args.low.now c.args.high.now) m)
    (λ r m. inner_list_moments w n c.args.body.now.items (numbers 0 r.1) (with_team r.0 r.1 c.args.locals m))
    _ (state_of c.run_range.new.run) c.in_err-first.ensures.value c.in_err-first.ensures.heard)

pub returns-clause-heard : goal.returns-clause-heard
returns-clause-heard g c =
    let w = c.args.self.now.program.now in
    let n = c.args.self.now.bound in
    let m = state_of c.args.run.now in
    let same : to_z w64 (of_z w64 c.in_ok-first.first) ≡ c.in_ok-first.first = search rules in
    let P : ℤ → Type 0 = λ low. HasHeard c.run_team.result g.H.Listener.hears g.H.Listener.gives_up c.run_range.new.listener
    (inner_list_moments w n c.args.body.now.items (numbers 0 c.in_ok-first.count)
    (with_team low c.in_ok-first.count c.args.locals (state_of c.run_range.new.run))) c.run_team.new.listener in
    first_goes g.H.Listener.hears g.H.Listener.gives_up g.met.H.Listener.hears_on {A = ℤ × ℕ} {B = Unit {0}} c.args.listener.now
    c.run_range.new.listener c.run_team.new.listener (range_moment w n c.args.location c.args.low.now c.args.high.now m)
    (evaluated n c.args.location.line (λ m. attempt_range w.procs (seen w m) c.args.low.now c.args.high.now) m)
    (λ r m. inner_list_moments w n c.args.body.now.items (numbers 0 r.1) (with_team r.0 r.1 c.args.locals m))
    (c.in_ok-first.first, c.in_ok-first.count) (state_of c.run_range.new.run) c.run_team.result c.in_ok-first.ensures.value
    c.in_ok-first.ensures.heard (subst P same c.run_team.ensures.heard)
