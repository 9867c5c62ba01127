use Rattle.std.proofs.Common.{rules, ◌≡◌, ◌∙◌, [], Err, Result, ap, refl, subst}
use Rattle.pram_meaning.specs.Bounded.{perform_list}
use Rattle.pram_meaning.specs.Listening.{HasHeard, HasHeardPart, HeardFirst}
use Rattle.pram_meaning.specs.Moments.{list_moments, run_moments}
use Rattle.pram_meaning.specs.Runs.{IsBehaviour, state_of}
use Rattle.pram_meaning.specs.declared.run.Halt.{Halt}
use Rattle.pram_meaning.specs.declared.run.Halt.TheVariants as halt
use Rattle.pram_meaning.proofs.References.{ended, opens, reached, stopped}
use Rattle.pram_meaning.proofs.observation.observe.Goals as goal

-- memory was refused before the first statement
pub returns-in_default-clause-part : goal.returns-in_default-clause-part
returns-in_default-clause-part g c refused =
    HeardFirst [] (run_moments c.args.program.now c.args.input.now c.args.bound) refl (g.met.L.Listener.hears_nothing c.args.listener.now)

pub returns-in-Ok-run_body-clause-outcome : goal.returns-in-Ok-run_body-clause-outcome
returns-in-Ok-run_body-clause-outcome g c =
    let e = c.in-Ok.ensures in
    ended c.args.program.now c.args.input.now c.args.bound c.in-Ok.run' (state_of c.run_body.new.run) e.count e.output e.uniforms e.cells
    c.in-Ok-run_body.ensures.value

pub returns-in-Err-Fault-clause-outcome : goal.returns-in-Err-Fault-clause-outcome
returns-in-Err-Fault-clause-outcome g c =
    let e = c.in-Ok.ensures in
    let p = c.args.program.now in
    let f : c.in-Err-Fault.field-0 ≡ halt.Fault c.in-Err-Fault.fault = search (rules, c.in-Err-Fault.field-0-is) in
    let value = subst (λ (r : Result (Unit {0}) Halt). IsBehaviour r (state_of c.run_body.new.run)
    (perform_list p c.args.bound p.body (state_of c.in-Ok.run'))) (c.in-Err-Fault.is ∙ ap Err f) c.run_body.ensures.value in
    stopped p c.args.input.now c.args.bound c.in-Ok.run' c.in-Err-Fault.fault c.run_body.new.run.output.items e.count e.output e.uniforms
    e.cells value

pub returns-in-Err-Bound-clause-outcome : goal.returns-in-Err-Bound-clause-outcome
returns-in-Err-Bound-clause-outcome g c =
    let e = c.in-Ok.ensures in
    let p = c.args.program.now in
    let f : c.in-Err-Bound.field-0 ≡ halt.Bound = search (rules, c.in-Err-Bound.field-0-is) in
    let value = subst (λ (r : Result (Unit {0}) Halt). IsBehaviour r (state_of c.run_body.new.run)
    (perform_list p c.args.bound p.body (state_of c.in-Ok.run'))) (c.in-Err-Bound.is ∙ ap Err f) c.run_body.ensures.value in
    reached p c.args.input.now c.args.bound c.in-Ok.run' c.run_body.new.run.output.items e.count e.output e.uniforms e.cells value

-- memory was refused within the run, or the listener gave up
pub returns-in-Err-OutOfMemory-clause-part : goal.returns-in-Err-OutOfMemory-clause-part
returns-in-Err-OutOfMemory-clause-part g c refused =
    let e = c.in-Ok.ensures in
    let p = c.args.program.now in
    let n = c.args.bound in
    let part = subst (λ (r : Result (Unit {0}) Halt). HasHeard r g.L.Listener.hears g.L.Listener.gives_up c.args.listener.now
    (list_moments p n p.body (state_of c.in-Ok.run')) c.run_body.new.listener)
    (c.in-Err-OutOfMemory.is ∙ ap Err c.in-Err-OutOfMemory.field-0-is) c.run_body.ensures.heard in
    subst (λ m. HasHeardPart g.L.Listener.hears g.L.Listener.gives_up c.args.listener.now (list_moments p n p.body m)
    c.run_body.new.listener) (opens p c.args.input.now c.in-Ok.run' e.count e.output e.uniforms e.cells) part
