use Rattle.std.proofs.Common.{subst}
use Rattle.pram_meaning.specs.Meaning.{MeansList}
use Rattle.pram_meaning.specs.Runs.{state_of}
use Rattle.pram_meaning.specs.Store.{State}
use Rattle.pram_meaning.proofs.References.{opens}
use Rattle.endless_runs.specs.Endless.{IsEndless}
use Rattle.endless_runs.specs.Search.{of_list}
use Rattle.endless_runs.proofs.Never.{endless_by, never_ends}
use Rattle.endless_runs.proofs.endless.find_cycle.Goals as goal

pub returns-in-Err-Cycle-clause-never : goal.returns-in-Err-Cycle-clause-never
returns-in-Err-Cycle-clause-never g c cycle is =
    let p = c.args.program.now in
    let e = c.in-Ok.ensures in
    let why = c.in-Err-Cycle in
    never_ends p c.args.input.now (subst (λ (m : State). IsEndless (MeansList p p.body m))
    (opens p c.args.input.now c.in-Ok.run' e.count e.output e.uniforms e.cells)
    (endless_by (of_list p p.body (state_of c.in-Ok.run')) (state_of c.search_body.new.run) why.field-0 why.cycle why.field-0-is
    why.ensures.known).0)
