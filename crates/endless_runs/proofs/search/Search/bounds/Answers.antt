use Rattle.std.proofs.Common.{rules, ◌≡◌, of_z, to_z, w64, ℤ}
use Rattle.pram_meaning.specs.Runs.{state_of}
use Rattle.endless_runs.proofs.ForWalk.{ran_bounds}
use Rattle.endless_runs.proofs.search.Search.bounds.Goals as goal

pub returns-clause-bounds : goal.returns-clause-bounds
returns-clause-bounds c =
    let a : ℤ = c.in_ok-next.next in
    let b : ℤ = c.in_ok-next.last in
    let first : to_z w64 (of_z w64 a) ≡ a = search rules in
    let end : to_z w64 (of_z w64 b) ≡ b = search rules in
    rw (first, end)
    ((ran_bounds c.args.self.now.interpreter.program.now c.args.self.now.interpreter.bound c.args.location.line c.args.low.now
    c.args.high.now
    (state_of c.args.run.now) (state_of c.run_bounds.new.run) (a, b) c.requires.within c.in_ok-next.ensures.value).0)
