use Rattle.std.proofs.Common.{rules, ◌≡◌, ◌∙◌, ap, of_z, slice_set, to_z, w64, ℤ}
use Rattle.pram_meaning.specs.Runs.{state_of}
use Rattle.endless_runs.proofs.ForWalk.{ran_one, with_variable}
use Rattle.endless_runs.proofs.search.Search.set_next.Goals as goal

pub returns-clause-set : goal.returns-clause-set
returns-clause-set c =
    let v : ℤ = c.args.numbers.now.next in
    let same : to_z w64 (of_z w64 v) ≡ v = search rules in (
      state_of c.begin.new.run,
      (ran_one c.args.self.now.interpreter.bound (state_of c.args.run.now) (state_of c.begin.new.run) c.requires.within
          c.in_ok-begin.ensures.counts).0,
      with_variable (state_of c.begin.new.run) c.args.variable v c.set_number.new.items.items
          (c.set_number.ensures ∙ ap (slice_set c.begin.new.run.uniforms.items c.args.variable) same),
    )
