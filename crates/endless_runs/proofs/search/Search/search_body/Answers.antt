use Rattle.pram_meaning.specs.Runs.{state_of}
use Rattle.endless_runs.proofs.Walk.{block_goes}
use Rattle.endless_runs.proofs.search.Search.search_body.Goals as goal

pub loop-s-preserved : goal.loop-s-preserved
loop-s-preserved g c =
    let i = c.loop-s.invariant in (
      block_goes c.args.self.now.interpreter.program.now c.body-s-items.result.now c.loop-s.s-index _ (state_of c.args.run.now)
          (state_of c.loop-s.run) (state_of c.search_statement.new.run) i.0 c.loop-s-test.true c.s-item.is c.in_default.ensures.known,
      c.in_default.ensures.within,
      i.2,
    )
