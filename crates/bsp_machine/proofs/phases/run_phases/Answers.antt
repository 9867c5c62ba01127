use Rattle.std.proofs.Common.{suc, get_or, sym, ◌∙◌, arith}
use Rattle.std.proofs.lemmas.Option.{slice_get-get_or}
use Rattle.bsp_machine.proofs.LeftLemmas.{all_go_on, still_on}
use Rattle.bsp_machine.proofs.phases.run_phases.Goals as goal

pub phase-requires-clause-going : goal.phase-requires-clause-going
phase-requires-clause-going g c =
    let m = g.M.AddressMap.shape c.args.map.now in
    let xs = c.phases.workers in
    let i = c.phases.invariant in
    let some = c.requires.runnable.map.lawful.one in
    let many = i.long in
    let first = get_or xs 0 c.index-workers-0.result in
    all_go_on c.args.code.now m c.args.bound c.requires.runnable.map c.requires.opened.input xs many
    (i.running c.requires.opened.input c.requires.opened.running) first
    (slice_get-get_or xs 0 c.index-workers-0.result (omega (arith, some, many))) (sym c.is_over.ensures ∙ c.phases-test.true)

pub phases-preserved : goal.phases-preserved
phases-preserved g c =
    let code = c.args.code.now in
    let m = g.M.AddressMap.shape c.args.map.now in
    let bound = c.args.bound in
    let xs = c.phases.workers in
    let i = c.phases.invariant in
    let e = c.phase.ensures in
    let some = c.requires.runnable.map.lawful.one in
    let many = i.long in
    let first = get_or xs 0 c.index-workers-0.result in
    let here = slice_get-get_or xs 0 c.index-workers-0.result (omega (arith, some, many)) in
    record {
      long = e.workers;
      rows = e.rows;
      running = λ input began.
          let run = i.running input began in
          record {
            exchanges = suc run.exchanges;
            behind = e.behind input run.exchanges run.behind;
            together = e.together input run.exchanges run.behind;
            before = still_on code m bound c.requires.runnable.map input xs many run first here (sym c.is_over.ensures
                ∙ c.phases-test.true);
          };
      given = λ reserve was.
          let input = c.requires.opened.input in
          let run = i.running input c.requires.opened.running in
          e.given reserve input run.exchanges run.behind (λ w x at. (i.given reserve was w x at).given);
      kept = λ kept was. e.kept kept (i.kept kept was);
    }
