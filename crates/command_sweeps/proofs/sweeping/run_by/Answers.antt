use Rattle.std.proofs.Common.{List, subst}
use Rattle.std.specs.Prelude.{IfOk}
use Rattle.pram_model.specs.Layout.{SharedEntry}
use Rattle.write_rules.specs.Verdict.{verdict_of}
use Rattle.command_sweeps.specs.Sweeps.{IsEndingBy}
use Rattle.command_sweeps.proofs.SweptRows.{runs_as_found}
use Rattle.command_sweeps.proofs.sweeping.run_by.Goals as goal

pub returns-in-Ok-clause-out : goal.returns-in-Ok-clause-out
returns-in-Ok-clause-out g c =
    let run = c.in-Ok.run' in
    let ends = subst (λ (l : List SharedEntry). IfOk c.ending_by.result (IsEndingBy l (verdict_of run.outcome) c.in-Ok.cost))
    c.layout.ensures c.ending_by.ensures in
    runs_as_found (g.S.Sources.holds c.args.sources.now) c.args.at.now c.args.words c.args.opening run c.in-Ok.cost
    c.ending_by.result c.in-Ok.ensures.found.0 c.in-Ok.ensures.found.1 ends
