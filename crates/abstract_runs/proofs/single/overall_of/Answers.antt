use Rattle.std.proofs.Common.{List, ℤ, Some, subst, sym}
use Rattle.pram_model.specs.Layout.{SharedEntry}
use Rattle.write_rules.specs.Verdict.{verdict_of}
use Rattle.write_rules.specs.declared.outcome.Outcome.{Outcome}
use Rattle.intervals.specs.declared.interval.Interval.{Interval}
use Rattle.all_inputs.specs.Overall.{AreJust, Cover, Hold, IsToldOf}
use Rattle.abstract_runs.proofs.Just.{just_cover}
use Rattle.abstract_runs.proofs.single.overall_of.Goals as goal

pub returns-in-Ended-clause-told : goal.returns-in-Ended-clause-told
returns-in-Ended-clause-told c =
    let cells = c.in_ok-cells-in-Ended.cells in
    let memory = c.in-Ended.memory.items in
    let declared = c.in_ok-declared-in-Ended.declared in
    let just = subst (λ (zs : List ℤ). AreJust cells.items zs) c.as_slice.ensures.value c.in_ok-cells-in-Ended.ensures in
    let cover = just_cover cells.items memory just in
    let held = c.in_ok-declared-in-Ended.ensures memory (subst (λ (is : List Interval). Cover is memory) (sym c.deref.ensures.value) cover) in
    subst (λ (o : Outcome). IsToldOf c.args.program.now.layout (record {
      told = c.nothing.result;
      end = Some (record { least = c.args.time; most = c.args.time; cells = cells; declared = declared });
    }) (verdict_of o)) (sym c.in-Ended.is)
    (cover, subst (λ (l : List SharedEntry). Hold l declared.items memory) c.layout.ensures held)
