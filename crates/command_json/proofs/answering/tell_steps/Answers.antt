use Rattle.std.proofs.Common.{map, refl, subst, sym}
use Rattle.std.specs.String.{string_bytes}
use Rattle.command_facts.proofs.Alone.{told_alone}
use Rattle.command_facts.specs.declared.found.Found.TheVariants as found
use Rattle.command_facts.specs.declared.found.Limit.{Limit}
use Rattle.command_json.specs.Left.{BrokenOff, IsRefusalSaid, IsTimeTold, LeavesFound, ToldAsItRan}
use Rattle.command_json.proofs.answering.tell_steps.Goals as goal

pub returns-in-Ok : goal.returns-in-Ok
returns-in-Ok g c =
    let t = c.in-Ok.ensures.told in
    record {
      leaves = subst (LeavesFound (map string_bytes c.args.words.now) (found.Stepped c.args.steps.now) _ _ _ _) (sym c.of.ensures)
          (ToldAsItRan c.args.steps.now c.in-Ok.ending.bound c.in-Ok.ending.outcome t.1.1.0 refl t.0 t.1.0 t.1.1.1 t.1.1.2
          (subst (λ (l : Limit). IsTimeTold c.in-Ok.ending.outcome l (g.E.Out.state c.args.err.now) (g.E.Out.state c.tell_time.new.err))
          c.limit_at.ensures.limit c.tell_time.ensures.told));
    }

pub returns-in-Err : goal.returns-in-Err
returns-in-Err g c = record {
  leaves = BrokenOff c.args.steps.now c.in-Err.ensures.told.0 c.in-Err.stop refl c.in-Err.ensures.told.1 c.in-Err.ensures.told.2
      (told_alone (IsRefusalSaid (map string_bytes c.args.words.now)) c.from.result c.in-Err.stop _ _ c.from.ensures c.report.ensures.told);
}
