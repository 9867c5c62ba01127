use Rattle.std.proofs.Common.{map, refl}
use Rattle.std.specs.String.{string_bytes}
use Rattle.command_facts.proofs.Alone.{told_alone}
use Rattle.command_text.specs.Explained.{IsRefusalReported}
use Rattle.command_text.specs.Left.{BrokenOff}
use Rattle.command_text.proofs.StepsWritten.{leaves_run}
use Rattle.command_text.proofs.answering.tell_steps.Goals as goal

pub returns-in-Ok : goal.returns-in-Ok
returns-in-Ok g c = record {
  leaves = leaves_run c.args.on (map string_bytes c.args.words.now) c.args.steps c.in-Ok.run' _ _ _ _ _ c.in-Ok.ensures.told
      c.explain_run.ensures.left c.of.ensures;
}

pub returns-in-Err : goal.returns-in-Err
returns-in-Err g c = record {
  leaves = BrokenOff c.args.steps c.in-Err.ensures.told.0 c.in-Err.stop refl c.in-Err.ensures.told.1 c.in-Err.ensures.told.2
      (told_alone (IsRefusalReported c.args.on (map string_bytes c.args.words.now)) c.from.result c.in-Err.stop _ _
      c.from.ensures c.report.ensures.written);
}
