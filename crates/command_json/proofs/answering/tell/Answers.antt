use Rattle.std.proofs.Common.{map, refl, subst, sym}
use Rattle.std.specs.String.{string_bytes}
use Rattle.command_facts.proofs.Alone.{told_alone}
use Rattle.command_facts.specs.declared.found.Found.TheVariants as found
use Rattle.command_json.specs.Left.{CutOff, IsRefusalSaid, LeavesFound, Told}
use Rattle.command_json.proofs.answering.tell.Goals as goal

pub returns-in-Ok : goal.returns-in-Ok
returns-in-Ok g c =
    let w = c.in-Ok.ensures.written in
    record {
      leaves = subst (LeavesFound (map string_bytes c.args.words.now) (found.Settled c.args.found.now) _ _ _ _) (sym w.0)
          (Told c.args.found.now w.1.0 refl w.1.1 w.1.2 c.tell_found_in_time.ensures.told);
    }

pub returns-in-Err : goal.returns-in-Err
returns-in-Err g c = record {
  leaves = CutOff c.args.found.now c.in-Err.stop refl c.in-Err.ensures.written
      (told_alone (IsRefusalSaid (map string_bytes c.args.words.now)) c.from.result c.in-Err.stop _ _ c.from.ensures c.report.ensures.told);
}
