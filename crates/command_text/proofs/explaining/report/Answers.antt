use Rattle.std.proofs.Common.{refl}
use Rattle.command_facts.proofs.Writing.{reported, reported_in_part}
use Rattle.command_text.proofs.explaining.report.Goals as goal

pub returns-then-is_ok : goal.returns-then-is_ok
returns-then-is_ok g c =
    let w = c.write_halt.ensures.written in
    record {
      written = record {
        text = w.0;
        told = w.1;
        reported = reported _ _ _ _ _ c.write_halt.result c.flush.result refl w.2 c.if-is_ok.ensures.value c.flush.ensures.ok
            c.flush.ensures.failed;
      };
    }

pub returns-else-is_ok : goal.returns-else-is_ok
returns-else-is_ok g c =
    let w = c.write_halt.ensures.written in
    record {
      written = record {
        text = w.0;
        told = w.1;
        reported = reported_in_part _ _ _ _ c.write_halt.result refl w.2 c.if-is_ok.ensures.value;
      };
    }
