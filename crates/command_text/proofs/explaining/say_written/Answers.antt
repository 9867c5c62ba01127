use Rattle.std.proofs.Common.{refl}
use Rattle.command_facts.proofs.Writing.{reported, reported_in_part}
use Rattle.command_text.proofs.explaining.say_written.Goals as goal

pub returns-then-is_ok : goal.returns-then-is_ok
returns-then-is_ok g c = record {
  said = reported _ _ _ _ _ c.write_written.result c.flush.result refl c.write_written.ensures.written c.if-is_ok.ensures.value
      c.flush.ensures.ok c.flush.ensures.failed;
}

pub returns-else-is_ok : goal.returns-else-is_ok
returns-else-is_ok g c = record {
  said = reported_in_part _ _ _ _ c.write_written.result refl c.write_written.ensures.written c.if-is_ok.ensures.value;
}
