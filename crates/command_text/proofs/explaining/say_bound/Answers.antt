use Rattle.std.proofs.Common.{refl}
use Rattle.command_facts.proofs.Writing.{reported, reported_in_part}
use Rattle.command_text.proofs.CycleSaid.{cycle_said}
use Rattle.command_text.proofs.explaining.say_bound.Goals as goal

pub returns-then-is_ok : goal.returns-then-is_ok
returns-then-is_ok g c = record {
  written = (
    _,
    cycle_said c.args.run.now.loaded.program c.args.run.now.input.items c.cycle_of-cycle.result c.cycle_of-cycle.ensures.never
        c.cycle_of-cycle.ensures.found,
    reported _ _ _ _ _ c.write_bound_of.result c.flush.result refl c.write_bound_of.ensures.written c.if-is_ok.ensures.value
        c.flush.ensures.ok c.flush.ensures.failed,
  );
}

pub returns-else-is_ok : goal.returns-else-is_ok
returns-else-is_ok g c = record {
  written = (
    _,
    cycle_said c.args.run.now.loaded.program c.args.run.now.input.items c.cycle_of-cycle.result c.cycle_of-cycle.ensures.never
        c.cycle_of-cycle.ensures.found,
    reported_in_part _ _ _ _ c.write_bound_of.result refl c.write_bound_of.ensures.written c.if-is_ok.ensures.value,
  );
}
