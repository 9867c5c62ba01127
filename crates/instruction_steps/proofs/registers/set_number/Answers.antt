use Rattle.std.proofs.Common.{◌∙◌, ap, arith, w64}
use Rattle.std.proofs.lemmas.Int.{to_z-of_z}
use Rattle.superstep_machine.specs.Parts.{set_register}
use Rattle.instruction_steps.proofs.RegisterLemmas.{set_is}
use Rattle.instruction_steps.proofs.registers.set_number.Goals as goal

pub returns-clause-after : goal.returns-clause-after
returns-clause-after c =
    rw (to_z-of_z w64 c.args.value c.ranges.value)
    (set_is c.make_room.new.values.items c.args.number c.args.value (omega (arith, c.in_ok-make_room.ensures.room))
    ∙ ap (set_register c.args.number c.args.value) c.in_ok-make_room.ensures.same)
