use Rattle.std.proofs.Common.{refl}
use Rattle.command_files.specs.WitnessLeft as left
use Rattle.command_files.proofs.witness.say_input.Goals as goal

pub returns-in-Ok : goal.returns-in-Ok
returns-in-Ok g c =
    left.Written c.args.name.now c.args.input.now refl refl c.in-Ok.ensures.written c.say_written.ensures.said

pub returns-in-Err : goal.returns-in-Err
returns-in-Err g c =
    left.Unwritten c.args.name.now c.args.input.now c.halted_write.result.stop c.halted_write.result.about refl refl c.halted_write.ensures
    c.refuse.ensures.said
