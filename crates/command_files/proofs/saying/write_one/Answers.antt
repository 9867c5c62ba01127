use Rattle.std.proofs.Common.{refl}
use Rattle.command_files.specs.Left as left
use Rattle.command_files.proofs.saying.write_one.Goals as goal

pub returns-in-Ok : goal.returns-in-Ok
returns-in-Ok g c = left.Written refl

pub returns-in-Err : goal.returns-in-Err
returns-in-Err g c = left.Unwritten c.halted_write.result.stop c.halted_write.result.about c.halted_write.ensures c.refuse.ensures.said
