use Rattle.std.proofs.Common.{refl}
use Rattle.command_files.specs.Left as left
use Rattle.command_files.proofs.gathering.take.Goals as goal

pub returns-in_ok-take_in-in-Ok-clause-takes : goal.returns-in_ok-take_in-in-Ok-clause-takes
returns-in_ok-take_in-in-Ok-clause-takes g c = left.Arranged c.in-Ok.arranged c.in-Ok.ensures.arranged c.in_ok-take_in-in-Ok.ensures refl

pub returns-in-Err-clause-takes : goal.returns-in-Err-clause-takes
returns-in-Err-clause-takes g c = left.Refused c.in-Err.halted c.in-Err.ensures.refused c.refuse.ensures.said refl
