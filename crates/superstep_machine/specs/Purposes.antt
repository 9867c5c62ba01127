-- What an exchange is for, in the definition's words.
use Rattle.superstep_machine.specs.Run as machine
use Rattle.superstep_machine.specs.declared.purpose.Purpose.{Purpose}
use Rattle.superstep_machine.specs.declared.purpose.Purpose.TheVariants as purposes

abbrev pub purpose_is : Purpose → machine.Purpose
purpose_is purposes.Send = machine.Sends
purpose_is purposes.Reply = machine.Replies
purpose_is (purposes.Vote d) = machine.Votes d
purpose_is purposes.Close = machine.Closes
