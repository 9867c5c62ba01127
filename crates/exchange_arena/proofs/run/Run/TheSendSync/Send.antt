use denote.Param.Send.{IsSend}
use Rattle.exchange_arena.proofs.Crosses.{Run-send}
use Rattle.exchange_arena.specs.contracts.run.Run.{the_row}

pub send : IsSend the_row
send = Run-send
