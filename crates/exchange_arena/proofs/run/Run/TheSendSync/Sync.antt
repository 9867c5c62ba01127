use denote.Param.Send.{IsSync}
use Rattle.exchange_arena.proofs.Crosses.{Run-sync}
use Rattle.exchange_arena.specs.contracts.run.Run.{the_row}

pub sync : IsSync the_row
sync = Run-sync
