use denote.RattleType.{RattleType}
use denote.Param.Send.{IsSync}
use Rattle.std.specs.declared.alloc.Allocator.{Ghosts}
use Rattle.exchange_arena.proofs.Crosses.{Deed-sync}
use Rattle.exchange_arena.specs.contracts.deed.Deed.{the_row}

pub sync : (A : RattleType) (g : Ghosts A.Denot) → IsSync (the_row A g)
sync = Deed-sync
