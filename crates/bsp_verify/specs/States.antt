-- The state of a place: what holds each time that a run comes there.
use Rattle.std.specs.Prelude.{◌+◌, ◌-◌, true, false, nat_lt}
use Rattle.superstep_instructions.specs.declared.instr.Instr.{Instr}
use Rattle.superstep_instructions.specs.declared.instr.Instr.TheVariants.{Enter, Leave, Mask, Unmask, Ask, Put, Send, Reply}
use Rattle.bsp_verify.specs.declared.state.State.{State}

-- in which a run begins
abbrev pub opening : State
opening = record { entered = false; masks = 0; asks = 0; put = false; awaits = false }

-- The state that an instruction leaves. A send awaits a reply exactly where reads were held.
abbrev pub after : Instr → State → State
after (Enter a b q) s = record s { entered = true }
after Leave s = record s { entered = false }
after (Mask r) s = record s { masks = s.masks + 1 }
after Unmask s = record s { masks = s.masks - 1 }
after (Ask side d c r q) s = record s { asks = s.asks + 1 }
after (Put side c r v q) s = record s { put = true }
after Send s = record s { asks = 0; put = false; awaits = nat_lt 0 s.asks }
after Reply s = record s { awaits = false }
after _ s = s
