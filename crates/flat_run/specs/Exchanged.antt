-- What the exchanges of a run stand for.
use Rattle.std.specs.Prelude.{ℕ, List, [], map, if◌then◌else◌, true, false}
use Rattle.std.proofs.Common.{eqb}
use Rattle.superstep_instructions.specs.declared.instr.Instr.{Instr}
use Rattle.superstep_instructions.specs.declared.instr.Instr.TheVariants as instr
use Rattle.superstep_instructions.specs.Code.{SuperstepCode}
use Rattle.superstep_machine.specs.Purposes.{purpose_is}
use Rattle.superstep_machine.specs.Parts.{UniformPart}
use Rattle.superstep_machine.specs.Stretch.{ToSend, ToReply, ToVote, ToClose}
use Rattle.flat_machine.specs.ByExchanges.{State}
use Rattle.flat_machine.specs.Exchanges as listed
use Rattle.flat_run.specs.declared.exchange.Exchange.{Exchange}

abbrev pub exchange_is : Exchange → listed.Exchange
exchange_is x = record { purpose = purpose_is x.purpose; held = x.held }

-- a list of exchanges, each as the definition has it
abbrev pub exchanges_are : List Exchange → List listed.Exchange
exchanges_are = map exchange_is

-- those of the instruction at the place of a state
abbrev pub exchanges_here : SuperstepCode → ℕ → State → List listed.Exchange
exchanges_here code bound s = listed.exchanges_by code bound s s.way

-- what an instruction exchanges that is met with a uniform part
abbrev pub exchanges_for : ℕ → Instr → UniformPart → List listed.Exchange
exchanges_for bound (instr.Mark line) u = if eqb u.count bound then listed.exchanges_at (ToClose false) u else []
exchanges_for bound instr.Send u = listed.exchanges_at ToSend u
exchanges_for bound instr.Reply u = listed.exchanges_at ToReply u
exchanges_for bound (instr.Vote destination) u = listed.exchanges_at (ToVote destination) u
exchanges_for bound instr.Halt u = listed.exchanges_at (ToClose true) u
exchanges_for bound i u = []
