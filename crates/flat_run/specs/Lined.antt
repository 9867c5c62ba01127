-- The lines of the exchanges of one instruction.
use Rattle.std.specs.Prelude.{ℕ, List, [], if◌then◌else◌, true, false}
use Rattle.std.proofs.Common.{eqb}
use Rattle.superstep_instructions.specs.declared.instr.Instr.{Instr}
use Rattle.superstep_instructions.specs.declared.instr.Instr.TheVariants as instr
use Rattle.superstep_instructions.specs.Code.{SuperstepCode}
use Rattle.superstep_machine.specs.Parts.{UniformPart}
use Rattle.superstep_machine.specs.Stretch.{ToSend, ToReply, ToVote, ToClose}
use Rattle.flat_machine.specs.ByExchanges.{State}
use Rattle.exchange_lines.specs.Lines.{lines_at, lines_here}

-- those of the instruction at the place of a state
abbrev pub lines_in : SuperstepCode → ℕ → State → List ℕ
lines_in code bound s = lines_here code bound s s.way

-- those of an instruction that is met with a uniform part
abbrev pub lines_for : ℕ → Instr → UniformPart → List ℕ
lines_for bound (instr.Mark line) u = if eqb u.count bound then lines_at (ToClose false) u else []
lines_for bound instr.Send u = lines_at ToSend u
lines_for bound instr.Reply u = lines_at ToReply u
lines_for bound (instr.Vote destination) u = lines_at (ToVote destination) u
lines_for bound instr.Halt u = lines_at (ToClose true) u
lines_for bound i u = []
