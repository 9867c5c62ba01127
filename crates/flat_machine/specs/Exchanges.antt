-- The exchanges of a flat run, each with what it is for, and whether anything was held there.
use Rattle.std.specs.Prelude.{ℕ, zero, suc, ◌+◌, ◌*◌, List, [], ◌∷◌, ◌++◌, length, Bool, true, false, not, ◌&&◌, ◌||◌, ℤ, if◌then◌else◌}
use Rattle.std.specs.Prelude.{slice_get}
use Rattle.superstep_instructions.specs.Code.{SuperstepCode}
use Rattle.superstep_machine.specs.Parts.{Read, UniformPart}
use Rattle.superstep_machine.specs.Run.{Purpose, Sends, Replies, Votes, Closes, Way, On, is_held}
use Rattle.superstep_machine.specs.Sending.{uniform_sent}
use Rattle.superstep_machine.specs.Stretch.{Stop, ToSend, ToReply, ToVote, ToClose, advance}
use Rattle.flat_machine.specs.Flat.{Flat, after_instr}
use Rattle.flat_machine.specs.ByExchanges.{State, opening}
use Rattle.flat_machine.specs.ByInstructions.{step, everywhere}

pub record Exchange : Type 0 where
  pub purpose : Purpose
  pub held : Bool

abbrev pub is_some : List Read → Bool
is_some [] = false
is_some (x ∷ xs) = true

-- a write or reads are held
abbrev pub is_holding : UniformPart → Bool
is_holding u = is_held u.put || is_some u.asks

abbrev pub exchange : Purpose → UniformPart → Exchange
exchange purpose u = record { purpose = purpose; held = is_holding u }

abbrev pub is_sending : Purpose → Bool
is_sending Sends = true
is_sending purpose = false

-- a close sends first a write that is held
abbrev pub exchanges_at : Stop → UniformPart → List Exchange
exchanges_at ToSend u = exchange Sends u ∷ []
exchanges_at ToReply u = exchange Replies u ∷ []
exchanges_at (ToVote d) u = exchange (Votes d) u ∷ []
exchanges_at (ToClose ended) u = if is_held u.put then exchange Sends u ∷ exchange Closes (uniform_sent u) ∷ [] else exchange Closes u ∷ []

-- those of the instruction at the place of a state
abbrev pub exchanges_by : SuperstepCode → ℕ → State → Way → List Exchange
exchanges_by code bound s On =
    advance bound (λ (f : Flat). f.uniform) (after_instr code) [] (λ stop place f. exchanges_at stop f.uniform) (λ place f. [])
    (slice_get code.instructions s.place) s.place s.flat
exchanges_by code bound s way = []

-- and of n instructions, where the exchanges of some places decide
abbrev pub exchanges_from : SuperstepCode → ℕ → (ℕ → Bool) → ℕ → State → List Exchange
exchanges_from code bound judges zero s = []
exchanges_from code bound judges (suc n) s = exchanges_by code bound s s.way
    ++ exchanges_from code bound judges n (step code bound judges s)

-- The exchanges of the code's run from an input. It is over within so many instructions where the code is well formed.
abbrev pub exchanges_of : SuperstepCode → ℕ → List ℤ → List Exchange
exchanges_of code bound input = exchanges_from code bound everywhere ((bound + 1) * length code.instructions) (opening input)

-- a send at which nothing is held
abbrev pub is_empty : Exchange → Bool
is_empty x = is_sending x.purpose && not x.held

-- without each of them
abbrev pub but_empty : List Exchange → List Exchange
but_empty [] = []
but_empty (x ∷ xs) = if is_empty x then but_empty xs else x ∷ but_empty xs
