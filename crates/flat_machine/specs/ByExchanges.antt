-- The run of the flat machine exchange by exchange, as workers go by phases.
use Rattle.std.specs.Prelude.{ℕ, zero, suc, ◌+◌, List, [], ◌∷◌, map, Option, Some, None, ℤ, if◌then◌else◌}
use Rattle.write_rules.specs.Verdict.{Verdict}
use Rattle.superstep_instructions.specs.Code.{SuperstepCode}
use Rattle.superstep_machine.specs.Stretch.{ToSend, ToReply, ToVote, ToClose, Arrival, Nowhere, At, until}
use Rattle.superstep_machine.specs.Run.{Purpose, Sends, Replies, Votes, Closes, Way, On, Ending, Lost, is_held, decided, is_over}
use Rattle.superstep_machine.specs.Run.{verdict_by}
use Rattle.flat_machine.specs.Flat.{Flat, cells, after_instr, after_send, after_reply, after_vote}
use Rattle.flat_machine.specs.Flat as flat

-- what is run: the code, the bound on statements, and how many instructions a stretch between two exchanges may have
pub record Plan : Type 0 where
  pub code : SuperstepCode
  pub bound : ℕ
  pub enough : ℕ

-- the run between two exchanges, or between two instructions: the one memory, the place of the next instruction, and how it stands
pub record State : Type 0 where
  pub flat : Flat
  pub place : ℕ
  pub way : Way

-- the machine at an exchange: what that is for, and its state afterwards if it brings nothing and decides nothing
pub record Ready : Type 0 where
  pub purpose : Purpose
  pub state : State

abbrev pub stretch : Plan → State → Arrival Flat
stretch t s = until t.bound (λ (f : Flat). f.uniform) (after_instr t.code) t.code.instructions t.enough s.place s.flat

abbrev pub ready_at : State → Arrival Flat → Ready
ready_at s Nowhere = record { purpose = Closes; state = record s { way = Lost } }
ready_at s (At ToSend place f) = record { purpose = Sends; state = record s { flat = f; place = place + 1 } }
ready_at s (At ToReply place f) = record { purpose = Replies; state = record s { flat = f; place = place + 1 } }
ready_at s (At (ToVote d) place f) = record { purpose = Votes d; state = record s { flat = f; place = place + 1 } }
ready_at s (At (ToClose ended) place f) = record {
  purpose = if is_held f.uniform.put then Sends else Closes;
  state =
      record s { flat = f; place = place; way = Ending ended };
}

abbrev pub ready_by : Plan → State → Way → Ready
ready_by t s On = ready_at s (stretch t s)
ready_by t s way = record { purpose = Closes; state = s }

abbrev pub ready : Plan → State → Ready
ready t s = ready_by t s s.way

abbrev pub after_exchange : SuperstepCode → Purpose → Flat → Flat
after_exchange code Sends f = after_send code f
after_exchange code Replies f = after_reply f
after_exchange code (Votes d) f = after_vote d f
after_exchange code Closes f = f

-- the run behind its exchange
abbrev pub after : SuperstepCode → Ready → State
after code r = record {
  flat = after_exchange code r.purpose r.state.flat;
  place = r.state.place;
  way = decided r.purpose r.state.flat.uniform r.state.flat.key r.state.way;
}

abbrev pub next : Plan → State → State
next t s = after t.code (ready t s)

abbrev pub outcome_of : SuperstepCode → State → Option Verdict
outcome_of code s = verdict_by s.way s.flat.uniform.output (map s.flat.memory (cells code))

-- the run up to the state in which it is over, by fewer than n exchanges
abbrev pub run : Plan → ℕ → State → Option (Option Verdict)
run t zero s = None
run t (suc n) s = if is_over s.way then Some (outcome_of t.code s) else run t n (next t s)

-- what its exchanges are for, the one that decides included; at most n
abbrev pub purposes_from : Plan → ℕ → State → List Purpose
purposes_from t zero s = []
purposes_from t (suc n) s = if is_over s.way then [] else (ready t s).purpose ∷ purposes_from t n (next t s)

-- the run before the first instruction
abbrev pub opening : List ℤ → State
opening input = record { flat = flat.opening input; place = 0; way = On }

-- what the run comes to by fewer than n exchanges
abbrev pub outcome_by : Plan → ℕ → List ℤ → Option (Option Verdict)
outcome_by t n input = run t n (opening input)

abbrev pub purposes_by : Plan → ℕ → List ℤ → List Purpose
purposes_by t n input = purposes_from t n (opening input)
