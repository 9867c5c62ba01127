-- Runs of well-formed code by the machine's definition: what is held and awaited where a worker comes to an exchange.
use Rattle.std.specs.Prelude.{◌≡◌, ℕ, ◌+◌, ◌*◌, ◌≤◌, List, [], length, None, ℤ}
use Rattle.superstep_instructions.specs.Code.{SuperstepCode}
use Rattle.superstep_machine.specs.Setting.{Setting, workers}
use Rattle.superstep_machine.specs.Parts.{UniformPart}
use Rattle.superstep_machine.specs.Worker.{Worker}
use Rattle.superstep_machine.specs.Stretch.{Stop, ToSend, ToReply, ToVote, ToClose, At}
use Rattle.superstep_machine.specs.Machine.{phases}
use Rattle.superstep_machine.specs.Run as machine
use Rattle.bsp_verify.specs.WellFormed.{IsWellFormed}
use Rattle.bsp_verify.specs.Paths.{Point, Comes}

-- A send comes where no answers are awaited. A reply comes where some are, and nothing is held; a vote where nothing is held or awaited;
-- a close where no reads are.
abbrev pub MayExchange : Stop → UniformPart → Type 0
MayExchange ToSend u = u.awaited ≡ []
MayExchange ToReply u = (u.awaited ≡ [] → ⊥) × (u.asks ≡ []) × (u.put ≡ None)
MayExchange (ToVote d) u = (u.awaited ≡ []) × (u.asks ≡ []) × (u.put ≡ None)
MayExchange (ToClose ended) u = (u.awaited ≡ []) × (u.asks ≡ [])

-- worker w of the run after n exchanges
abbrev pub worker_after : Setting → List ℤ → ℕ → ℕ → machine.State
worker_after t input n w = phases (machine.bsp t) (workers t) n (machine.opening t input) w

-- a path of control comes there
abbrev pub IsOnPath : SuperstepCode → ℕ → Type 0
IsOnPath code place = (n : ℕ) × (q : Point) × Comes code n q × (q.place ≡ place)

-- each exchange that a worker of the run comes to is on a path of control, and is one that it may make
abbrev pub RunsAreSound : Type 0
RunsAreSound = (t : Setting) → IsWellFormed t.code → (input : List ℤ) (n w : ℕ) → (worker_after t input n w).way ≡ machine.On →
    (stop : Stop) (place : ℕ) (x : Worker) → machine.stretch t w (worker_after t input n w) ≡ At stop place x →
    IsOnPath t.code place × MayExchange stop x.uniform

-- No worker of a run is lost, where a stretch between two exchanges may have (bound + 1) * N + 1 instructions, N those of the code.
abbrev pub RunsArrive : Type 0
RunsArrive = (t : Setting) → IsWellFormed t.code → (t.bound + 1) * length t.code.instructions + 1 ≤ t.enough →
    (input : List ℤ) (n w : ℕ) → (worker_after t input n w).way ≡ machine.Lost → ⊥
