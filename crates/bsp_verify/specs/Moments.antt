-- Runs of well-formed code at each instruction: the state of the place describes the worker.
use Rattle.std.specs.Prelude.{◌≡◌, ℕ, zero, suc, ◌≤◌, List, length, Bool, true, false, Option, Some, None, ℤ, nat_lt, slice_get}
use Rattle.std.specs.List.{AllByRecursion}
use Rattle.superstep_instructions.specs.declared.instr.Side.{Side}
use Rattle.superstep_instructions.specs.declared.instr.Side.TheVariants.{Uniform, Private}
use Rattle.superstep_instructions.specs.declared.instr.Instr.{Instr}
use Rattle.superstep_machine.specs.Setting.{Setting, processors}
use Rattle.superstep_machine.specs.Parts.{Read, UniformPart, PrivatePart}
use Rattle.superstep_machine.specs.Worker.{Worker, after_instr}
use Rattle.superstep_machine.specs.Sides.{AreBySide, HaveOneSide}
use Rattle.superstep_machine.specs.Stretch.{Stop, At, advance}
use Rattle.superstep_machine.specs.Run.{On, is_held, stretch}
use Rattle.bsp_verify.specs.declared.state.State.{State}
use Rattle.bsp_verify.specs.WellFormed.{IsWellFormed}
use Rattle.bsp_verify.specs.Paths.{Point, Comes, IsSound}
use Rattle.bsp_verify.specs.Runs.{worker_after}

-- ---- the moments of a run

-- the place and the state after n instructions of a stretch, if it has so many
abbrev pub walked : {S : Type 0} → ℕ → (S → UniformPart) → (Instr → S → S) → List Instr → ℕ → ℕ → S → Option (ℕ × S)
walked bound u step code zero place s = Some (place, s)
walked bound u step code (suc n) place s =
    advance bound u step None (λ stop k x. None) (walked bound u step code n) (slice_get code place) place s

-- worker w after n exchanges and m instructions behind them, if the stretch has so many
abbrev pub moment : Setting → List ℤ → ℕ → ℕ → ℕ → Option (ℕ × Worker)
moment t input n m w =
    let s = worker_after t input n w in
    walked t.bound (λ (x : Worker). x.uniform) (after_instr t w) t.code.instructions m s.place s.worker

-- ---- what a state says of a worker

-- a processor is under so many masks, and has a place for each of so many reads that are held and that are awaited
pub record HasPlaces (depth held sent : ℕ) (x : PrivatePart) : Type 0 where
  pub masks : length x.masks ≡ depth
  pub asks : length x.asks ≡ held
  pub awaited : length x.awaited ≡ sent

-- the side whose reads can be made: the processors' within a range, the program's outside of one
abbrev pub side_of : Bool → Side
side_of true = Private
side_of false = Uniform

-- Worker w is as the state says. Outside of a range the width is 0; a range isn't wider than the code has processors; and the worker has
-- its processors of it. Each is under so many masks. So many reads are held, all of the side of the range, and so are those that are
-- awaited; a private read has no cell of the uniform part; and a write is held, and answers are awaited, or not.
pub record DescribesWorker (t : Setting) (w : ℕ) (s : State) (x : Worker) : Type 0 where
  pub outside : s.entered ≡ false → x.uniform.width ≡ 0
  pub narrow : x.uniform.width ≤ t.code.procs
  pub processors : length x.own ≡ length (processors t w x.uniform.width)
  pub each : AllByRecursion (HasPlaces s.masks s.asks (length x.uniform.awaited)) x.own
  pub asks : length x.uniform.asks ≡ s.asks
  pub asks_side : AllByRecursion (λ (r : Read). r.side ≡ side_of s.entered) x.uniform.asks
  pub asks_own : AreBySide x.uniform.asks
  pub put : is_held x.uniform.put ≡ s.put
  pub awaited : nat_lt 0 (length x.uniform.awaited) ≡ s.awaits
  pub awaited_side : AllByRecursion (λ (r : Read). r.side ≡ side_of s.entered) x.uniform.awaited

-- a path of control comes to the place, with a state that describes the worker; and what stands there is sound
pub record IsDescribed (t : Setting) (w place : ℕ) (x : Worker) : Type 0 where
  pub steps : ℕ
  pub point : Point
  pub comes : Comes t.code steps point
  pub here : point.place ≡ place
  pub describes : DescribesWorker t w point.state x
  pub sound : IsSound t.code point

-- At every moment of every stretch of every worker. So no run meets a register, a declaration or a target that isn't there, a ninth
-- read, a 65th mask, or an instruction of the wrong side.
abbrev pub MomentsAreSound : Type 0
MomentsAreSound = (t : Setting) → IsWellFormed t.code → (input : List ℤ) (n m w : ℕ) → (worker_after t input n w).way ≡ On →
    (place : ℕ) (x : Worker) → moment t input n m w ≡ Some (place, x) → IsDescribed t w place x

-- So each read that is held is of one side, at every moment, ..
abbrev pub ReadsHaveOneSide : Type 0
ReadsHaveOneSide = (t : Setting) → IsWellFormed t.code → (input : List ℤ) (n m w : ℕ) → (worker_after t input n w).way ≡ On →
    (place : ℕ) (x : Worker) → moment t input n m w ≡ Some (place, x) → HaveOneSide x.own 0 x.uniform.asks

-- .. and where a worker comes to an exchange.
abbrev pub SentReadsHaveOneSide : Type 0
SentReadsHaveOneSide = (t : Setting) → IsWellFormed t.code → (input : List ℤ) (n w : ℕ) → (worker_after t input n w).way ≡ On →
    (stop : Stop) (place : ℕ) (x : Worker) → stretch t w (worker_after t input n w) ≡ At stop place x → HaveOneSide x.own 0 x.uniform.asks
