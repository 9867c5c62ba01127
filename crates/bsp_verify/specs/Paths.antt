-- Paths of control: from the first place, from each instruction on to a successor, with the state that the instructions on the path leave.
use Rattle.std.specs.Prelude.{◌≡◌, ℕ, zero, suc, ◌<◌, ◌≤◌, true, false, Some, slice_get, ◌⊎◌}
use Rattle.superstep_instructions.specs.declared.instr.Instr.{Instr}
use Rattle.superstep_instructions.specs.Code.{SuperstepCode}
use Rattle.bsp_verify.specs.declared.state.State.{State}
use Rattle.bsp_verify.specs.States.{opening, after}
use Rattle.bsp_verify.specs.Control.{Leads}
use Rattle.bsp_verify.specs.Judging.{is_mark, IsAllowed}
use Rattle.bsp_verify.specs.WellFormed.{IsWellFormed}

-- a place on a path, and the state that the path gives it
pub record Point : Type 0 where
  pub place : ℕ
  pub state : State

-- from p to a successor of its instruction, with the state that this leaves
abbrev pub IsStep : SuperstepCode → Point → Point → Type 0
IsStep code p q = (i : Instr) × (slice_get code.instructions p.place ≡ Some i) × Leads i p.place q.place × (q.state ≡ after i p.state)

-- n steps from the beginning come to q
abbrev pub Comes : SuperstepCode → ℕ → Point → Type 0
Comes code zero q = (q.place ≡ 0) × (q.state ≡ opening)
Comes code (suc n) q = (p : Point) × Comes code n p × IsStep code p q

-- At most 64 masks, and outside of a range none; at most eight reads are held, and where answers are awaited nothing is.
pub record IsWithin (s : State) : Type 0 where
  pub masks : s.masks ≤ 64
  pub asks : s.asks ≤ 8
  pub outside : s.entered ≡ false → s.masks ≡ 0
  pub alone : s.awaits ≡ true → (s.asks ≡ 0) × (s.put ≡ false)

-- There is an instruction, with all that it names, and it goes with the range, the masks, and what is held and awaited; these
-- are within their limits; and from it a path goes up, or to a mark.
pub record IsSound (code : SuperstepCode) (q : Point) : Type 0 where
  pub instr : Instr
  pub is : slice_get code.instructions q.place ≡ Some instr
  pub allowed : IsAllowed code q.place instr q.state
  pub within : IsWithin q.state
  pub rises : (t : ℕ) → Leads instr q.place t → (q.place < t) ⊎ (is_mark (slice_get code.instructions t) ≡ true)

-- all paths of well-formed code are sound
abbrev pub PathsAreSound : Type 0
PathsAreSound = (code : SuperstepCode) → IsWellFormed code → (n : ℕ) (q : Point) → Comes code n q → IsSound code q
