-- The line of each exchange of a run: that of the statement that began last when the workers come to it, whose reads it
-- asks for or answers.
use Rattle.std.specs.Prelude.{◌≡◌, ℕ, zero, suc, ◌+◌, ◌*◌, List, [], ◌∷◌, ◌++◌, length, Some, ℤ, if◌then◌else◌, slice_get}
use Rattle.write_rules.specs.Verdict.{Verdict}
use Rattle.address_map.specs.Lawful.{Shape}
use Rattle.superstep_instructions.specs.Code.{SuperstepCode}
use Rattle.superstep_machine.specs.Setting.{Setting, workers}
use Rattle.superstep_machine.specs.Machine.{phase}
use Rattle.superstep_machine.specs.Parts.{UniformPart}
use Rattle.superstep_machine.specs.Stretch.{Stop, ToSend, ToReply, ToVote, ToClose, advance}
use Rattle.superstep_machine.specs.Run.{State, Way, On, ready, is_over, is_held, bsp, opening, outcome_by, setting}
use Rattle.flat_machine.specs.Flat.{Flat, after_instr}
use Rattle.flat_machine.specs.ByExchanges as flat
use Rattle.flat_machine.specs.ByInstructions.{step, everywhere}
use Rattle.flat_machine.specs.Flatness.{IsMapFor}

-- ---- of workers

-- the line of the next exchange of workers in these states
abbrev pub line_of : Setting → (ℕ → State) → ℕ
line_of t ws = (ready t 0 (ws 0)).state.worker.uniform.line

-- those of the exchanges up to the state in which the run is over, the one that decided included; at most n
abbrev pub lines_from : Setting → ℕ → (ℕ → State) → List ℕ
lines_from t zero ws = []
lines_from t (suc n) ws = if is_over (ws 0).way then [] else line_of t ws ∷ lines_from t n (phase (bsp t) (workers t) ws)

abbrev pub lines_by : Setting → ℕ → List ℤ → List ℕ
lines_by t n input = lines_from t n (opening t input)

-- The lines of the code's exchanges, by whatever number of workers and whatever map: those of each run that comes to a verdict.
abbrev pub AreLinesOf : SuperstepCode → List ℤ → (bound : ℕ) → List ℕ → Type 0
AreLinesOf code input bound lines = (map : Shape) → IsMapFor code map → (enough most : ℕ) (verdict : Verdict) →
    outcome_by (setting code map bound enough) most input ≡ Some (Some verdict) →
    lines_by (setting code map bound enough) most input ≡ lines

-- ---- on one memory, exchange by exchange

abbrev pub flat_lines_from : flat.Plan → ℕ → flat.State → List ℕ
flat_lines_from t zero s = []
flat_lines_from t (suc n) s =
    if is_over s.way then [] else (flat.ready t s).state.flat.uniform.line ∷ flat_lines_from t n (flat.next t s)

abbrev pub flat_lines_by : flat.Plan → ℕ → List ℤ → List ℕ
flat_lines_by t n input = flat_lines_from t n (flat.opening input)

-- ---- and instruction by instruction

-- a close sends first a write that is held
abbrev pub lines_at : Stop → UniformPart → List ℕ
lines_at ToSend u = u.line ∷ []
lines_at ToReply u = u.line ∷ []
lines_at (ToVote d) u = u.line ∷ []
lines_at (ToClose ended) u = if is_held u.put then u.line ∷ u.line ∷ [] else u.line ∷ []

-- those of the instruction at the place of a state
abbrev pub lines_here : SuperstepCode → ℕ → flat.State → Way → List ℕ
lines_here code bound s On =
    advance bound (λ (f : Flat). f.uniform) (after_instr code) [] (λ stop place f. lines_at stop f.uniform) (λ place f. [])
    (slice_get code.instructions s.place) s.place s.flat
lines_here code bound s way = []

-- and of n instructions
abbrev pub lines_within : SuperstepCode → ℕ → ℕ → flat.State → List ℕ
lines_within code bound zero s = []
lines_within code bound (suc n) s = lines_here code bound s s.way ++ lines_within code bound n (step code bound everywhere s)

-- Those of the code's run from an input. It is over within so many instructions where the code is well formed.
abbrev pub flat_lines : SuperstepCode → ℕ → List ℤ → List ℕ
flat_lines code bound input = lines_within code bound ((bound + 1) * length code.instructions) (flat.opening input)
