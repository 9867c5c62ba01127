-- What tidied code is, and what it has in common with the code.
use Rattle.std.specs.Prelude.{◌≡◌, ℕ, ◌+◌, ◌*◌, ◌<◌, ◌≤◌, List, length, ℤ}
use Rattle.write_rules.specs.Verdict.{Verdict}
use Rattle.address_map.specs.Lawful.{Shape}
use Rattle.superstep_instructions.specs.Code.{SuperstepCode}
use Rattle.superstep_machine.specs.Run.{IsBspOutcome, is_over, outcome_by, ready, setting}
use Rattle.superstep_machine.specs.Trace.{exchanges_by}
use Rattle.bsp_verify.specs.Runs.{worker_after}
use Rattle.bsp_verify.specs.WellFormed.{IsWellFormed}
use Rattle.flat_machine.specs.Flatness.{IsMapFor}
use Rattle.flat_machine.specs.OneList.{made_for}
use Rattle.tidying.specs.Certificates.{Certificate, IsCertified}

-- The shorter code has the instructions of the longer but for some that set a register to a number or to what another holds, and each reads
-- registers that hold the same.
abbrev pub IsShortened : SuperstepCode → SuperstepCode → Type 0
IsShortened long short = (c : Certificate) × IsCertified c long short

-- Both the code and the tidied code are shortened from one well-formed code: the code with registers more, which are set to numbers.
pub record IsTidied (code tidied : SuperstepCode) : Type 0 where
  pub whole : SuperstepCode
  pub formed : IsWellFormed whole
  pub is_code : IsShortened whole code
  pub is_tidied : IsShortened whole tidied

-- so many instructions are enough for each stretch of well-formed code
abbrev pub IsEnough : SuperstepCode → ℕ → ℕ → Type 0
IsEnough code bound n = (bound + 1) * length code.instructions + 1 ≤ n

-- Both codes have one rule, one width and one layout. On the workers of every map, within every bound, they have one outcome. With enough
-- instructions to a stretch they come to it by as many exchanges, which are for the same; their workers end behind as many, and have
-- printed as much before each.
pub record RunsAlike (code tidied : SuperstepCode) : Type 0 where
  pub rule : tidied.rule ≡ code.rule
  pub procs : tidied.procs ≡ code.procs
  pub layout : tidied.layout ≡ code.layout
  pub verdicts : (m : Shape) → IsMapFor code m → (input : List ℤ) (bound : ℕ) (verdict : Verdict) →
      (IsBspOutcome code m input bound verdict → IsBspOutcome tidied m input bound verdict)
      × (IsBspOutcome tidied m input bound verdict → IsBspOutcome code m input bound verdict)
  pub outcomes : (m : Shape) → IsMapFor code m → (bound n k : ℕ) → IsEnough code bound n → IsEnough tidied bound k →
      (input : List ℤ) (exchanges : ℕ) →
      outcome_by (setting tidied m bound k) exchanges input ≡ outcome_by (setting code m bound n) exchanges input
  pub purposes : (m : Shape) → IsMapFor code m → (bound n k : ℕ) → IsEnough code bound n → IsEnough tidied bound k →
      (input : List ℤ) (exchanges : ℕ) →
      made_for (exchanges_by (setting tidied m bound k) exchanges input) ≡ made_for (exchanges_by (setting code m bound n) exchanges input)
  pub over : (m : Shape) → IsMapFor code m → (bound n k : ℕ) → IsEnough code bound n → IsEnough tidied bound k →
      (input : List ℤ) (exchanges w : ℕ) → w < m.parts →
      is_over (worker_after (setting tidied m bound k) input exchanges w).way
      ≡ is_over (worker_after (setting code m bound n) input exchanges w).way
  pub output : (m : Shape) → IsMapFor code m → (bound n k : ℕ) → IsEnough code bound n → IsEnough tidied bound k →
      (input : List ℤ) (exchanges w : ℕ) → w < m.parts →
      (ready (setting tidied m bound k) w (worker_after (setting tidied m bound k) input exchanges w)).state.worker.uniform.output
      ≡ (ready (setting code m bound n) w (worker_after (setting code m bound n) input exchanges w)).state.worker.uniform.output

-- ---- laws

-- tidied code runs as the code does, where both are well formed
abbrev pub TidiedCodeRunsAlike : Type 0
TidiedCodeRunsAlike = (code tidied : SuperstepCode) → IsWellFormed code → IsWellFormed tidied → IsTidied code tidied → RunsAlike code tidied
