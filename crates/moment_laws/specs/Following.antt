-- The moments of a run are the run's: each begins in the store that the one before it left, from the opening state to the outcome.
use Rattle.std.specs.Prelude.{◌≡◌, ◌↔◌, ◌≤◌, ◌<◌, ◌+◌, ℕ, zero, suc, ℤ, List, [], ◌∷◌, ◌++◌, Option, Some, None, length}
use Rattle.pram_check.specs.Checked.{Checked}
use Rattle.write_rules.specs.Verdict.{Verdict, Ended, Faulted, GoesOn}
use Rattle.pram_meaning.specs.declared.key.Key.{Key}
use Rattle.pram_meaning.specs.Attempt.{Attempt, Gives, Fails}
use Rattle.pram_meaning.specs.Moments.{Moment, Alone, Together, Closed, run_moments}
use Rattle.pram_meaning.specs.Outcome.{IsOutcome, opening}
use Rattle.pram_meaning.specs.Store.{State}

-- the statements among moments: all but the ends of branches and of turns
abbrev pub statements : List Moment → List Moment
statements [] = []
statements (Alone here act before tried behind ∷ ms) = Alone here act before tried behind ∷ statements ms
statements (Together here act before xs key behind ∷ ms) = Together here act before xs key behind ∷ statements ms
statements (Closed ∷ ms) = statements ms

-- ---- one behind the other

-- the output, the uniform variables and the cells of the one state are those of the other
pub record IsSameStore (m k : State) : Type 0 where
  pub output : k.output ≡ m.output
  pub uniforms : k.uniforms ≡ m.uniforms
  pub cells : k.cells ≡ m.cells

-- a statement begins behind this state: in its store, as one more
abbrev pub IsNext : (m before : State) → Type 0
IsNext m before = IsSameStore m before × (before.count ≡ m.count + 1)

-- a statement that ran leaves as many uniform variables and cells as there were, and the output with what it printed behind it
pub record IsLeft (before behind : State) : Type 0 where
  pub count : behind.count ≡ before.count
  pub uniforms : length behind.uniforms ≡ length before.uniforms
  pub cells : length behind.cells ≡ length before.cells
  pub printed : List ℤ
  pub output : behind.output ≡ before.output ++ printed

-- one of the one processor outside pardo, which leaves the state as it is where it faults
abbrev pub IsLeftAlone : Attempt (Option ℕ) → (before behind : State) → Type 0
IsLeftAlone (Gives trail cell) before behind = IsLeft before behind
IsLeftAlone (Fails trail kind) before behind = behind ≡ before

-- one of a set, likewise
abbrev pub IsLeftBySet : Option Key → (before behind : State) → Type 0
IsLeftBySet None before behind = IsLeft before behind
IsLeftBySet (Some key) before behind = behind ≡ before

-- Moments lead from the one state to the other: the first statement begins behind the one, each other behind the one before it, and the
-- last one leaves the other.
abbrev pub Lead : List Moment → (from to : State) → Type 0
Lead [] m k = IsSameStore m k × (k.count ≡ m.count)
Lead (Alone here act before tried behind ∷ ms) m k = IsNext m before × IsLeftAlone tried before behind × Lead ms behind k
Lead (Together here act before xs key behind ∷ ms) m k = IsNext m before × IsLeftBySet key before behind × Lead ms behind k
Lead (Closed ∷ ms) m k = Lead ms m k

-- the state behind the first k statements among moments, which begin in this one
abbrev pub state_behind : ℕ → List Moment → State → State
state_behind zero ms m = m
state_behind (suc k) [] m = m
state_behind (suc k) (Alone here act before tried behind ∷ ms) m = state_behind k ms behind
state_behind (suc k) (Together here act before xs key behind ∷ ms) m = state_behind k ms behind
state_behind (suc k) (Closed ∷ ms) m = state_behind (suc k) ms m

-- a state that has what a verdict tells: what was printed, and of an end its memory; behind a run that goes on n statements are counted
abbrev pub Has : (n : ℕ) → State → Verdict → Type 0
Has n m (Ended output memory) = (m.output ≡ output) × (m.cells ≡ memory)
Has n m (Faulted fault output) = m.output ≡ output
Has n m (GoesOn output) = (m.output ≡ output) × (m.count ≡ n)

-- The moments of a run lead from its opening state to one that has what its outcome tells.
abbrev pub MomentsLeadToTheOutcome : Type 0
MomentsLeadToTheOutcome =
    (p : Checked) (input : List ℤ) (n : ℕ) (v : Verdict) → IsOutcome p input n v →
    (last : State) × Lead (run_moments p input n) (opening p input) last × Has n last v

-- ---- the bound

-- an outcome that a larger bound leaves: an end or a fault
abbrev pub IsFinal : Verdict → Type 0
IsFinal (Ended output memory) = Unit {0}
IsFinal (Faulted fault output) = Unit {0}
IsFinal (GoesOn output) = ⊥

-- A larger bound adds statements behind those of a smaller one, and changes none.
abbrev pub BoundOnlyCuts : Type 0
BoundOnlyCuts =
    (p : Checked) (input : List ℤ) (n k : ℕ) → n ≤ k →
    (rest : List Moment) × (statements (run_moments p input k) ≡ statements (run_moments p input n) ++ rest)

-- Behind an end or a fault a larger bound adds nothing.
abbrev pub FinalMomentsStay : Type 0
FinalMomentsStay =
    (p : Checked) (input : List ℤ) (n k : ℕ) (v : Verdict) → IsOutcome p input n v → IsFinal v → n ≤ k →
    run_moments p input k ≡ run_moments p input n

-- A run that ends or faults does so within a bound exactly where it has at most that many statements,
abbrev pub FinalIsWithin : Type 0
FinalIsWithin =
    (p : Checked) (input : List ℤ) (n : ℕ) (v : Verdict) → IsOutcome p input n v → IsFinal v → (k : ℕ) →
    IsOutcome p input k v ↔ (length (statements (run_moments p input n)) ≤ k)

-- and goes on within each smaller bound.
abbrev pub GoesOnBefore : Type 0
GoesOnBefore =
    (p : Checked) (input : List ℤ) (n : ℕ) (v : Verdict) → IsOutcome p input n v → IsFinal v → (k : ℕ) →
    ((output : List ℤ) × IsOutcome p input k (GoesOn output)) ↔ (k < length (statements (run_moments p input n)))

-- A run has at most as many statements as its bound, and where it goes on as many.
abbrev pub StatementsAreWithin : Type 0
StatementsAreWithin = (p : Checked) (input : List ℤ) (n : ℕ) → length (statements (run_moments p input n)) ≤ n

abbrev pub GoingOnHasTheBound : Type 0
GoingOnHasTheBound =
    (p : Checked) (input : List ℤ) (n : ℕ) (output : List ℤ) → IsOutcome p input n (GoesOn output) →
    length (statements (run_moments p input n)) ≡ n
