-- Runs that never end.
use Rattle.std.specs.Prelude.{◌≡◌, ◌<◌, ◌+◌, ℕ, List, Option, ℤ}
use Rattle.std.specs.List.{Contains}
use Rattle.pram_tokens.specs.declared.token.Location.{Location}
use Rattle.pram_check.specs.Checked.{Checked}
use Rattle.pram_names.specs.declared.body.Expression.{Expression}
use Rattle.write_rules.specs.Verdict.{GoesOn}
use Rattle.pram_meaning.specs.Attempt.{Attempt}
use Rattle.pram_meaning.specs.Meaning.{Fate, Fates, Ends, Stops, Reaches}
use Rattle.pram_meaning.specs.Moments.{Moment, Alone, Turns, run_moments}
use Rattle.pram_meaning.specs.Outcome.{IsOutcome}
use Rattle.pram_meaning.specs.Store.{State}
use Rattle.endless_runs.specs.declared.cycle.Cycle.{Cycle}

-- what is told is that some statements have run and one more would begin
abbrev pub IsReaching : {A : Type 0} → Fate A → Type 0
IsReaching (Ends a m) = ⊥
IsReaching (Stops fault count output) = ⊥
IsReaching (Reaches count output) = Unit {0}

-- nothing else can be told
abbrev pub IsEndless : {A : Type 0} → Fates A → Type 0
IsEndless {A} Means = (f : Fate A) → Means f → IsReaching f

-- A program never ends on an input: within every bound its outcome is that it goes on.
abbrev pub NeverEnds : Checked → List ℤ → Type 0
NeverEnds p input = (n : ℕ) → (output : List ℤ) × IsOutcome p input n (GoesOn output)

-- ---- a loop that comes back

-- two states are alike: the uniform variables, the cells and the processors of the one are those of the other
pub record AreAlike (m k : State) : Type 0 where
  pub uniforms : m.uniforms ≡ k.uniforms
  pub cells : m.cells ≡ k.cells
  pub team : m.team ≡ k.team

-- among these moments the `while` that stands here is tested in this state
abbrev pub IsTestedIn : List Moment → (here : Location) → (test : Expression) → State → Type 0
IsTestedIn ms here test m = (tried : Attempt (Option ℕ)) × (behind : State) × Contains ms (Alone here (Turns test) m tried behind)

-- A loop comes back: among these moments the `while` of its line is tested in two states that are alike, of which the later one counts as
-- many statements more as it says, one at least.
pub record ComesBack (ms : List Moment) (c : Cycle) : Type 0 where
  pub here : Location
  pub test : Expression
  pub first : State
  pub later : State
  pub is_here : here.line ≡ c.line
  pub was : IsTestedIn ms here test first
  pub is_again : IsTestedIn ms here test later
  pub alike : AreAlike first later
  pub apart : later.count ≡ first.count + c.statements
  pub some : 0 < c.statements

-- A loop of a program's run on an input comes back, within some bound.
abbrev pub HasCycle : Checked → List ℤ → Cycle → Type 0
HasCycle p input c = (n : ℕ) × ComesBack (run_moments p input n) c
