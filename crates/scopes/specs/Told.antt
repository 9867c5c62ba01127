-- What findings say of the runs.
use Rattle.std.specs.Prelude.{◌≡◌, ◌≢◌, ℕ, ℤ, pos, Bool, true, false, Option, List, [], ◌∷◌, ◌++◌}
use Rattle.std.specs.List.{All}
use Rattle.pram_check.specs.Checked.{Checked}
use Rattle.pram_meaning.specs.Outcome.{IsOutcome}
use Rattle.write_rules.specs.Verdict.{Ended}
use Rattle.scopes.specs.Handed.{handed_on}
use Rattle.scopes.specs.Runs.{is_going_on, verdict_on}
use Rattle.scopes.specs.Specified.{fails}

-- the first of these inputs that passes a test: it does, and none before it
pub record IsFirst (test : List ℤ → Bool) (inputs : List (List ℤ)) (input : List ℤ) : Type 0 where
  pub before : List (List ℤ)
  pub behind : List (List ℤ)
  pub all : inputs ≡ before ++ input ∷ behind
  pub over : All (λ x. test x ≡ false) before
  pub passes : test input ≡ true

-- the first on which the run goes on
abbrev pub IsFirstGoingOn : Checked → ℕ → List (List ℤ) → List ℤ → Type 0
IsFirstGoingOn p n = IsFirst (λ x. is_going_on (verdict_on p n x))

-- the first on which it fails
abbrev pub IsFirstFailing : Option Checked → Checked → ℕ → List (List ℤ) → List ℤ → Type 0
IsFirstFailing q p n = IsFirst (fails q p n)

-- a program affirms an input: its outcome on it is an end, and the last number that it printed isn't 0
pub record IsAffirmed (q : Checked) (n : ℕ) (input : List ℤ) : Type 0 where
  pub printed : List ℤ
  pub last : ℤ
  pub memory : List ℤ
  pub ends : IsOutcome q input n (Ended (printed ++ last ∷ []) memory)
  pub nonzero : last ≢ pos 0

-- the run of p on an input fails: its outcome is an end, and q doesn't affirm what is handed on
pub record HasFailed (p q : Checked) (n : ℕ) (input : List ℤ) : Type 0 where
  pub output : List ℤ
  pub left : List ℤ
  pub ends : IsOutcome p input n (Ended output left)
  pub refused : IsAffirmed q n (handed_on p q input left) → ⊥
