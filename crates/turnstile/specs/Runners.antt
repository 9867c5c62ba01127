-- What contracts see of a start line, of its starter and of its runners.
use Rattle.std.specs.Prelude.{◌≡◌, ◌≢◌, ◌⊎◌, ◌<◌, ℕ, Bool, List, length, Option, Some, None, slice_get}
use mathlib.Core.Option.{some}
use lib.ListN.{get_elem?}
use Rattle.atomic_table.specs.Seated.{TableId}
use Rattle.turnstile.specs.declared.start.told.Told.{Told}
use Rattle.turnstile.specs.declared.start.told.Told.TheVariants.{Nothing, Stop, Go}
use Rattle.turnstile.specs.Lines.{has_gone}

-- which table it works at, which no other line shares, and how many runners it has
pub record LineShape : Type 0 where
  pub table : TableId
  pub runners : ℕ

-- what the starter of a line has said
pub record StarterState (T : Type 0) : Type 0 where
  pub table : TableId
  pub said : Told (List T)

-- which runner of a line it is, and what it has heard
pub record RunnerState (T : Type 0) : Type 0 where
  pub table : TableId
  pub at : ℕ
  pub heard : Told T

module _ {T : Type 0} where
  -- all runners of a line, in order, and none has heard anything
  pub record AreNewRunners (id : TableId) (n : ℕ) (rs : List (RunnerState T)) : Type 0 where
    pub count : length rs ≡ n
    pub tables : (k : ℕ) (r : RunnerState T) → slice_get rs k ≡ Some r → r.table ≡ id
    pub order : (k : ℕ) (r : RunnerState T) → slice_get rs k ≡ Some r → r.at ≡ k
    pub silence : (k : ℕ) (r : RunnerState T) → slice_get rs k ≡ Some r → r.heard ≡ Nothing

  -- all runners of a line, in order, and all have heard something
  pub record HaveAllWaited (n : ℕ) (rs : List (RunnerState T)) : Type 0 where
    pub count : length rs ≡ n
    pub order : (k : ℕ) (r : RunnerState T) → slice_get rs k ≡ Some r → r.at ≡ k
    pub waited : (k : ℕ) (r : RunnerState T) → slice_get rs k ≡ Some r → r.heard ≢ Nothing

  -- stop was said, whoever waited; or go was said, and these are all runners, and have waited
  abbrev pub IsOver : ℕ → Told (List T) → List (RunnerState T) → Type 0
  IsOver n said rs = (said ≡ Stop) ⊎ ((xs : List T) × (said ≡ Go xs) × HaveAllWaited n rs)

  -- what the starter keeps of a runner that it has taken in
  abbrev pub entry_of : RunnerState T → ℕ × Told T × Bool
  entry_of r = (r.at, r.heard, has_gone r.heard)

  abbrev pub AreNone : ℕ → List (Option T) → Type 0
  AreNone n ys = (k : ℕ) → k < n → get_elem? ys k ≡ some None
