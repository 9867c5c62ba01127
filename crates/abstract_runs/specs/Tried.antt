-- An attempt of which it is known where it reads, what it may give and how it may fail.
use Rattle.std.specs.Prelude.{◌≡◌, ℕ, List, [], ◌∷◌, ◌++◌, length, Option, Some, None}
use Rattle.pram_meaning.specs.Attempt.{Attempt, Gives, Fails, Trail}
use Rattle.abstract_runs.specs.declared.findings.Findings.{Findings}
use Rattle.abstract_runs.specs.declared.reach.Reach.{Reach}
use Rattle.abstract_runs.specs.Covers.{IsReached}
use Rattle.abstract_runs.specs.Finding.{MayBy}

-- a cell that is read at a position lies in what is reached there
abbrev pub IsReadIn : Option Reach → Option ℕ → Type 0
IsReadIn reach None = Unit {0}
IsReadIn None (Some c) = ⊥
IsReadIn (Some reach) (Some c) = IsReached c reach

-- a trail goes along the first of these positions
abbrev pub GoesAlong : List (Option Reach) → Trail → Type 0
GoesAlong reaches [] = Unit {0}
GoesAlong [] (c ∷ t) = ⊥
GoesAlong (r ∷ reaches) (c ∷ t) = IsReadIn r c × GoesAlong reaches t

-- where cells are reached one is read
abbrev pub AreRead : List (Option Reach) → Trail → Type 0
AreRead (Some reach ∷ reaches) (None ∷ t) = ⊥
AreRead (r ∷ reaches) (c ∷ t) = AreRead reaches t
AreRead reaches t = Unit {0}

-- a trail goes along all of them, and has a read at each where cells are reached
pub record GoesThrough (reaches : List (Option Reach)) (t : Trail) : Type 0 where
  pub along : GoesAlong reaches t
  pub all : length t ≡ length reaches
  pub reads : AreRead reaches t

-- where a cell is reached, one is read
abbrev pub IsRead : Option Reach → Option ℕ → Type 0
IsRead (Some reach) None = ⊥
IsRead r c = Unit {0}

-- the same at each position before the trail's last one
abbrev pub AreReadBefore : List (Option Reach) → Trail → Type 0
AreReadBefore reaches [] = Unit {0}
AreReadBefore reaches (c ∷ []) = Unit {0}
AreReadBefore [] (c ∷ d ∷ t) = Unit {0}
AreReadBefore (r ∷ reaches) (c ∷ d ∷ t) = IsRead r c × AreReadBefore reaches (d ∷ t)

-- a trail ends at one of these positions, and has a read at each before that where cells are reached
pub record EndsAt (reaches : List (Option Reach)) (t : Trail) : Type 0 where
  pub along : GoesAlong reaches t
  pub reads : AreReadBefore reaches t

-- an attempt along these positions: it gives such a value behind the last one, or fails at one of them by a fault that may come there
abbrev pub IsTried : {A : Type 0} → (A → Type 0) → List (Option Reach) → Findings → Attempt A → Type 0
IsTried Value reaches faults (Gives t a) = Value a × GoesThrough reaches t
IsTried Value reaches faults (Fails t kind) = EndsAt reaches t × MayBy kind (length t) faults

-- the first are the beginning of the second
abbrev pub IsLonger : List (Option Reach) → List (Option Reach) → Type 0
IsLonger reaches more = (rest : List (Option Reach)) × (more ≡ reaches ++ rest)
