-- Attempts that give something.
use Rattle.std.specs.Prelude.{List, [], ◌∷◌}
use Rattle.pram_meaning.specs.Attempt.{Attempt, Gives, Fails}
use Rattle.pram_meaning.specs.Conflict.{Part}

-- it gives something
abbrev pub IsGiving : {A : Type 0} → Attempt A → Type 0
IsGiving (Gives t a) = Unit {0}
IsGiving (Fails t kind) = ⊥

-- the attempt of each part does
abbrev pub AreGiven : List Part → Type 0
AreGiven [] = Unit {0}
AreGiven (x ∷ xs) = IsGiving x.attempt × AreGiven xs
