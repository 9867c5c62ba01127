-- What a writer does with bytes: which it has taken, and whether it has failed.
use Rattle.std.specs.Prelude.{◌≡◌, ◌++◌, ℕ, Bool, true, List, Option, Some, None, Result, Ok, Err, [], ◌∷◌}
use Rattle.std.specs.Borrow.{Bor}

pub record OutState : Type 0 where
  -- the bytes taken so far, where they are known
  pub taken : Option (List ℕ)
  -- whether a write has failed
  pub failed : Bool

-- behind what is known, these bytes
abbrev pub behind : Option (List ℕ) → List ℕ → Option (List ℕ)
behind None bytes = None
behind (Some taken) bytes = Some (taken ++ bytes)

-- the writer that has taken these bytes too
abbrev pub with_bytes : OutState → List ℕ → OutState
with_bytes s bytes = record { taken = behind s.taken bytes; failed = s.failed }

-- the writer that has failed
abbrev pub with_failure : OutState → OutState
with_failure s = record { taken = s.taken; failed = true }

-- new is old after a beginning of the text, and then it failed
pub record StopsIn (old new : OutState) (text : List ℕ) : Type 0 where
  pub front : List ℕ
  pub rest : List ℕ
  pub whole : text ≡ front ++ rest
  pub stopped : new ≡ with_failure (with_bytes old front)

-- all of the text was taken, or a beginning of it and then the writer failed
abbrev pub Writes : {E : Type 0} → OutState → OutState → List ℕ → Result Unit E → Type 0
Writes old new text (Ok _) = new ≡ with_bytes old text
Writes old new text (Err _) = StopsIn old new text

-- some texts, one behind the other
abbrev pub joined : List (Bor (List ℕ)) → List ℕ
joined [] = []
joined (part ∷ rest) = part.now ++ joined rest
