-- What is read of a file.
use Rattle.std.specs.Prelude.{◌≡◌, ◌≢◌, ◌↔◌, ◌≤◌, ℕ, List, [], ◌++◌, length, Option, Some}

-- The bytes are the beginning of a file that is held, and all of it where there are at most so many of them.
abbrev pub IsReadFrom : (Option (List ℕ) → Type 0) → (most : ℕ) → List ℕ → Type 0
IsReadFrom holds most bytes = (rest : List ℕ) × holds (Some (bytes ++ rest)) × (length bytes ≤ most → rest ≡ [])

-- The names stand for the same files.
abbrev pub IsSame : (now before : List ℕ → Option (List ℕ) → Type 0) → Type 0
IsSame now before = (name : List ℕ) (bytes : Option (List ℕ)) → now name bytes ↔ before name bytes

-- All names but that one stand for the same files.
abbrev pub IsSameBut : (name : List ℕ) → (now before : List ℕ → Option (List ℕ) → Type 0) → Type 0
IsSameBut name now before = (other : List ℕ) (bytes : Option (List ℕ)) → other ≢ name → now other bytes ↔ before other bytes
