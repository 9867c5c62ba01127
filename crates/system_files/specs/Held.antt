-- What a stream of the system holds.
use Rattle.std.specs.Prelude.{◌≡◌, ◌≢◌, ◌⊎◌, ◌+◌, ◌<◌, ◌++◌, ℕ, List, [], ◌∷◌, take, All}
use Rattle.std.specs.Vec.{vec_capacity, vec_len}
use Rattle.std.specs.declared.alloc.Global.{Global}
use Rattle.std.specs.declared.vec.Vec.{Vec}

-- the beginning of a line that is longer than a block, and behind it the block so far
abbrev pub held_in : (long : List ℕ) → (len : ℕ) → (block : List ℕ) → List ℕ
held_in long len block = long ++ take len block

-- these bytes end with the end of a line
abbrev pub IsLines : List ℕ → Type 0
IsLines bytes = (front : List ℕ) × (bytes ≡ front ++ 10 ∷ [])

-- no line ends among these bytes
abbrev pub HasNoEnd : List ℕ → Type 0
HasNoEnd bytes = All (λ b. b ≢ 10) bytes

-- What is still held, when room was made in the block: all of it, where the block had room. Of a full block whole lines are handed on, and
-- what stands behind the last end of a line is held. Where no line ends in a full block, all is held; or all was handed on, where the long
-- line has no room for the block.
pub data HandsOn (long : Vec ℕ Global) (len : ℕ) (block : List ℕ) (still : List ℕ) : Type 0 where
  Room : len < 4096 → still ≡ held_in long.items len block → HandsOn long len block still
  Lines : len ≡ 4096 → (lines : List ℕ) → take len block ≡ lines ++ still → IsLines lines → HasNoEnd still → HandsOn long len block still
  Long : len ≡ 4096 → HasNoEnd (take len block) →
      (still ≡ held_in long.items len block) ⊎ ((still ≡ []) × (vec_capacity long < vec_len long + 4096)) → HandsOn long len block still
