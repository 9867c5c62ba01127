-- What a text expands to by its pieces: comments and other bytes stand as they are, and an expression in braces gives its number.
use Rattle.std.specs.Prelude.{ℕ, zero, suc, ◌+◌, ◌-◌, ◌==◌, Bool, false, not, ◌&&◌, ◌||◌, if◌then◌else◌, List, [], ◌∷◌, ◌++◌, length}
use Rattle.std.specs.Prelude.{decimal, map, Result, Ok, Err}
use Rattle.sized_texts.specs.declared.size.Size.{Size}
use Rattle.sized_texts.specs.declared.stop.Wrong.{Wrong}
use Rattle.sized_texts.specs.Expressions.{braced}
use Rattle.sized_texts.specs.Reading.{◌>>=◌}

-- a text, and for each of its bytes the offset that it came from
pub record Expansion : Type 0 where
  pub text : List ℕ
  pub places : List ℕ

-- bytes that came from there in front of what follows, if that is right
abbrev pub from_there : List ℕ → ℕ → Result Expansion Wrong → Result Expansion Wrong
from_there bytes at (Ok e) = Ok (record { text = bytes ++ e.text; places = map (λ _. at) bytes ++ e.places })
from_there bytes at (Err w) = Err w

-- whether what follows a byte is a comment: `#` begins one, and the line's end ends it
abbrev pub in_comment : Bool → ℕ → Bool
in_comment comment b = if b == 10 then false else (comment || b == 35)

-- whether a byte opens a brace
abbrev pub opens : Bool → ℕ → Bool
opens comment b = not comment && (b == 123)

-- The expansion of a text that begins at that offset, in a comment or not. The first `skip` bytes belong to an expression before it.
abbrev pub pieces : List Size → (skip : ℕ) → (comment : Bool) → (at : ℕ) → List ℕ → Result Expansion Wrong
pieces sizes skip comment at [] = Ok (record { text = []; places = [] })
pieces sizes (suc n) comment at (b ∷ rest) = pieces sizes n comment (at + 1) rest
pieces sizes zero comment at (b ∷ rest) =
    if opens comment b
    then (braced sizes rest >>= λ e. from_there (decimal e.0) at (pieces sizes (length rest - length e.1) false (at + 1) rest))
    else from_there (b ∷ []) at (pieces sizes 0 (in_comment comment b) (at + 1) rest)

-- what a whole text expands to where these are its sizes
abbrev pub pieces_of : List Size → List ℕ → Result Expansion Wrong
pieces_of sizes text = pieces sizes 0 false 0 text
