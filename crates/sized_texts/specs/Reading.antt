-- Reading from the front of a text: what is read and the text behind it, or what is wrong and how many bytes are left from there on.
use Rattle.std.specs.Prelude.{◌≡◌, ℕ, ◌==◌, if◌then◌else◌, List, [], ◌∷◌, length, Result, Ok, Err}
use Rattle.sized_texts.specs.declared.reason.Reason.{Reason}
use Rattle.sized_texts.specs.declared.reason.Reason.TheVariants as reason
use Rattle.sized_texts.specs.declared.stop.Wrong.{Wrong}
use Rattle.sized_texts.specs.Front.{past_spaces}

infixl 10 ◌>>=◌
-- the second behind the first
abbrev pub ◌>>=◌ : {A B E : Type 0} → Result A E → (A → Result B E) → Result B E
Ok x >>= f = f x
Err e >>= f = Err e

-- that is wrong, with so many bytes left
abbrev pub wrong_at : Reason → ℕ → Wrong
wrong_at r left = record { reason = r; left = left }

-- a value, or what is wrong with so many bytes left
abbrev pub placed : {A : Type 0} → ℕ → Result A Reason → Result A Wrong
placed left (Ok v) = Ok v
placed left (Err r) = Err (wrong_at r left)

-- why the front of a text can't stand where it does: a brace is closed in its line
abbrev pub misplaced : List ℕ → Reason
misplaced [] = reason.NotClosed
misplaced (b ∷ rest) = if b == 10 then reason.NotClosed else reason.Unexpected

-- the text behind a byte that has to be at the front
abbrev pub expect_front : ℕ → List ℕ → Result (List ℕ) Wrong
expect_front byte [] = Err (wrong_at reason.NotClosed 0)
expect_front byte (b ∷ rest) =
    if b == byte then Ok rest else Err (wrong_at (misplaced (b ∷ rest)) (length (b ∷ rest)))

-- the text behind a byte that has to be the next one behind white space
abbrev pub expect : ℕ → List ℕ → Result (List ℕ) Wrong
expect byte text = expect_front byte (past_spaces text)

-- what a function answered is what is read
abbrev pub Gives : {X Y : Type 0} → (X → Y) → Result X Wrong → Result Y Wrong → Type 0
Gives view (Ok x) read = read ≡ Ok (view x)
Gives view (Err e) read = read ≡ Err e
