-- The asks that are held, by read and cell in the order first held, and the values that came for them.
use Rattle.std.specs.Prelude.{◌≡◌, ℕ, suc, length, slice_index_or, ℤ, pos, ◌+◌, ◌*◌, ◌/◌, ◌%◌, ◌^◌, ◌<◌, List, [], ◌∷◌, map}
use Rattle.std.specs.Prelude.{Bool, true, false, if◌then◌else◌}
use Rattle.std.specs.List.{filter}
use Rattle.std.specs.Int.{cast_signed, w64}
use Rattle.std.proofs.Common.{eqb}
use Rattle.superstep_machine.specs.Words.{CellAsk}
use Rattle.combining.specs.Places.{place_of}
use Rattle.combining.specs.Held.{hold}

-- what is known of an ask beside its key: whether it was made more than once, and the value that came
pub record Asked : Type 0 where
  pub again : Bool
  pub value : ℤ

abbrev pub unasked : Asked
unasked = record { again = false; value = pos 0 }

-- what is known of all asks, and for how many there is room
pub record AllAsked : Type 0 where
  pub items : List Asked
  pub room : ℕ

-- marks beside values, of which the last may be missing
abbrev pub both : List Bool → List ℤ → List Asked
both [] vs = []
both (b ∷ bs) [] = record { again = b; value = pos 0 } ∷ both bs []
both (b ∷ bs) (v ∷ vs) = record { again = b; value = v } ∷ both bs vs

-- the first get the values that some words are
abbrev pub valued : (ℕ → ℤ) → List ℕ → List Asked → List Asked
valued f [] xs = xs
valued f (w ∷ ws) [] = []
valued f (w ∷ ws) (x ∷ xs) = record { again = x.again; value = f w } ∷ valued f ws xs

abbrev pub worded : List ℕ → List Asked → List Asked
worded = valued (cast_signed w64)

-- an ask, and the value that came for it: 0 where none came
pub record HeldAsk : Type 0 where
  pub ask : CellAsk
  pub value : ℤ

pub record HeldAsks : Type 0 where
  pub held : List HeldAsk
  pub room : ℕ

-- the number of a read and a cell as one number
abbrev pub ask_key : ℕ → ℕ → ℕ
ask_key read cell = cell + 2 ^ 20 * read

abbrev pub key_of : CellAsk → ℕ
key_of x = ask_key x.read x.cell

abbrev pub ask_at : ℕ → Asked → HeldAsk
ask_at key a = record { ask = record { read = key / 2 ^ 20; cell = key % 2 ^ 20; twice = a.again }; value = a.value }

-- an ask that is made once more is marked
abbrev pub marked_twice : HeldAsk → HeldAsk
marked_twice x = record { ask = record { read = x.ask.read; cell = x.ask.cell; twice = true }; value = x.value }

abbrev pub fresh_ask : ℕ → ℕ → HeldAsk
fresh_ask read cell = record { ask = record { read = read; cell = cell; twice = false }; value = pos 0 }

-- one more ask
abbrev pub ask : ℕ → ℕ → List HeldAsk → List HeldAsk
ask read cell = hold (λ (x : HeldAsk). eqb (key_of x.ask) (ask_key read cell)) marked_twice (fresh_ask read cell)

-- the asks for module j, and their words
abbrev pub asks_for : (ℕ → ℕ) → ℕ → List HeldAsk → List CellAsk
asks_for part j held = filter (λ (x : CellAsk). eqb (part x.cell) j) (map (λ (x : HeldAsk). x.ask) held)

abbrev pub IsAskBelow : ℕ → HeldAsk → Type 0
IsAskBelow n x = x.ask.cell < n

abbrev pub answered : HeldAsk → ℕ → HeldAsk
answered x w = record { ask = x.ask; value = cast_signed w64 w }

-- the words of a reply of module j go to the asks for it, in order, as far as they reach
abbrev pub replied : (ℕ → ℕ) → ℕ → List ℕ → List HeldAsk → List HeldAsk
replied part j ws [] = []
replied part j [] (x ∷ rest) = x ∷ rest
replied part j (w ∷ ws) (x ∷ rest) = if eqb (part x.ask.cell) j then answered x w ∷ replied part j ws rest else x
    ∷ replied part j (w ∷ ws) rest

-- the value for a read and a cell
abbrev pub value_for : ℕ → ℕ → List HeldAsk → ℤ
value_for read cell [] = pos 0
value_for read cell (x ∷ rest) = if eqb (key_of x.ask) (ask_key read cell) then x.value else value_for read cell rest

-- where the ask by a read for a cell stands, or the length
abbrev pub place_held : ℕ → ℕ → List HeldAsk → ℕ
place_held read cell [] = 0
place_held read cell (x ∷ rest) = if eqb (key_of x.ask) (ask_key read cell) then 0 else suc (place_held read cell rest)

-- the value of the ask at a place
abbrev pub value_there : List Asked → ℕ → ℤ
value_there asked i = slice_index_or (map (λ (x : Asked). x.value) asked) i (pos 0)

-- the value by a read for a cell, where values stand at the places of their asks' keys
abbrev pub value_by : List ℕ → List ℤ → ℕ → ℕ → ℤ
value_by keys came read cell = slice_index_or came (place_of (ask_key read cell) keys) (pos 0)

-- the value at a place
abbrev pub value_held : List HeldAsk → ℕ → ℤ
value_held held i = slice_index_or (map (λ (x : HeldAsk). x.value) held) i (pos 0)

-- The value of an ask stands at its place; and neither another ask nor a reply moves it.
abbrev pub ValueStandsAtItsPlace : Type 0
ValueStandsAtItsPlace = (read cell : ℕ) (held : List HeldAsk) → value_for read cell held ≡ value_held held (place_held read cell held)

abbrev pub RepliesMoveNothing : Type 0
RepliesMoveNothing = (part : ℕ → ℕ) (j : ℕ) (ws : List ℕ) (read cell : ℕ) (held : List HeldAsk) →
    place_held read cell (replied part j ws held) ≡ place_held read cell held

abbrev pub AsksMoveNothing : Type 0
AsksMoveNothing = (read cell other_read other_cell : ℕ) (held : List HeldAsk) → place_held read cell held < length held →
    place_held read cell (ask other_read other_cell held) ≡ place_held read cell held
