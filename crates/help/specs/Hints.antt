-- What there is to say of a place at which a program doesn't go on.
use Rattle.std.specs.Prelude.{◌≡◌, ℕ, zero, suc, ◌-◌, nat_lt, Bool, true, false, if◌then◌else◌, List, [], ◌∷◌, length, take, drop}
use Rattle.std.specs.Prelude.{Option, Some, None, position, slice_index, Result, Ok, Err}
use Rattle.std.specs.List.{prefix_len, slice_get}
use Rattle.std.specs.Option.{option_map, option_or}
use Rattle.pram_tokens.specs.Scanning.{Cut, cut_of}
use Rattle.pram_tokens.specs.declared.token.Mark.TheVariants as mark
use Rattle.pram_tokens.specs.declared.token.Token.{Token}
use Rattle.pram_tokens.specs.declared.token.Token.TheVariants as token
use Rattle.help.specs.declared.choice.Choice.{Choice}
use Rattle.help.specs.declared.blocks.Block.{Block}
use Rattle.help.specs.declared.habit.Habit.{Habit as HabitOf}
use Rattle.help.specs.declared.hint.Hint.{Hint}
use Rattle.help.specs.declared.hint.Hint.TheVariants.{Nothing, Habit, Missing, Open, OpenProgram, Taken, Ended}
use Rattle.help.specs.declared.sign.Sign.TheVariants as sign
use Rattle.help.specs.Blocks.{open_blocks}
use Rattle.help.specs.Habits.{before_habit, habit_of, only_habit}
use Rattle.help.specs.Missing.{IsWhatIsMissing}
use Rattle.help.specs.Signs.{could}

-- how many tokens stand before a place
abbrev pub before : ℕ → List ℕ → ℕ
before at offsets = prefix_len (λ o. nat_lt o at) offsets

-- ---- at the end of the text

abbrev pub is_begin : Token → Bool
is_begin (token.Mark mark.Begin) = true
is_begin _ = false

abbrev pub program_hint : List ℕ → Option ℕ → Hint
program_hint offsets None = Nothing
program_hint offsets (Some i) = OpenProgram (slice_index offsets i)

abbrev pub last_of : List Block → Option Block
last_of blocks = slice_get blocks (length blocks - 1)

abbrev pub is_end : Token → Bool
is_end (token.Mark mark.End) = true
is_end _ = false

abbrev pub closed_if : Option Token → List Token → Option Block
closed_if None front = None
closed_if (Some t) front = if is_end t then last_of (open_blocks front) else None

-- the block that the last of the tokens closes
abbrev pub closed_last : List Token → Option Block
closed_last ts = closed_if (slice_get ts (length ts - 1)) (take (length ts - 1) ts)

-- where the program is open: the block whose `end` may be the program's, or the program itself
abbrev pub begin_hint : Cut → Option Block → Hint
begin_hint c (Some b) = Taken b.opening b.at (slice_index c.offsets (length c.tokens - 1))
begin_hint c None = program_hint c.offsets (position is_begin c.tokens)

-- the innermost open block, or the program's own
abbrev pub block_hint : Cut → Option Block → Hint
block_hint c (Some b) = Open b.opening b.at
block_hint c None = begin_hint c (closed_last c.tokens)

-- Where an `end` could stand at the end of the text, a block is open.
abbrev pub end_hint : Cut → List Choice → Hint
end_hint c found = if could sign.End found then block_hint c (last_of (open_blocks c.tokens)) else Nothing

-- ---- at a token

-- what is tried behind a place
abbrev pub tried : ℕ
tried = 8

-- the kind that is missing between the tokens, of which a few behind the place are tried, and nothing where none is
abbrev pub IsMissingHint : Cut → ℕ → List Choice → Hint → Type 0
IsMissingHint c n found Nothing = IsWhatIsMissing (take n c.tokens) (take tried (drop n c.tokens)) found None
IsMissingHint c n found (Missing k behind) =
    IsWhatIsMissing (take n c.tokens) (take tried (drop n c.tokens)) found (Some k) × (behind ≡ slice_index c.offsets (n - 1))
IsMissingHint c n found _ = ⊥

-- of a token behind another one, with the offsets of both: behind a whole program nothing could stand; and else what is written so
-- elsewhere
abbrev pub known : (before t : Token) → List Choice → (at_before at : ℕ) → Option Hint
known b t [] at_before at = Some (Ended at_before)
known b t (k ∷ found) at_before at =
    option_or (option_map (λ h. Habit h at_before) (before_habit b (k ∷ found) t)) (option_map (λ h. Habit h at) (habit_of b (k ∷ found) t))

-- that, and else what is missing
abbrev pub IsKnownOr : Cut → ℕ → List Choice → Hint → Option Hint → Type 0
IsKnownOr c n found hint (Some h) = hint ≡ h
IsKnownOr c n found hint None = IsMissingHint c n found hint

abbrev pub IsAmong : Cut → ℕ → (before t : Token) → List Choice → Hint → Type 0
IsAmong c n b t found hint =
    IsKnownOr c n found hint (known b t found (slice_index c.offsets (n - 1)) (slice_index c.offsets n))

-- ---- at a place

abbrev pub IsAt : Cut → ℕ → List Choice → (before t : Option Token) → Hint → Type 0
IsAt c n found None t hint = hint ≡ Nothing
IsAt c n found (Some b) None hint = hint ≡ end_hint c found
IsAt c n found (Some b) (Some t) hint = IsAmong c n b t found hint

-- ---- at the front

-- the first token, which has that offset
abbrev pub habit_at : ℕ → Option HabitOf → Hint
habit_at at None = Nothing
habit_at at (Some h) = Habit h at

abbrev pub first_hint : List Choice → ℕ → Option Token → Hint
first_hint found at None = Nothing
first_hint found at (Some t) = habit_at at (only_habit found t)

-- so many tokens stand before the place
abbrev pub IsBy : Cut → List Choice → ℕ → Hint → Type 0
IsBy c found zero hint = hint ≡ first_hint found (slice_index c.offsets 0) (slice_get c.tokens 0)
IsBy c found (suc n) hint = IsAt c (suc n) found (slice_get c.tokens n) (slice_get c.tokens (suc n)) hint

abbrev pub IsHintOf : Result Cut ℕ → ℕ → List Choice → Hint → Type 0
IsHintOf (Ok c) at found hint = IsBy c found (before at c.offsets) hint
IsHintOf (Err bad) at found hint = hint ≡ Nothing

-- what there is to say of that place of a text, where tokens of these kinds could stand
abbrev pub IsHint : List ℕ → ℕ → List Choice → Hint → Type 0
IsHint text at found hint = IsHintOf (cut_of text) at found hint
