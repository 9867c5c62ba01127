-- What a seat carries between two crossings: for each worker j from k on, the slot of its piece (w, j) of phase s,
-- and then the slot of the piece (j, w) of the phase before.
use Rattle.std.specs.Prelude.{◌≡◌, ℕ, zero, suc, ◌+◌, ◌<◌, true, false, List, [], ◌∷◌, ◌++◌, map, length, Option, Some, None, slice_set}
use mathlib.Core.Option.{some}
use Rattle.atomic_table.specs.Table.{Act, Me, keeps, gives, chain}
use Rattle.exchange_arena.specs.Piece.{PieceState}
use Rattle.turnstile.specs.declared.views.Message.{Message}
use Rattle.turnstile.specs.declared.views.Kind.TheVariants.{Seated}
use Rattle.turnstile.specs.declared.views.View.{View}
use Rattle.turnstile.specs.Blocks.{TwoBlocks, BelongsIn}
use Rattle.turnstile.specs.Turns.{blank, slot, saw, phase, Homes, Carried}

module _ (p w s : ℕ) where
  -- the slots of n workers from k on, with nothing in them
  abbrev pub emptied : ℕ → ℕ → Carried
  emptied k zero = []
  emptied k (suc n) = (slot p s w k, None) ∷ (slot p (s + 1) k w, None) ∷ emptied (suc k) n

  abbrev pub loaded : ℕ → List PieceState → List PieceState → Carried
  loaded k [] ys = []
  loaded k (x ∷ xs) [] = []
  loaded k (x ∷ xs) (y ∷ ys) = (slot p s w k, Some x) ∷ (slot p (s + 1) k w, Some y) ∷ loaded (suc k) xs ys

-- all that is carried goes home
abbrev pub gives_all : Carried → Act (Option PieceState)
gives_all [] = keeps
gives_all (x ∷ xs) = chain gives (gives_all xs)

abbrev pub homes_with : Homes → Carried → Homes
homes_with hs [] = hs
homes_with hs (x ∷ xs) = homes_with (slice_set hs x.0 (some x.1)) xs

-- each piece lies in its own place
abbrev pub RowPlaced : TwoBlocks → ℕ → ℕ → ℕ → ℕ → List PieceState → Type 0
RowPlaced blocks p w s k [] = Unit {0}
RowPlaced blocks p w s k (x ∷ xs) = BelongsIn blocks (slot p s w k) x × RowPlaced blocks p w s (suc k) xs

abbrev pub ColumnPlaced : TwoBlocks → ℕ → ℕ → ℕ → ℕ → List PieceState → Type 0
ColumnPlaced blocks p w s k [] = Unit {0}
ColumnPlaced blocks p w s k (x ∷ xs) = BelongsIn blocks (slot p s k w) x × ColumnPlaced blocks p w s (suc k) xs

-- what a seat holds that is about to give
pub record Ready (p : ℕ) (me : Me (Option PieceState) View) (xs ys : List PieceState) : Type 0 where
  pub is_seated : me.0.kind ≡ Seated
  pub stays : me.0.mine.left ≡ false
  pub saw_all : (i : ℕ) → i < p → saw me.0.mine i ≡ true
  pub row : length xs ≡ p
  pub column : length ys ≡ p
  pub row_placed : RowPlaced me.0.mine.blocks p me.0.mine.at (phase me.0.mine + 1) 0 xs
  pub column_placed : ColumnPlaced me.0.mine.blocks p me.0.mine.at (phase me.0.mine + 1 + 1) 0 ys
  pub carries : me.1 ≡ loaded p me.0.mine.at (phase me.0.mine + 1) 0 xs ys

-- the columns as they were received, with a blank for a message that was not
abbrev pub value : Option Message → Message
value (Some m) = m
value None = blank

abbrev pub known : List (List (Option Message)) → List (List Message)
known rs = map (map value) rs

abbrev pub told_all : List (List Message) → List (List (Option Message))
told_all rs = map (map Some) rs

-- the columns of the phases before, and that of phase f as far as it is known. Phase 0 has none
abbrev pub opened : ℕ → List (List (Option Message)) → List (Option Message) → List (List (Option Message))
opened zero past cs = past
opened (suc f) past cs = past ++ cs ∷ []
