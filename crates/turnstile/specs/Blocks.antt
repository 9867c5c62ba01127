-- Two blocks of one shape, and which of their pieces belongs in which slot of the table.
use Rattle.std.specs.Prelude.{◌≡◌, ℕ, ◌-◌, ◌*◌, ◌<◌, List, length, Option, Some, nat_lt, if◌then◌else◌}
use mathlib.Core.Option.{some}
use lib.ListN.{get_elem?}
use denote.RawPtr.{Ptr, block_ptr}
use Rattle.exchange_arena.specs.Piece.{PieceState, emptied_piece}
use Rattle.exchange_arena.specs.Block.{BlockShape, piece_at}

-- where the two blocks begin, how many pieces a row of them has, and for how many words each piece has room
pub record TwoBlocks : Type 0 where
  pub even : Ptr
  pub odd : Ptr
  pub side : ℕ
  pub room : ℕ

abbrev pub even_block : TwoBlocks → BlockShape
even_block b = record { block = b.even; side = b.side; room = b.room }

abbrev pub odd_block : TwoBlocks → BlockShape
odd_block b = record { block = b.odd; side = b.side; room = b.room }

-- no blocks, for a view that says nothing
abbrev pub nowhere : TwoBlocks
nowhere = record { even = block_ptr 0 0; odd = block_ptr 0 0; side = 0; room = 0 }

-- the empty piece that belongs in a slot: first come the pieces of the even block, then those of the odd one
abbrev pub piece_of : TwoBlocks → ℕ → PieceState
piece_of b k = let n : ℕ = b.side * b.side in if nat_lt k n then piece_at (even_block b) k else piece_at (odd_block b) (k - n)

-- the piece belongs in the slot, whatever it holds
abbrev pub BelongsIn : TwoBlocks → ℕ → PieceState → Type 0
BelongsIn b k x = emptied_piece x ≡ piece_of b k

-- each of the first n slots has a piece that belongs in it
abbrev pub Laid : TwoBlocks → ℕ → List (Option PieceState) → Type 0
Laid b n xs = (length xs ≡ n) × ((k : ℕ) → k < n → (x : PieceState) × (get_elem? xs k ≡ some (Some x))
    × BelongsIn b k x)
