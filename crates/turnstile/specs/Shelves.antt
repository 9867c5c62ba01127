-- Where a closed table has the pieces of a block, and which of its slots are empty.
use Rattle.std.specs.Prelude.{◌≡◌, ℕ, ◌+◌, ◌*◌, ◌<◌, ◌≤◌, Bool, true, false, List, Option, Some, slice_index_or}
use mathlib.Core.Option.{some}
use lib.ListN.{get_elem?}
use Rattle.exchange_arena.specs.Piece.{PieceState, emptied_piece}
use Rattle.exchange_arena.specs.Block.{BlockShape, piece_at}

-- from the first slot on stand all pieces of the block, in order of place, whatever they hold
abbrev pub Offers : BlockShape → ℕ → List (Option PieceState) → Type 0
Offers b first xs = (k : ℕ) → k < b.side * b.side → (x : PieceState) × (get_elem? xs (first + k) ≡ some (Some x))
    × (emptied_piece x ≡ piece_at b k)

abbrev pub EmptyBelow : ℕ → List Bool → Type 0
EmptyBelow n flags = (k : ℕ) → k < n → slice_index_or flags k false ≡ false

abbrev pub FullBetween : ℕ → ℕ → List Bool → Type 0
FullBetween n m flags = (k : ℕ) → n ≤ k → k < m → slice_index_or flags k false ≡ true
