-- What contracts see of a block, and of its pieces in order of place.
use Rattle.std.specs.Prelude.{◌≡◌, ℕ, zero, suc, ◌*◌, List, [], ◌∷◌, ◌++◌, length, map, slice_get, Some}
use denote.RawPtr.{Ptr}
use Rattle.exchange_arena.specs.Piece.{PieceState, zero_header, emptied_piece}

-- where a block begins, which tells it from any other, how many pieces a row of it has,
-- and how many words each piece has room for
pub record BlockShape : Type 0 where
  pub block : Ptr
  pub side : ℕ
  pub room : ℕ

-- the empty piece at place k
abbrev pub piece_at : BlockShape → ℕ → PieceState
piece_at b k = record { header = zero_header; words = []; block = b.block; place = k; room = b.room }

-- the empty pieces at the first n places, in order
abbrev pub first_pieces : BlockShape → ℕ → List PieceState
first_pieces b zero = []
first_pieces b (suc n) = first_pieces b n ++ piece_at b n ∷ []

-- all pieces of a block, empty and in order of place
abbrev pub pieces_of : BlockShape → List PieceState
pieces_of b = first_pieces b (b.side * b.side)

-- these are all pieces of the block in order of place, whatever they hold
abbrev pub Covers : BlockShape → List PieceState → Type 0
Covers b pieces = map emptied_piece pieces ≡ pieces_of b

-- there are as many pieces as the block has, and the one at index k, whatever it holds, is that of place k
pub record StandInOrder (b : BlockShape) (pieces : List PieceState) : Type 0 where
  pub count : length pieces ≡ b.side * b.side
  pub places : (k : ℕ) (x : PieceState) → slice_get pieces k ≡ Some x → emptied_piece x ≡ piece_at b k
