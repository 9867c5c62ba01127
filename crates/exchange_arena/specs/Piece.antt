-- What contracts see of a piece.
use Rattle.std.specs.Prelude.{ℕ, ◌+◌, List, [], ◌∷◌}
use denote.RawPtr.{Ptr}

-- a header and words, in the piece at a place of the block that begins at `block`
pub record PieceState : Type 0 where
  pub header : List ℕ
  pub words : List ℕ
  pub block : Ptr
  pub place : ℕ
  pub room : ℕ

-- four words, all zero
abbrev pub zero_header : List ℕ
zero_header = 0 ∷ 0 ∷ 0 ∷ 0 ∷ []

-- the same piece, holding this header and these words
abbrev pub filled_piece : PieceState → List ℕ → List ℕ → PieceState
filled_piece x header words = record x { header = header; words = words }

-- the same piece, with a zero header and no words
abbrev pub emptied_piece : PieceState → PieceState
emptied_piece x = filled_piece x zero_header []

-- how many words of its block a piece takes up: its header, and the words that it has room for
abbrev pub stride : ℕ → ℕ
stride room = room + 4
