-- Parts of words, one for each message.
use Rattle.std.specs.Prelude.{ℕ, List, [], map, slice_index_or}
use Rattle.std.specs.Borrow.{Bor}

abbrev pub part_at : List (Bor (List ℕ)) → ℕ → List ℕ
part_at parts i = slice_index_or (map (λ (x : Bor (List ℕ)). x.now) parts) i []
