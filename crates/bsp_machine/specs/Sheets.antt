-- What rows and columns of messages stand for.
use Rattle.std.specs.Prelude.{◌≡◌, ℕ, List, [], ◌∷◌, map, length, vec_capacity, slice_index_or, replicate, nat_le, if◌then◌else◌}
use Rattle.worker_exchange.specs.Rows.{WrittenMessage}
use Rattle.bsp_machine.specs.declared.letter.Letter.{Letter}
use Rattle.bsp_machine.specs.declared.sheet.Sheet.{Sheet}

abbrev pub message_in : Letter → WrittenMessage
message_in x = record { header = x.header; words = x.words.items }

-- nothing was written
abbrev pub no_words : WrittenMessage
no_words = record { header = 0 ∷ 0 ∷ 0 ∷ 0 ∷ []; words = [] }

abbrev pub messages_in : Sheet → List WrittenMessage
messages_in s = map message_in s.letters.items

-- for how many words each message has room
abbrev pub rooms_in : Sheet → List ℕ
rooms_in s = map (λ (x : Letter). vec_capacity x.words) s.letters.items

abbrev pub least_room : List ℕ → ℕ
least_room [] = 0
least_room (n ∷ []) = n
least_room (n ∷ m ∷ rooms) = if nat_le n (least_room (m ∷ rooms)) then n else least_room (m ∷ rooms)

-- the message to worker w of each row
abbrev pub picked : ℕ → List Sheet → List WrittenMessage
picked w rows = map (λ (s : Sheet). slice_index_or (messages_in s) w no_words) rows

-- how many words the longest message has
abbrev pub longest : List WrittenMessage → ℕ
longest [] = 0
longest (x ∷ xs) = if nat_le (length x.words) (longest xs) then longest xs else length x.words

-- a row to p workers, each message with room for so many words
abbrev pub IsSheet : ℕ → ℕ → Sheet → Type 0
IsSheet p most s = rooms_in s ≡ replicate p most
