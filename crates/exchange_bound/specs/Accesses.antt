-- The words that the accesses of events take: work bounds communication.
use Rattle.std.specs.Prelude.{ℕ, ◌+◌, ◌*◌, List, [], ◌∷◌, Some, None}
use Rattle.exchange_bound.specs.Events.{Event, Runs, Cut, Votes}
use Rattle.exchange_bound.specs.Bound.{one_if}

-- With p workers, where a write takes so many words: two for a read, of each worker outside pardo, and inside of each processor of the set;
-- and those of a write, of one processor outside pardo, and inside of each of the set.
abbrev pub words_by : (p write : ℕ) → Event → ℕ
words_by p write (Runs levels writes None reads) = 2 * p * reads + write * one_if writes
words_by p write (Runs levels writes (Some k) reads) = 2 * k * reads + write * k * one_if writes
words_by p write Cut = 0
words_by p write Votes = 0

abbrev pub words : (p write : ℕ) → List Event → ℕ
words p write [] = 0
words p write (e ∷ es) = words_by p write e + words p write es
