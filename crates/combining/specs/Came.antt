-- The values that came to a worker, when the replies of all modules were taken.
use Rattle.std.specs.Prelude.{◌≡◌, ℕ, ◌+◌, ◌^◌, ◌<◌, List, [], ◌∷◌, map, drop, get_or, FitsSigned}
use Rattle.std.specs.List.{AllByRecursion}
use Rattle.std.specs.Int.{w64}
use Rattle.superstep_machine.specs.Setting.{Setting}
use Rattle.superstep_machine.specs.Words.{CellAsk, Message, values_words}
use Rattle.superstep_machine.specs.Worker.{Worker}
use Rattle.superstep_machine.specs.Fitting.{FitsWorker}
use Rattle.superstep_machine.specs.Sending.{after_send}
use Rattle.superstep_machine.specs.Sides.{HaveOneSide}
use Rattle.superstep_machine.specs.Answering.{value_came}
use Rattle.combining.specs.Asked.{HeldAsk, replied, value_for}
use Rattle.combining.specs.Adding.{unanswered, asked_by, asked_after}

-- the words of the replies of modules j, j + 1, .. are taken one after the other
abbrev pub all_replied : (ℕ → ℕ) → ℕ → List (List ℕ) → List HeldAsk → List HeldAsk
all_replied part j [] held = held
all_replied part j (ws ∷ rest) held = all_replied part (j + 1) rest (replied part j ws held)

-- what is left of the replies of modules j, j + 1, .., where so many words were taken of each
abbrev pub left_of_all : List ℕ → ℕ → List (List ℕ) → List (List ℕ)
left_of_all taken j [] = []
left_of_all taken j (ws ∷ rest) = drop (get_or taken j 0) ws ∷ left_of_all taken (j + 1) rest

-- the words of the values of all messages
abbrev pub reply_words : List Message → List (List ℕ)
reply_words = map (λ (m : Message). values_words m.values)

-- values of 64 bits
abbrev pub HasWords : Message → Type 0
HasWords m = AllByRecursion (FitsSigned w64) m.values

-- To asks of cells of 20 bits, for which no value came, the replies of all modules are taken, whose values have 64 bits. Then the value
-- for a read and such a cell is the one that the machine's worker takes: 0 where that wasn't asked, or its module sent too few values.
abbrev pub ValuesAreTheMachines : Type 0
ValuesAreTheMachines = (t : Setting) (s : Worker) (column : List Message) (read cell : ℕ) →
    AllByRecursion (λ (x : CellAsk). x.cell < 2 ^ 20) s.wanted → AllByRecursion HasWords column → cell < 2 ^ 20 →
    value_for read cell (all_replied t.map.part 0 (reply_words column) (map unanswered s.wanted)) ≡ value_came t s column read cell

-- So it is where the asks of a worker that fits were added read by read, and were sent.
abbrev pub AddedAsksGetTheirValues : Type 0
AddedAsksGetTheirValues = (t : Setting) (w : ℕ) (s : Worker) (sends column : List Message) (read cell : ℕ) →
    FitsWorker t s → HaveOneSide s.own 0 s.uniform.asks → AllByRecursion HasWords column → cell < 2 ^ 20 →
    value_for read cell (all_replied t.map.part 0 (reply_words column) (asked_after (asked_by s) []))
    ≡ value_came t (after_send t w s sends) column read cell
