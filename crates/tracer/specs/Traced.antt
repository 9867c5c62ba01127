-- The trace of a run: a line for each exchange.
use Rattle.std.specs.Prelude.{ℕ, ◌+◌, ◌-◌, List, [], ◌∷◌, ◌++◌, Option, Some, None, codes, decimal}
use Rattle.std.specs.List.{slice_get}
use Rattle.superstep_machine.specs.Trace.{Exchange, relation_of}
use Rattle.superstep_machine.specs.Run.{Purpose, Sends, Replies, Votes, Closes}

abbrev pub kind_text : Purpose → List ℕ
kind_text Sends = codes "send"
kind_text Replies = codes "reply"
kind_text (Votes destination) = codes "vote"
kind_text Closes = codes "close"

-- numbers in decimal, each behind a space
abbrev pub spaced : List ℕ → List ℕ
spaced [] = []
spaced (n ∷ ns) = codes " " ++ (decimal n ++ spaced ns)

-- `2 reply sent`
abbrev pub front_text : ℕ → Purpose → List ℕ
front_text k purpose = decimal k ++ (codes " " ++ (kind_text purpose ++ codes " sent"))

abbrev pub received_text : List ℕ → List ℕ
received_text words = codes " received" ++ spaced words

-- ` 2 1 received 1 2`
abbrev pub words_text : Exchange → List ℕ
words_text e = spaced e.sent ++ received_text e.received

abbrev pub relation_text : ℕ → List ℕ
relation_text h = codes " h " ++ decimal h

-- ` line 7`, where the line is known, and the end
abbrev pub line_text : Option ℕ → List ℕ
line_text None = codes "\n"
line_text (Some line) = codes " line " ++ (decimal line ++ codes "\n")

abbrev pub ending_text : ℕ → Option ℕ → List ℕ
ending_text h line = relation_text h ++ line_text line

abbrev pub rest_text : Option ℕ → Exchange → List ℕ
rest_text line e = words_text e ++ ending_text (relation_of e) line

-- `2 reply sent 2 1 received 1 2 h 2 line 7`, for exchange 2
abbrev pub exchange_text : ℕ → Option ℕ → Exchange → List ℕ
exchange_text k line e = front_text k e.purpose ++ rest_text line e

-- the line of exchange k, counted from 1, where there is one
abbrev pub line_of : List ℕ → (k : ℕ) → Option ℕ
line_of lines k = slice_get lines (k - 1)

-- the texts of exchanges from number k on
abbrev pub lines_from : (lines : List ℕ) → (k : ℕ) → List Exchange → List ℕ
lines_from lines k [] = []
lines_from lines k (e ∷ es) = exchange_text k (line_of lines k) e ++ lines_from lines (k + 1) es

-- of exchanges that serve the statements of these lines
abbrev pub trace_text : (lines : List ℕ) → List Exchange → List ℕ
trace_text lines = lines_from lines 1
