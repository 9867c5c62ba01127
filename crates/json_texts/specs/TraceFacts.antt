-- What JSON says of the exchanges of a run.
use Rattle.std.specs.Prelude.{ℕ, ◌+◌, ◌-◌, Bool, true, false, List, [], ◌∷◌, ◌++◌, Option, Some, None, codes}
use Rattle.std.specs.List.{slice_get}
use Rattle.serde_json.specs.Data.{Data}
use Rattle.json_texts.specs.Facts.{Field, count, counts, large, object_of, word}
use Rattle.superstep_machine.specs.Run.{Purpose, Sends, Replies, Votes, Closes}
use Rattle.superstep_machine.specs.Trace.{Exchange, relation_of}
use Rattle.pram_model.specs.Layout.{SharedEntry}
use Rattle.json_texts.specs.OutcomeFacts.{outcome_fields}
use Rattle.write_rules.specs.Verdict.{Verdict, Ended, Faulted, GoesOn}

-- what an exchange was for
abbrev pub purpose_word : Purpose → List ℕ
purpose_word Sends = codes "send"
purpose_word Replies = codes "reply"
purpose_word (Votes destination) = codes "vote"
purpose_word Closes = codes "close"

-- an exchange by its number, what it was for, the words that each worker sent and received, and the greatest of these
abbrev pub exchange_fields : ℕ → Exchange → List Field
exchange_fields k e =
    (codes "exchange", count k) ∷ (codes "for", word (purpose_word e.purpose)) ∷ (codes "sent", counts e.sent)
    ∷ (codes "received", counts e.received) ∷ (codes "h", count (relation_of e)) ∷ []

-- and the line of the statement that it serves, where that is known
abbrev pub line_fields : Option ℕ → List Field
line_fields None = []
line_fields (Some line) = (codes "line", count line) ∷ []

abbrev pub exchange_facts : ℕ → Option ℕ → Exchange → Data
exchange_facts k line e = object_of (exchange_fields k e ++ line_fields line)

-- the line of exchange k, counted from 1, where there is one
abbrev pub line_of : (lines : List ℕ) → (k : ℕ) → Option ℕ
line_of lines k = slice_get lines (k - 1)

-- those of exchanges that are numbered from k on
abbrev pub exchanges_from : (lines : List ℕ) → ℕ → List Exchange → List Data
exchanges_from lines k [] = []
exchanges_from lines k (e ∷ es) = exchange_facts k (line_of lines k) e ∷ exchanges_from lines (k + 1) es

-- how a run came out
abbrev pub way : Verdict → List ℕ
way (Ended output memory) = codes "ended"
way (Faulted fault output) = codes "fault"
way (GoesOn output) = codes "goes on"

-- what its exchanges cost, where that is told
abbrev pub cost_fields : Option ℕ → List Field
cost_fields None = []
cost_fields (Some n) = (codes "cost", large n) ∷ []

-- how a run came out, and where all of its outcome is told what it printed and its memory or its fault too
abbrev pub end_fields : (whole : Bool) → List SharedEntry → Verdict → List Field
end_fields true layout v = outcome_fields layout v
end_fields false layout v = (codes "outcome", word (way v)) ∷ []

abbrev pub way_facts : (whole : Bool) → List SharedEntry → Verdict → (cost : Option ℕ) → Data
way_facts whole layout v cost = object_of (end_fields whole layout v ++ cost_fields cost)

-- the exchanges of a run, from number 1 on, and behind them how it came out
abbrev pub trace_facts : (lines : List ℕ) → (whole : Bool) → List SharedEntry → (cost : Option ℕ) → List Exchange → Verdict → List Data
trace_facts lines whole layout cost es v = exchanges_from lines 1 es ++ way_facts whole layout v cost ∷ []
