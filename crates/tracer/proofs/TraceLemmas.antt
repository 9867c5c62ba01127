-- The text of a trace, piece by piece.
use Rattle.std.proofs.Common.{◌≡◌, ℕ, ◌+◌, ◌-◌, ◌<◌, List, [], ◌∷◌, ◌++◌, length, drop, get_or, codes}
use Rattle.std.proofs.Common.{refl, ap, sym, ◌∙◌, arith}
use Rattle.std.specs.Prelude.{Option, decimal}
use Rattle.std.specs.Fmt.{digits}
use Rattle.std.proofs.lemmas.List.{append-nil, drop_more}
use Rattle.superstep_machine.specs.Trace.{Exchange}
use Rattle.exchange_counts.specs.CountedExchanges.{exchange_at, no_exchange}
use Rattle.superstep_machine.specs.Run.{Sends, Replies, Votes, Closes}
use Rattle.tracer.specs.Cost.{cost_text}
use Rattle.tracer.specs.Traced.{spaced, exchange_text, line_of, lines_from, trace_text}

-- the number at i, and what stands behind it
pub numbers_at : (numbers : List ℕ) (i : ℕ) (digits : List ℕ) → i < length numbers → digits ≡ decimal (get_or numbers i 0) →
    spaced (drop i numbers) ≡ (32 ∷ (digits ++ [])) ++ spaced (drop (i + 1) numbers)
numbers_at numbers i digits below is =
    ap spaced (drop_more numbers i 0 below)
    ∙ ap (λ l. 32 ∷ (l ++ spaced (drop (i + 1) numbers))) (sym is ∙ sym (append-nil digits))

-- the exchange at i, and the lines behind it
pub exchanges_at : (lines : List ℕ) (exchanges : List Exchange) (i : ℕ) (line : Option ℕ) → i < length exchanges →
    line ≡ line_of lines (i + 1) →
    lines_from lines (i + 1) (drop i exchanges)
    ≡ exchange_text (i + 1) line (exchange_at exchanges (i + 1)) ++ lines_from lines (i + 1 + 1) (drop (i + 1) exchanges)
exchanges_at lines exchanges i line below is =
    let same : i ≡ i + 1 - 1 = omega arith in
    ap (lines_from lines (i + 1)) (drop_more exchanges i no_exchange below)
    ∙ ap (λ j. exchange_text (i + 1) (line_of lines (i + 1)) (get_or exchanges j no_exchange)
    ++ lines_from lines (i + 1 + 1) (drop (i + 1) exchanges)) same
    ∙ ap (λ l. exchange_text (i + 1) l (exchange_at exchanges (i + 1)) ++ lines_from lines (i + 1 + 1) (drop (i + 1) exchanges)) (sym is)

-- the worked trace
pub worked : trace_text (12 ∷ 12 ∷ 4294967295 ∷ []) (record { purpose = Sends; sent = 2 ∷ 2 ∷ []; received = 3 ∷ 1 ∷ [] }
    ∷ record { purpose = Replies; sent = 2 ∷ 1 ∷ []; received = 1 ∷ 2 ∷ [] }
    ∷ record { purpose = Votes 7; sent = 0 ∷ 0 ∷ []; received = 0 ∷ 0 ∷ [] }
    ∷ record { purpose = Closes; sent = 0 ∷ 10 ∷ []; received = 0 ∷ 10 ∷ [] } ∷ [])
    ≡ codes "1 send sent 2 2 received 3 1 h 3 line 12\n2 reply sent 2 1 received 1 2 h 2 line 12\n"
    ++ codes "3 vote sent 0 0 received 0 0 h 0 line 4294967295\n4 close sent 0 10 received 0 10 h 10\n"
unfolding digits
worked = refl

-- and what its exchanges cost
pub worked_cost : cost_text 4 100 (record { purpose = Sends; sent = 2 ∷ 2 ∷ []; received = 3 ∷ 1 ∷ [] }
    ∷ record { purpose = Closes; sent = 0 ∷ 10 ∷ []; received = 0 ∷ 10 ∷ [] } ∷ [])
    ≡ codes "cost 252\n"
unfolding digits
worked_cost = refl
