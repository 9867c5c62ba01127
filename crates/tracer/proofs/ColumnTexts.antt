-- Columns, one behind the other, and the most words of all.
use Rattle.std.proofs.Common.{◌≡◌, ℕ, zero, suc, ◌+◌, ◌-◌, ◌<◌, ◌≤◌, max, List, [], ◌∷◌, length, drop, get_or, refl, ap}
use Rattle.std.proofs.Common.{sym, ◌∙◌, arith}
use Rattle.std.proofs.lemmas.List.{drop_all, drop_more, get_or-take, length-take}
use Rattle.superstep_machine.specs.Trace.{Exchange, relation_of}
use Rattle.exchange_counts.specs.CountedExchanges.{exchange_at, no_exchange}
use Rattle.std.specs.Prelude.{Option}
use Rattle.svg_texts.specs.Shapes.{Over}
use Rattle.tracer.specs.Traced.{line_of}
use Rattle.tracer.specs.Picture.{column, columns_from, drawn, most_words, workers_of}

-- an exchange that is drawn is that of the run
pub same_exchange : (es : List Exchange) (i : ℕ) → i < 200 → get_or (drawn es) i no_exchange ≡ exchange_at es (i + 1)
same_exchange es i few =
    let back : i ≡ i + 1 - 1 = omega arith in
    get_or-take 200 es i no_exchange few ∙ ap (λ j. get_or es j no_exchange) back

pub few_drawn : (es : List Exchange) (i : ℕ) → i < length (drawn es) → i < 200
few_drawn es i below = let long = length-take 200 es in omega (arith, below, long)

pub columns_at : (workers most : ℕ) (lines : List ℕ) (es : List Exchange) (i : ℕ) (line : Option ℕ) → i < length (drawn es) →
    line ≡ line_of lines (i + 1) →
    columns_from workers most lines (i + 1) (drop i (drawn es)) ≡
    Over (column workers most (i + 1) line (exchange_at es (i + 1))) (columns_from workers most lines (i + 1 + 1) (drop (i + 1) (drawn
    es)))
columns_at workers most lines es i line below is =
    ap (columns_from workers most lines (i + 1)) (drop_more (drawn es) i no_exchange below)
    ∙ ap (λ e. Over (column workers most (i + 1) (line_of lines (i + 1)) e) (columns_from workers most lines (i + 1 + 1)
    (drop (i + 1) (drawn es))))
    (same_exchange es i (few_drawn es i below))
    ∙ ap (λ l. Over (column workers most (i + 1) l (exchange_at es (i + 1))) (columns_from workers most lines (i + 1 + 1)
    (drop (i + 1) (drawn es))))
    (sym is)

at_most : (es : List Exchange) (i : ℕ) → i < length es → relation_of (get_or es i no_exchange) ≤ most_words es
at_most [] i l = omega (arith, l)
at_most (e ∷ es) zero l = omega arith
at_most (e ∷ es) (suc i) l = let h = at_most es i (omega (arith, l)) in omega (arith, h)

-- no exchange that is drawn has a greater h
pub column_fits : (es : List Exchange) (i : ℕ) → i < length (drawn es) → relation_of (exchange_at es (i + 1)) ≤ most_words (drawn es)
column_fits es i below =
    let h = at_most (drawn es) i below in
    let same = ap relation_of (same_exchange es i (few_drawn es i below)) in
    omega (arith, h, same)

-- with the exchanges that are left, the most so far comes to the most of all
pub most_more : (es : List Exchange) (i now next h : ℕ) → i < length (drawn es) → max now (most_words (drop i (drawn es))) ≡ most_words
    (drawn es) →
    h ≡ relation_of (exchange_at es (i + 1)) → next ≡ max now h → max next (most_words (drop (i + 1) (drawn es))) ≡ most_words (drawn es)
most_more es i now next h below all is more =
    let step = ap most_words (drop_more (drawn es) i no_exchange below) in
    let same = ap relation_of (same_exchange es i (few_drawn es i below)) in
    omega (arith, all, is, more, step, same)

pub most_is : (es : List Exchange) (i now : ℕ) → length (drawn es) ≤ i → max now (most_words (drop i (drawn es))) ≡ most_words (drawn es)
    →
    now ≡ most_words (drawn es)
most_is es i now end all = let none = ap most_words (drop_all i (drawn es) end) in omega (arith, all, none)

-- how many workers there were
pub no_workers : (es : List Exchange) → length es ≡ 0 → 0 ≡ workers_of es
no_workers [] h = refl
no_workers (e ∷ es) h = omega (arith, h)

pub first_workers : (es : List Exchange) (n : ℕ) → ¬ (length es ≡ 0) →
    ((k : ℕ) → 1 ≤ k → k ≤ length es → length (exchange_at es k).sent ≡ n) →
    n ≡ workers_of es
first_workers [] n h is = absurd (h refl)
first_workers (e ∷ es) n h is = sym (is 1 (omega arith) (omega arith))
