-- The costs of lines, row by row, are those of their time steps.
use Rattle.std.proofs.Common.{◌≡◌, ℕ, zero, suc, ◌+◌, ◌<◌, ◌≤◌, List, [], ◌∷◌, ◌++◌, map, length, get_or, refl, ap, sym, ◌∙◌, if◌then◌else◌}
use Rattle.std.proofs.Common.{cond, Bool, true, false, nat_eq, nat_lt, append-nil, arith}
use Rattle.std.specs.List.{filter}
use Rattle.std.proofs.lemmas.Bool.{le-ltb, lt-ltb, ne_eqb}
use Rattle.std.proofs.lemmas.List.{get_or_past, length-map, map-append}
use Rattle.std.proofs.lemmas.List.Elements.{filter-append}
use Rattle.pram_meaning.specs.Store.{numbers}
use Rattle.costs.specs.declared.ledger.Ledger.{Ledger}
use Rattle.costs.specs.declared.line_cost.LineCost.{LineCost}
use Rattle.costs.specs.declared.tally.Tally.{Tally}
use Rattle.costs.specs.declared.time_step.TimeStep.{TimeStep}
use Rattle.exchange_bound.specs.Events.{Event}
use Rattle.costs.specs.Accounts.{Accounts, entered, entered_all, met_all, opened}
use Rattle.costs.specs.Spending.{spend_all, unspent}
use Rattle.costs.specs.Cost.{has_run, last_line, line_cost, line_costs, on_line}
use Rattle.costs.specs.Ledgers.{ledger_is, row_at, spending_is, tally_is}
use Rattle.costs.specs.RowCosts.{cost_of_row, costs_of_rows, row_has_run}
use Rattle.costs.specs.Totals.{Totals, added, added_all, nothing}
use Rattle.costs.proofs.Rows.{row_read}
use Rattle.costs.proofs.Sums.{reads_are, time_is, work_is, writes_are}

-- ---- numbers in order

numbers_joined : (a k m b n : ℕ) → n ≡ k + m → b ≡ a + k → numbers a n ≡ numbers a k ++ numbers b m
numbers_joined a zero m b n p q =
    let e : n ≡ m = omega (arith, p) in
    let f : a ≡ b = omega (arith, q) in
    ap (numbers a) e ∙ ap (λ b. numbers b m) f
numbers_joined a (suc k) m b n p q =
    let e : n ≡ suc (k + m) = omega (arith, p) in
    let f : b ≡ a + 1 + k = omega (arith, q) in
    ap (numbers a) e ∙ ap (λ l. a ∷ l) (numbers_joined (a + 1) k m b (k + m) refl f)

none_kept : (p : ℕ → Bool) (a k : ℕ) → ((l : ℕ) → a ≤ l → p l ≡ false) → filter p (numbers a k) ≡ []
none_kept p a zero h = refl
none_kept p a (suc k) h =
    ap (λ b. cond b (a ∷ filter p (numbers (a + 1) k)) (filter p (numbers (a + 1) k))) (h a (omega arith))
    ∙ none_kept p (a + 1) k (λ l more. h l (omega (arith, more)))

-- further numbers, of which none is kept
no_more : (p : ℕ → Bool) (a k : ℕ) → ((l : ℕ) → a ≤ l → p l ≡ false) → filter p (numbers 0 (a + k)) ≡ filter p (numbers 0 a)
no_more p a k h =
    let e : a ≡ 0 + a = omega arith in
    ap (filter p) (numbers_joined 0 a k a (a + k) refl e) ∙ filter-append p (numbers 0 a) (numbers a k)
    ∙ ap (λ l. filter p (numbers 0 a) ++ l) (none_kept p a k h)
    ∙ append-nil (filter p (numbers 0 a))

same_kept : (p : ℕ → Bool) (a b : ℕ) → ((l : ℕ) → a ≤ l → p l ≡ false) → ((l : ℕ) → b ≤ l → p l ≡ false) →
    filter p (numbers 0 a) ≡ filter p (numbers 0 b)
same_kept p a b h g =
    let e : a + b ≡ b + a = omega arith in
    sym (no_more p a b h) ∙ ap (λ k. filter p (numbers 0 k)) e ∙ no_more p b a g

-- ---- one row more

costs_more : (rows : List Tally) (k : ℕ) (b : Bool) → row_has_run rows k ≡ b →
    costs_of_rows rows (k + 1) ≡ costs_of_rows rows k ++ cond b (cost_of_row k (row_at rows k) ∷ []) []
costs_more rows k b e =
    let F : List ℕ → List LineCost = map (λ l. cost_of_row l (row_at rows l)) in
    let s : k ≡ 0 + k = omega arith in
    ap (λ l. F (filter (row_has_run rows) l)) (numbers_joined 0 k 1 k (k + 1) refl s)
    ∙ ap F (filter-append (row_has_run rows) (numbers 0 k) (k ∷ []))
    ∙ map-append (λ l. cost_of_row l (row_at rows l)) (filter (row_has_run rows) (numbers 0 k)) (filter (row_has_run rows) (k ∷ []))
    ∙ ap (λ c. costs_of_rows rows k ++ F (cond c (k ∷ []) [])) e
    ∙ ap (λ l. costs_of_rows rows k ++ l) (one b)
  where
    one : (b : Bool) → map (λ l. cost_of_row l (row_at rows l)) (cond b (k ∷ []) []) ≡ cond b (cost_of_row k (row_at rows k) ∷ []) []
    one true = refl
    one false = refl

pub row_told : (rows : List Tally) (k : ℕ) (row : Tally) (costs new : List LineCost) (c : LineCost) → k < length rows →
    row ≡ get_or rows k row → costs ≡ costs_of_rows rows k → 0 < row.time → c ≡ cost_of_row k (tally_is row) → new ≡ costs ++ c ∷ [] →
    new ≡ costs_of_rows rows (k + 1)
row_told rows k row costs new c h r i ran is n =
    let same : tally_is row ≡ row_at rows k = row_read rows k row h r in
    n ∙ ap (λ l. l ++ c ∷ []) i ∙ ap (λ c. costs_of_rows rows k ++ c ∷ []) (is ∙ ap (cost_of_row k) same)
    ∙ sym (costs_more rows k true (ap (λ (t : Totals). nat_lt 0 t.time) (sym same) ∙ lt-ltb 0 row.time ran))

pub row_passed : (rows : List Tally) (k : ℕ) (row : Tally) (costs new : List LineCost) → k < length rows →
    row ≡ get_or rows k row → costs ≡ costs_of_rows rows k → row.time ≤ 0 → new ≡ costs → new ≡ costs_of_rows rows (k + 1)
row_passed rows k row costs new h r i ran n =
    let same : tally_is row ≡ row_at rows k = row_read rows k row h r in
    n ∙ i ∙ sym (append-nil (costs_of_rows rows k))
    ∙ sym (costs_more rows k false (ap (λ (t : Totals). nat_lt 0 t.time) (sym same) ∙ le-ltb 0 row.time ran))

-- ---- what is entered for a line are its time steps

all_are : (q : ℕ) (ss : List TimeStep) (a : Accounts) → (entered_all q ss a).all ≡ added_all q ss a.all
all_are q [] a = refl
all_are q (s ∷ ss) a = all_are q ss (entered q s a)

picked : (q : ℕ) (s : TimeStep) (xs : List TimeStep) (t : Totals) (b : Bool) →
    added_all q xs (if b then added q s t else t) ≡ added_all q (cond b (s ∷ xs) xs) t
picked q s xs t true = refl
picked q s xs t false = refl

lines_are : (q : ℕ) (ss : List TimeStep) (a : Accounts) (l : ℕ) → (entered_all q ss a).lines l ≡ added_all q (on_line ss l) (a.lines l)
lines_are q [] a l = refl
lines_are q (s ∷ ss) a l = lines_are q ss (entered q s a) l ∙ picked q s (on_line ss l) (a.lines l) (nat_eq s.line l)

pub all_told : (q : ℕ) (ss : List TimeStep) (es : List Event) (k : Ledger) → ledger_is k ≡ entered_all q ss (met_all es opened) →
    tally_is k.all ≡ added_all q ss nothing
all_told q ss es k is = ap (λ (a : Accounts). a.all) is ∙ all_are q ss (met_all es opened)

pub rows_told : (q : ℕ) (ss : List TimeStep) (es : List Event) (k : Ledger) → ledger_is k ≡ entered_all q ss (met_all es opened) →
    (l : ℕ) → row_at k.lines.items l ≡ added_all q (on_line ss l) nothing
rows_told q ss es k is l = ap (λ (a : Accounts). a.lines l) is ∙ lines_are q ss (met_all es opened) l

-- time steps spend nothing
exchanges_are : (q : ℕ) (ss : List TimeStep) (a : Accounts) → (entered_all q ss a).exchanges ≡ a.exchanges
exchanges_are q [] a = refl
exchanges_are q (s ∷ ss) a = exchanges_are q ss (entered q s a)

pub exchanges_told : (q : ℕ) (ss : List TimeStep) (es : List Event) (k : Ledger) → ledger_is k ≡ entered_all q ss (met_all es opened) →
    spending_is k.exchanges ≡ spend_all es unspent
exchanges_told q ss es k is = ap (λ (a : Accounts). a.exchanges) is ∙ exchanges_are q ss (met_all es opened)

-- no time step stands behind the last line
none_behind : (ss : List TimeStep) (l : ℕ) → last_line ss + 1 ≤ l → on_line ss l ≡ []
none_behind [] l h = refl
none_behind (s ∷ ss) l h =
    ap (λ b. cond b (s ∷ on_line ss l) (on_line ss l)) (ne_eqb s.line l (λ e. absurd (omega (arith, h, e))))
    ∙ none_behind ss l (omega (arith, h))

module _ (q : ℕ) (ss : List TimeStep) (rows : List Tally) (are : (l : ℕ) → row_at rows l ≡ added_all q (on_line ss l) nothing) where
  cost_is : (l : ℕ) → cost_of_row l (row_at rows l) ≡ line_cost ss l
  cost_is l = λ j. record {
    line = l;
    times = time_is q (on_line ss l) (row_at rows l) (are l) j;
    work = work_is q (on_line ss l) (row_at rows l) (are l) j;
    reads = reads_are q (on_line ss l) (row_at rows l) (are l) j;
    writes = writes_are q (on_line ss l) (row_at rows l) (are l) j;
  }

  runs : (l : ℕ) → row_has_run rows l ≡ has_run ss l
  runs l = ap (nat_lt 0) (time_is q (on_line ss l) (row_at rows l) (are l))

  past_rows : (l : ℕ) → length rows ≤ l → has_run ss l ≡ false
  past_rows l h =
      sym (runs l) ∙ ap (λ (t : Totals). nat_lt 0 t.time) (get_or_past (map tally_is rows) l nothing
      (let e = length-map rows tally_is in omega (arith, h, e)))

  past_lines : (l : ℕ) → last_line ss + 1 ≤ l → has_run ss l ≡ false
  past_lines l h = ap (λ xs. nat_lt 0 (length xs)) (none_behind ss l h)

  pub lines_told : (costs : List LineCost) → costs ≡ costs_of_rows rows (length rows) → costs ≡ line_costs ss
  lines_told costs is =
      is ∙ ap (λ f. map f (filter (row_has_run rows) (numbers 0 (length rows)))) (λ j l. cost_is l j)
      ∙ ap (λ f. map (line_cost ss) (filter f (numbers 0 (length rows)))) (λ j l. runs l j)
      ∙ ap (map (line_cost ss)) (same_kept (has_run ss) (length rows) (last_line ss + 1) past_rows past_lines)
