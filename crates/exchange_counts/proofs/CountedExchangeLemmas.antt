-- What is told of an exchange are the workers' entries.
use Rattle.std.proofs.Common.{◌≡◌, ℕ, ◌+◌, ◌-◌, ◌<◌, ◌≤◌, List, [], ◌∷◌, ◌++◌, length, map, get_or, Vec, sym, ap, ◌∙◌, arith}
use Rattle.std.specs.Global.{Global}
use Rattle.std.specs.List.{range_with_len}
use Rattle.std.proofs.lemmas.List.{get_or-map, length-map, same_lists, length-append}
use Rattle.std.proofs.lemmas.List.{get_or_append_left, get_or-append_right, get_or_default}
use Rattle.std.proofs.lemmas.List.FromFn.{get_or-map-range_with_len, length-map-range_with_len, map-range_with_len_more}
use Rattle.superstep_machine.specs.Trace.{Exchange}
use Rattle.superstep_machine.specs.Purposes.{purpose_is}
use Rattle.exchange_counts.specs.declared.count.Count.{Count}
use Rattle.exchange_counts.specs.Columns.{columns_of, column_of, entry_of, nothing, AreColumns, AreSame, GrowBy}
use Rattle.exchange_counts.specs.CountedExchanges.{exchange_counted, exchange_told, exchanges_told, no_exchange, exchange_at}

abbrev pub Column : Type 0
Column = Vec Count Global

-- ---- an exchange of all

pub told_long : (columns : List (List Count)) → length (exchanges_told columns) ≡ length (column_of columns 0)
told_long columns = length-map-range_with_len (exchange_told columns) 0 (length (column_of columns 0))

pub told_at : (columns : List (List Count)) (k : ℕ) → 1 ≤ k → k ≤ length (column_of columns 0) →
    exchange_at (exchanges_told columns) k ≡ exchange_told columns (k - 1)
told_at columns k one within =
    get_or-map-range_with_len (exchange_told columns) 0 (length (column_of columns 0)) (k - 1) (k - 1) no_exchange
    (omega (arith, one, within))
    (omega arith)

-- ---- the entries of an exchange

module _ (columns : List (List Count)) (k : ℕ) where
  pub many_sent : length (exchange_told columns k).sent ≡ length columns
  many_sent = length-map (map (entry_of k) columns) (λ (c : Count). c.sent) ∙ length-map columns (entry_of k)

  pub many_received : length (exchange_told columns k).received ≡ length columns
  many_received = length-map (map (entry_of k) columns) (λ (c : Count). c.received) ∙ length-map columns (entry_of k)

  entry_at : (w : ℕ) → w < length columns → get_or (map (entry_of k) columns) w nothing ≡ entry_of k (column_of columns w)
  entry_at w l = get_or-map (entry_of k) columns w [] nothing l

  pub sent_at : (w : ℕ) → w < length columns → get_or (exchange_told columns k).sent w 0 ≡ (entry_of k (column_of columns w)).sent
  sent_at w l =
      get_or-map (λ (c : Count). c.sent) (map (entry_of k) columns) w nothing 0
      (let n = length-map columns (entry_of k) in omega (arith, l, n))
      ∙ ap (λ (c : Count). c.sent) (entry_at w l)

  pub received_at : (w : ℕ) → w < length columns →
      get_or (exchange_told columns k).received w 0 ≡ (entry_of k (column_of columns w)).received
  received_at w l =
      get_or-map (λ (c : Count). c.received) (map (entry_of k) columns) w nothing 0
      (let n = length-map columns (entry_of k) in omega (arith, l, n))
      ∙ ap (λ (c : Count). c.received) (entry_at w l)

  pub purpose_at : 0 < length columns → (exchange_told columns k).purpose ≡ purpose_is (entry_of k (column_of columns 0)).purpose
  purpose_at l = ap (λ (c : Count). purpose_is c.purpose) (entry_at 0 l)

-- a column of the lists that they are in
pub column_is : (columns : List Column) (w : ℕ) (v : Column) → w < length columns → v ≡ get_or columns w v →
    column_of (columns_of columns) w ≡ v.items
column_is columns w v l is = get_or-map (λ (x : Column). x.items) columns w v [] l ∙ ap (λ (x : Column). x.items) (sym is)

pub entry_is : (column items : List Count) (k : ℕ) (x : Count) → column ≡ items → k < length column → x ≡ get_or items k x →
    x ≡ entry_of k column
entry_is column items k x same l is =
    is ∙ ap (λ xs. get_or xs k x) (sym same) ∙ get_or_default column k x nothing l

-- ---- the same entries

pub same_exchange : (columns others : List (List Count)) → AreSame columns others → (k : ℕ) → k < length (column_of columns 0) →
    exchange_told columns k ≡ exchange_told others k
same_exchange columns others same k l =
    ap exchange_counted
    (same_lists (map (entry_of k) columns) (map (entry_of k) others)
    (length-map columns (entry_of k) ∙ sym same.workers ∙ sym (length-map others (entry_of k)))
    (λ w d b.
    let n = length-map columns (entry_of k) in
    let c : w < length columns = omega (arith, b, n) in
    let e = same.workers in
    get_or-map (entry_of k) columns w [] d c ∙ sym (same.entries w k c l)
    ∙ sym (get_or-map (entry_of k) others w [] d (omega (arith, c, e)))))

pub same_told : (columns others : List (List Count)) → AreSame columns others → exchanges_told columns ≡ exchanges_told others
same_told columns others same =
    same_lists (exchanges_told columns) (exchanges_told others)
    (told_long columns ∙ sym same.exchanges ∙ sym (told_long others))
    (λ k d b.
    let n = told_long columns in
    let l : k < length (column_of columns 0) = omega (arith, b, n) in
    let e = same.exchanges in
    get_or-map-range_with_len (exchange_told columns) 0 (length (column_of columns 0)) k k d l (omega arith)
    ∙ same_exchange columns others same k l
    ∙ sym (get_or-map-range_with_len (exchange_told others) 0 (length (column_of others 0)) k k d (omega (arith, l, e)) (omega arith)))

-- ---- the exchanges that are seen

module _ (columns : List (List Count)) (now : List Exchange) (is : exchanges_told columns ≡ now) where
  pub as_long : length (column_of columns 0) ≡ length now
  as_long = sym (told_long columns) ∙ ap length is

  module _ (k : ℕ) (first : 1 ≤ k) (last : k ≤ length now) where
    pub inside : k ≤ length (column_of columns 0)
    inside = (let n = as_long in omega (arith, last, n))

    pub exchange_is : exchange_at now k ≡ exchange_told columns (k - 1)
    exchange_is = ap (λ es. exchange_at es k) (sym is) ∙ told_at columns k first inside

    pub sent_many : length (exchange_at now k).sent ≡ length columns
    sent_many = ap (λ (e : Exchange). length e.sent) exchange_is ∙ many_sent columns (k - 1)

    pub received_many : length (exchange_at now k).received ≡ length columns
    received_many = ap (λ (e : Exchange). length e.received) exchange_is ∙ many_received columns (k - 1)

    pub sent_is : (w : ℕ) → w < length columns → get_or (exchange_at now k).sent w 0 ≡ (entry_of (k - 1) (column_of columns w)).sent
    sent_is w l = ap (λ (e : Exchange). get_or e.sent w 0) exchange_is ∙ sent_at columns (k - 1) w l

    pub received_is : (w : ℕ) → w < length columns →
        get_or (exchange_at now k).received w 0 ≡ (entry_of (k - 1) (column_of columns w)).received
    received_is w l = ap (λ (e : Exchange). get_or e.received w 0) exchange_is ∙ received_at columns (k - 1) w l

    pub purpose_seen : 0 < length columns → (exchange_at now k).purpose ≡ purpose_is (entry_of (k - 1) (column_of columns 0)).purpose
    purpose_seen l = ap (λ (e : Exchange). e.purpose) exchange_is ∙ purpose_at columns (k - 1) l

-- ---- one entry more for each worker

module _ (count : ℕ → Count) (columns more : List (List Count)) (are : AreColumns columns) (grow : GrowBy count columns more) where
  abbrev many : ℕ
  many = length (column_of columns 0)

  more_long : (w : ℕ) → w < length columns → length (column_of more w) ≡ many + 1
  more_long w l =
      let a = ap length (grow.entries w l) ∙ length-append (column_of columns w) (count w ∷ []) in
      let b = are.long w l in
      omega (arith, a, b)

  pub still_columns : AreColumns more
  still_columns = record {
    some = (let n = grow.workers in let p = are.some in omega (arith, n, p));
    long = λ w l.
        let n = grow.workers in
        more_long w (omega (arith, l, n)) ∙ sym (more_long 0 are.some);
  }

  before : (k : ℕ) → k < many → exchange_told more k ≡ exchange_told columns k
  before k b =
      ap exchange_counted
      (same_lists (map (entry_of k) more) (map (entry_of k) columns)
      (length-map more (entry_of k) ∙ grow.workers ∙ sym (length-map columns (entry_of k)))
      (λ w d l.
      let n = length-map more (entry_of k) ∙ grow.workers in
      let c : w < length columns = omega (arith, l, n) in
      let m = grow.workers in
      let long = are.long w c in
      get_or-map (entry_of k) more w [] d (omega (arith, c, m))
      ∙ ap (entry_of k) (grow.entries w c)
      ∙ get_or_append_left (column_of columns w) (count w ∷ []) nothing k (omega (arith, b, long))
      ∙ sym (get_or-map (entry_of k) columns w [] d c)))

  last_one : exchange_told more many ≡ exchange_counted (map count (range_with_len 0 (length columns)))
  last_one =
      ap exchange_counted
      (same_lists (map (entry_of many) more) (map count (range_with_len 0 (length columns)))
      (length-map more (entry_of many) ∙ grow.workers ∙ sym (length-map-range_with_len count 0 (length columns)))
      (λ w d l.
      let n = length-map more (entry_of many) ∙ grow.workers in
      let c : w < length columns = omega (arith, l, n) in
      let m = grow.workers in
      let gone : many - many ≡ 0 = omega arith in
      get_or-map (entry_of many) more w [] d (omega (arith, c, m))
      ∙ ap (entry_of many) (grow.entries w c)
      ∙ get_or-append_right (column_of columns w) (count w ∷ []) many many nothing (are.long w c) (omega arith)
      ∙ ap (λ i. get_or (count w ∷ []) i nothing) gone
      ∙ sym (get_or-map-range_with_len count 0 (length columns) w w d c (omega arith))))

  pub one_more : exchanges_told more ≡ exchanges_told columns ++ exchange_counted (map count (range_with_len 0 (length columns))) ∷ []
  one_more =
      ap (λ n. map (exchange_told more) (range_with_len 0 n)) (more_long 0 are.some)
      ∙ map-range_with_len_more (exchange_told more) 0 many many (omega arith)
      ∙ (λ i. front i ++ last_one i ∷ [])
    where
      front : map (exchange_told more) (range_with_len 0 many) ≡ exchanges_told columns
      front =
          same_lists (map (exchange_told more) (range_with_len 0 many)) (exchanges_told columns)
          (length-map-range_with_len (exchange_told more) 0 many ∙ sym (told_long columns))
          (λ k d l.
          let n = length-map-range_with_len (exchange_told more) 0 many in
          let b : k < many = omega (arith, l, n) in
          get_or-map-range_with_len (exchange_told more) 0 many k k d b (omega arith)
          ∙ before k b
          ∙ sym (get_or-map-range_with_len (exchange_told columns) 0 many k k d b (omega arith)))
