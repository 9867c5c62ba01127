-- That nothing is left out where all has room, and a fault never.
use Rattle.std.proofs.Common.{◌≡◌, ◌∙◌, ◌⊎◌, inl, inr, ℕ, zero, suc, ◌+◌, ◌-◌, ◌<◌, ◌≤◌, Bool, true, false, ◌&&◌, List, [], ◌∷◌, ◌++◌, ap, arith}
use Rattle.std.proofs.Common.{get_or}
use Rattle.std.proofs.Common.{Option, None, Some, length, map, min, nat_le, nat_lt, refl, subst, sym, take}
use Rattle.std.proofs.lemmas.Bool.{cases_lt}
use Rattle.std.proofs.lemmas.Bool.Decides.{nat_tests}
use Rattle.std.proofs.lemmas.List.{take_all}
use Rattle.std.proofs.lemmas.List.Elements.{Contains-append_right}
use Rattle.std.specs.List.{Contains, enumerate_from, fold}
use Rattle.std.specs.Prelude.{if◌then◌else◌}
use Rattle.journal.specs.Entries.{Entry}
use Rattle.pictures.specs.declared.flows.spans.CellSpan.{CellSpan}
use Rattle.pictures.specs.Flows.Cells.{fault_cell, first_rows, least_from, nearer, rows_from, touched, with_fault, with_row}
use Rattle.pictures.specs.Flows.Choice.{faulted, is_fault, is_faulted, ran, touching}
use Rattle.pictures.specs.Flows.Laws.{cells, found, statements}
use Rattle.pictures.proofs.OfFlows.Drawn.{touching_count, touching_is_either}
use Rattle.pictures.proofs.OfFlows.Members.{first, kept, later}
use Rattle.pictures.proofs.OfFlows.ChosenRows.{touched_by_fault}
use Rattle.pictures.proofs.OfFlows.FaultRow.{few_same}
use Rattle.pram_model.proofs.Truths.{unsome}
use Rattle.std.proofs.lemmas.Bool.{ltb-true}
use Rattle.std.proofs.lemmas.Grind.{get_or-set_at}
use Rattle.std.proofs.lemmas.List.{get_or-take, length-set, length-take}
use Rattle.std.specs.Prelude.{slice_index, slice_set}

-- ---- a fault

numbered_at : (n i : ℕ) (es : List Entry) (e : Entry) → i < length es → get_or es i e ≡ e → Contains (enumerate_from n es) (n + i, e)
numbered_at n i [] e within is = absurd (omega (arith, within))
numbered_at n zero (y ∷ ys) e within is =
    let same : n + 0 ≡ n = omega arith in
    subst (λ k. Contains ((n, y) ∷ enumerate_from (n + 1) ys) (k, e)) (sym same)
    (subst (λ z. Contains ((n, z) ∷ enumerate_from (n + 1) ys) (n, e)) (sym is) (first (n, e) (enumerate_from (n + 1) ys)))
numbered_at n (suc i) (y ∷ ys) e within is =
    let same : n + suc i ≡ (n + 1) + i = omega arith in
    subst (λ k. Contains ((n, y) ∷ enumerate_from (n + 1) ys) (k, e)) (sym same)
    (later (n, y) (enumerate_from (n + 1) ys) ((n + 1) + i, e) (numbered_at (n + 1) i ys e (omega (arith, within)) is))

all_three : (a b f : Bool) → a ≡ true → b ≡ true → f ≡ true → ((a && b) && f) ≡ true
all_three true true f ha hb hf = hf
all_three true false f ha hb hf = hb
all_three false b f ha hb hf = ha

fault_counts : (from to k : ℕ) (e : Entry) → is_fault e ≡ true → from ≤ k → k ≤ to → is_faulted from to (k, e) ≡ true
fault_counts from to k e fault low high =
    all_three (nat_le from k) (nat_le k to) (is_fault e) (grind (arith, nat_tests, low)) (grind (arith, nat_tests, high)) fault

pub fault_is_drawn : (es : List Entry) (from to i : ℕ) (e : Entry) → i < length es → get_or es i e ≡ e → is_fault e ≡ true →
    from ≤ 1 + i → 1 + i ≤ to → Contains (statements es from to) (1 + i, e)
fault_is_drawn es from to i e within is fault low high =
    Contains-append_right (take (64 - length (faulted from to es)) (ran from to es)) (faulted from to es) (1 + i, e)
    (kept (is_faulted from to) (enumerate_from 1 es) (1 + i, e) (numbered_at 1 i es e within is)
    (fault_counts from to (1 + i) e fault low high))

-- ---- few statements

pub few_are_drawn : (es : List Entry) (from to : ℕ) → length (ran from to es) ≤ 64 - length (faulted from to es) →
    statements es from to ≡ ran from to es ++ faulted from to es
few_are_drawn es from to few =
    ap (λ ps. ps ++ faulted from to es) (take_all (64 - length (faulted from to es)) (ran from to es) few)

pub touching_is_drawn : (es : List Entry) (from to : ℕ) (p : ℕ × Entry) → length (touching from to es) ≤ 64 →
    Contains (touching from to es) p → Contains (statements es from to) p
touching_is_drawn es from to p few one =
    let whole = touching_count from to es in
    subst (λ (ps : List (ℕ × Entry)). Contains ps p) (sym (few_are_drawn es from to (omega (arith, few, whole))))
    (touching_is_either from to es p one)

-- ---- few cells

-- a least cell that is no greater than c
record IsNoMore (c : ℕ) (o : Option ℕ) : Type 0 where
  least : ℕ
  is : o ≡ Some least
  no_more : least ≤ c

stays : (x c b : ℕ) (d : ℕ) → b ≤ c → IsNoMore c (nearer x (Some b) d)
stays x c b d h = by (cases_lt d x) where
  by : (d < x) ⊎ (x ≤ d) → IsNoMore c (nearer x (Some b) d)
  by (inl below) =
      let is : nat_lt d x ≡ true = grind (arith, nat_tests, below) in
      record { least = b; is = ap (λ t. if t then Some b else Some (min b d)) is; no_more = h }
  by (inr above) =
      let is : nat_lt d x ≡ false = grind (arith, nat_tests, above) in
      record { least = min b d; is = ap (λ t. if t then Some b else Some (min b d)) is; no_more = omega (arith, h) }

keeps : (x c b : ℕ) (ds : List ℕ) → b ≤ c → IsNoMore c (fold (nearer x) (Some b) ds)
keeps x c b [] h = record { least = b; is = refl; no_more = h }
keeps x c b (d ∷ ds) h =
    let s = stays x c b d h in
    subst (λ o. IsNoMore c (fold (nearer x) o ds)) (sym s.is) (keeps x c s.least ds s.no_more)

takes : (x c : ℕ) (o : Option ℕ) → x ≤ c → IsNoMore c (nearer x o c)
takes x c None h =
    let above : nat_lt c x ≡ false = grind (arith, nat_tests, h) in
    record { least = c; is = ap (λ t. if t then None else Some c) above; no_more = omega arith }
takes x c (Some b) h =
    let above : nat_lt c x ≡ false = grind (arith, nat_tests, h) in
    record { least = min b c; is = ap (λ t. if t then Some b else Some (min b c)) above; no_more = omega arith }

finds : (x c : ℕ) (o : Option ℕ) (ds : List ℕ) (k : ℕ) → k < length ds → get_or ds k c ≡ c → x ≤ c → IsNoMore c (fold (nearer x) o ds)
finds x c o [] k within is h = absurd (omega (arith, within))
finds x c o (d ∷ ds) zero within is h =
    let t = takes x c o h in
    subst (λ e. IsNoMore c (fold (nearer x) (nearer x o e) ds)) (sym is)
    (subst (λ p. IsNoMore c (fold (nearer x) p ds)) (sym t.is) (keeps x c t.least ds t.no_more))
finds x c o (d ∷ ds) (suc k) within is h = finds x c (nearer x o d) ds k (omega (arith, within)) is h

-- it has a row, or there are as many rows as can be
abbrev RowOrFull : (more x c : ℕ) (ds : List ℕ) → Type 0
RowOrFull more x c ds = Contains (rows_from more x ds) c ⊎ (length (rows_from more x ds) ≡ more)

next_row : (more x c b : ℕ) (ds : List ℕ) → least_from x ds ≡ Some b → (b ≡ c) ⊎ RowOrFull more (b + 1) c ds → RowOrFull (suc more) x c ds
next_row more x c b ds is found =
    subst (λ (rows : List ℕ). Contains rows c ⊎ (length rows ≡ suc more))
    (sym (ap (λ o. with_row o (λ y. rows_from more y ds)) is)) (by found) where
      by : (b ≡ c) ⊎ RowOrFull more (b + 1) c ds →
          Contains (b ∷ rows_from more (b + 1) ds) c ⊎ (length (b ∷ rows_from more (b + 1) ds) ≡ suc more)
      by (inl same) = inl (subst (λ d. Contains (d ∷ rows_from more (b + 1) ds) c) (sym same) (first c (rows_from more (b + 1) ds)))
      by (inr (inl there)) = inl (later b (rows_from more (b + 1) ds) c there)
      by (inr (inr full)) = inr (omega (arith, full))

below_or_same : (b c : ℕ) → b ≤ c → (b < c) ⊎ (b ≡ c)
below_or_same b c h = by (cases_lt b c) where
  by : (b < c) ⊎ (c ≤ b) → (b < c) ⊎ (b ≡ c)
  by (inl below) = inl below
  by (inr other) = inr (omega (arith, other, h))

row_or_full : (more x c : ℕ) (ds : List ℕ) → Contains ds c → x ≤ c → RowOrFull more x c ds
row_or_full zero x c ds one h = inr refl
row_or_full (suc more) x c ds one h =
    let f = finds x c None ds one.0 one.1 one.2 h in
    next_row more x c f.least ds f.is (by (below_or_same f.least c f.no_more)
    (λ below. row_or_full more (f.least + 1) c ds one (omega (arith, below)))) where
      by : {A B C : Type 0} → A ⊎ B → (A → C) → B ⊎ C
      by (inl a) others = inr (others a)
      by (inr b) others = inl b

pub touched_has_row : (only : List CellSpan) (es : List Entry) (from to c : ℕ) →
    Contains (touched only (map (λ p. p.1) (statements es from to))) c → length (found only es from to) ≤ 64 →
    Contains (cells only es from to) c
touched_has_row only es from to c one few =
    by (row_or_full 65 0 c (touched only (map (λ p. p.1) (statements es from to))) one (omega arith)) where
      same : found only es from to ≡ first_rows only (map (λ p. p.1) (statements es from to))
      same =
          let drawn = map (λ p. p.1) (statements es from to) in few_same (fault_cell only drawn) (first_rows only drawn) few

      by : RowOrFull 65 0 c (touched only (map (λ p. p.1) (statements es from to))) → Contains (cells only es from to) c
      by (inl row) = subst (λ (rows : List ℕ). Contains rows c) (sym (take_all 64 (found only es from to) few ∙ same)) row
      by (inr full) = let long = ap length same in absurd (omega (arith, full, few, long))

-- ---- the row of a fault

next_within : (more b c k : ℕ) (ds : List ℕ) (o : Option ℕ) → o ≡ Some b → b ≤ c →
    ((j : ℕ) → b < c → j < length (rows_from more (b + 1) ds) → c ≤ get_or (rows_from more (b + 1) ds) j 0 →
    Contains (take (suc j) (rows_from more (b + 1) ds)) c) → k < length (with_row o (λ y. rows_from more y ds)) →
    c ≤ get_or (with_row o (λ y. rows_from more y ds)) k 0 → Contains (take (suc k) (with_row o (λ y. rows_from more y ds))) c
next_within more b c k ds None is low rest within least = cc
next_within more b c zero ds (Some a) is low rest within least =
    let same : a ≡ b = unsome a b is in
    subst (λ d. Contains (d ∷ take 0 (rows_from more (a + 1) ds)) c) (omega (arith, same, low, least))
    (first c (take 0 (rows_from more (a + 1) ds)))
next_within more b c (suc j) ds (Some a) is low rest within least = by (below_or_same b c low)
  where
    same : a ≡ b
    same = unsome a b is

    by : (b < c) ⊎ (b ≡ c) → Contains (a ∷ take (suc j) (rows_from more (a + 1) ds)) c
    by (inr at) =
        subst (λ d. Contains (d ∷ take (suc j) (rows_from more (a + 1) ds)) c) (omega (arith, same, at))
        (first c (take (suc j) (rows_from more (a + 1) ds)))
    by (inl below) =
        later a (take (suc j) (rows_from more (a + 1) ds)) c
        (subst (λ d. d < c → j < length (rows_from more (d + 1) ds) → c ≤ get_or (rows_from more (d + 1) ds) j 0 →
        Contains (take (suc j) (rows_from more (d + 1) ds)) c) (sym same) (rest j) (omega (arith, below, same)) (omega (arith, within)) least)

row_within : (more x c : ℕ) (ds : List ℕ) (k : ℕ) → Contains ds c → x ≤ c → k < length (rows_from more x ds) →
    c ≤ get_or (rows_from more x ds) k 0 → Contains (take (suc k) (rows_from more x ds)) c
row_within zero x c ds k one h within least = absurd (omega (arith, within))
row_within (suc more) x c ds k one h within least =
    let f = finds x c None ds one.0 one.1 one.2 h in
    next_within more f.least c k ds (least_from x ds) f.is f.no_more
    (λ j below. row_within more (f.least + 1) c ds j one (omega (arith, below))) within least

fault_row_by : (c : ℕ) (ds : List ℕ) → Contains ds c → Contains (take 64 (with_fault (Some c) (rows_from 65 0 ds))) c
fault_row_by c ds one = by (nat_lt 64 (length rows)) (nat_lt (slice_index rows 63) c) refl refl
  where
    rows : List ℕ
    rows = rows_from 65 0 ds

    few : length rows ≤ 64 → RowOrFull 65 0 c ds → Contains (take 64 rows) c
    few short (inl row) = subst (λ (l : List ℕ). Contains l c) (sym (take_all 64 rows short)) row
    few short (inr full) = absurd (omega (arith, full, short))

    put : 64 < length rows → Contains (take 64 (slice_set rows 63 c)) c
    put long =
        let same = length-set rows 63 c in
        let short = length-take 64 (slice_set rows 63 c) in (
          63,
          omega (arith, long, same, short),
          get_or-take 64 (slice_set rows 63 c) 63 c (omega arith) ∙ get_or-set_at rows 63 63 c c refl (omega (arith, long)),
        )

    by : (a b : Bool) → nat_lt 64 (length rows) ≡ a → nat_lt (slice_index rows 63) c ≡ b →
        Contains (take 64 (if a && b then slice_set rows 63 c else rows)) c
    by true true many less = put (ltb-true 64 (length rows) many)
    by true false many less =
        let long : 64 < length rows = ltb-true 64 (length rows) many in
        let most : c ≤ get_or rows 63 0 = grind (arith, nat_tests, less) in
        row_within 65 0 c ds 63 one (omega arith) (omega (arith, long)) most
    by false b many less = few (grind (arith, nat_tests, many)) (row_or_full 65 0 c ds one (omega arith))

pub fault_has_row : (only : List CellSpan) (es : List Entry) (from to c : ℕ) →
    fault_cell only (map (λ p. p.1) (statements es from to)) ≡ Some c → Contains (cells only es from to) c
fault_has_row only es from to c is =
    let drawn = map (λ p. p.1) (statements es from to) in
    subst (λ f. Contains (take 64 (with_fault f (first_rows only drawn))) c) (sym is)
    (fault_row_by c (touched only drawn) (touched_by_fault only drawn c is))
