-- Reads of several processors, and the rows in which they are known.
use Rattle.std.proofs.Common.{◌≡◌, inl, inr, ℕ, zero, suc, ◌+◌, ◌<◌, ◌≤◌, List, [], ◌∷◌, length, refl, sym, subst, ap, ◌∙◌}
use Rattle.std.proofs.Common.{Bool, true, false, if◌then◌else◌, Option, Some, None, ℤ, arith, tests, nat_eq, nat_lt}
use Rattle.std.specs.Prelude.{slice_get, slice_index_or}
use Rattle.std.specs.List.{Contains, All, flat_map, list_any}
use Rattle.std.proofs.lemmas.Int.{ints}
use Rattle.std.proofs.lemmas.List.Elements.{All-head, All-tail}
use Rattle.pram_model.specs.declared.rule.Rule.{Rule}
use Rattle.pram_values.specs.Truth.{is_equal}
use Rattle.pram_values.specs.declared.kind.Kind.TheVariants.{ReadConflict}
use Rattle.write_rules.specs.Rule.{shares_reads}
use Rattle.pram_meaning.specs.Attempt.{Attempt, Gives, Fails, Trail}
use Rattle.pram_meaning.specs.Conflict.{Part, reads_on, reads_of, trail_of, is_conflict, conflict_of, read_conflicts, read_key}
use Rattle.pram_meaning.specs.declared.key.Key.{Key}
use Rattle.pram_meaning.specs.declared.read.Read.{Read}
use Rattle.abstract_runs.specs.declared.findings.Findings.{Findings}
use Rattle.abstract_runs.specs.declared.reach.Reach.{Reach}
use Rattle.abstract_runs.specs.declared.row.Row.{Row}
use Rattle.abstract_runs.specs.Apart.{Reaches, AreApart}
use Rattle.abstract_runs.specs.Columns.{AreApartBefore, column}
use Rattle.abstract_runs.specs.Covers.{IsReached}
use Rattle.abstract_runs.specs.Rows.{ArePartsBy, IsPartBy}
use Rattle.abstract_runs.specs.Rows as rows
use Rattle.abstract_runs.specs.Tried.{GoesAlong, IsTried}
use Rattle.abstract_runs.proofs.Among.{any_one, comes_from, first_or_rest, none_there}

-- ---- positions one by one

-- one position more
pub position_more : (rows : List Row) (k : ℕ) → AreApartBefore (Some (k + 1)) rows → AreApart (column k rows) →
    AreApartBefore (Some (k + 1 + 1)) rows
position_more rows k h last d below = by (nat_eq d k) refl
  where
    by : (b : Bool) → nat_eq d k ≡ b → AreApart (column d rows)
    by true e = let same : k ≡ d = grind (arith, tests, e) in subst (λ d. AreApart (column d rows)) same last
    by false e = h d (let other : nat_eq d k ≡ false = e in grind (arith, tests, other, below))

read_past : {A : Type 0} (xs : List A) (k : ℕ) (d : A) → length xs ≤ k → slice_index_or xs k d ≡ d
read_past [] k d past = refl
read_past (x ∷ xs) zero d past = absurd (omega (arith, past))
read_past (x ∷ xs) (suc k) d past = read_past xs k d (omega (arith, past))

-- nothing is read at a position past all trails
nothing_past : (rows : List Row) (k n j c : ℕ) → All (λ row. length row.trail.items ≤ n) rows → n ≤ k → Reaches (column k rows) j c → ⊥
nothing_past [] k n j c short past r = absurd (cc r.is)
nothing_past (row ∷ rows) k n zero c short past r =
    let l : length row.trail.items ≤ n = All-head (λ row. length row.trail.items ≤ n) row rows short in
    let e = read_past row.trail.items k None (omega (arith, l, past)) in
    let is : Some (slice_index_or row.trail.items k None) ≡ Some (Some r.reach) = r.is in
    absurd (cc (e, is))
nothing_past (row ∷ rows) k n (suc j) c short past r =
    nothing_past rows k n j c (All-tail (λ row. length row.trail.items ≤ n) row rows short) past
    (record { reach = r.reach; is = r.is; reached = r.reached })

pub all_positions : (rows : List Row) (n k : ℕ) → AreApartBefore (Some (k + 1)) rows → All (λ row. length row.trail.items ≤ n) rows →
    n ≤ k →
    AreApartBefore None rows
all_positions rows n k h short past d = by (nat_lt d k) refl
  where
    by : (b : Bool) → nat_lt d k ≡ b → AreApart (column d rows)
    by true e = h d (let below : d < k = grind (arith, tests, e) in omega (arith, below))
    by false e = λ i j c one other. absurd (nothing_past rows d n i c short (grind (arith, tests, e, past)) one)

-- ---- a read, and the row in which it is known

record IsReadAlong (rs : List (Option Reach)) (i : ℤ) (at : ℕ) (r : Read) : Type 0 where
  pub behind : ℕ
  pub processor : r.processor ≡ i
  pub position : r.at ≡ at + behind + 1
  pub reach : Reach
  pub is : slice_index_or rs behind None ≡ Some reach
  pub reached : IsReached r.cell reach

further : (s : Option Reach) (rs : List (Option Reach)) (i : ℤ) (at : ℕ) (r : Read) → IsReadAlong rs i (at + 1) r →
    IsReadAlong (s ∷ rs) i at r
further s rs i at r h = let p = h.position in record {
  behind = suc h.behind;
  processor = h.processor;
  position = omega (arith, p);
  reach = h.reach;
  is = h.is;
  reached = h.reached;
}

read_along : (rs : List (Option Reach)) (t : Trail) (i : ℤ) (at : ℕ) (r : Read) → GoesAlong rs t → Contains (reads_on i at t) r →
    IsReadAlong rs i at r
read_along rs [] i at r h c = absurd (none_there r c)
read_along [] (d ∷ t) i at r h c = absurd h
read_along (s ∷ rs) (None ∷ t) i at r h c = further s rs i at r (read_along rs t i (at + 1) r h.1 c)
read_along (None ∷ rs) (Some d ∷ t) i at r h c = absurd h.0
read_along (Some s ∷ rs) (Some d ∷ t) i at r h c =
    elim (first_or_rest (record { processor = i; at = at + 1; cell = d }) (reads_on i (at + 1) t) r c) [
      | inl e ↦ record {
        behind = 0;
        processor = ap (λ (r : Read). r.processor) e;
        position = (let p : r.at ≡ at + 1 = ap (λ (r : Read). r.at) e in omega (arith, p));
        reach = s;
        is = refl;
        reached = subst (λ c. IsReached c s) (sym (ap (λ (r : Read). r.cell) e)) h.0;
      }
      | inr there ↦ further (Some s) rs i at r (read_along rs t i (at + 1) r h.1 there)
    ]

trail_along : {A : Type 0} (P : A → Type 0) (rs : List (Option Reach)) (f : Findings) (a : Attempt A) → IsTried P rs f a →
    GoesAlong rs (trail_of a)
trail_along P rs f (Gives t x) h = h.1.along
trail_along P rs f (Fails t k) h = h.0.along

-- a part, and its row
pub record IsRowOf (f : Findings) (rs : List Row) (x : Part) : Type 0 where
  pub place : ℕ
  pub row : Row
  pub is : slice_get rs place ≡ Some row
  pub part : IsPartBy f row x

behind_one : (f : Findings) (other : Row) (rs : List Row) (x : Part) → IsRowOf f rs x → IsRowOf f (other ∷ rs) x
behind_one f other rs x h = record { place = suc h.place; row = h.row; is = h.is; part = h.part }

pub row_of : (f : Findings) (rs : List Row) (xs : List Part) (x : Part) → ArePartsBy f rs xs → Contains xs x → IsRowOf f rs x
row_of f [] [] x parts c = absurd (none_there x c)
row_of f [] (y ∷ xs) x parts c = elim parts [ ]
row_of f (row ∷ rs) (y ∷ xs) x (rows.takes one more) c = elim (first_or_rest y xs x c) [
  | inl e ↦ record { place = 0; row = row; is = refl; part = subst (IsPartBy f row) (sym e) one }
  | inr there ↦ behind_one f row rs x (row_of f rs xs x more there)
]
row_of f (row ∷ rs) xs x (rows.passes unsure more) c = behind_one f row rs x (row_of f rs xs x more c)

column_at : (rs : List Row) (k j : ℕ) (row : Row) (reach : Reach) → slice_get rs j ≡ Some row →
    slice_index_or row.trail.items k None ≡ Some reach →
    slice_get (column k rs) j ≡ Some (Some reach)
column_at [] k j row reach e is = absurd (cc e)
column_at (other ∷ rs) k zero row reach e is =
    let same : other ≡ row = cc e in
    ap Some (ap (λ (row : Row). slice_index_or row.trail.items k None) same ∙ is)
column_at (other ∷ rs) k (suc j) row reach e is = column_at rs k j row reach e is

pub record IsReadBy (rs : List Row) (r : Read) : Type 0 where
  pub place : ℕ
  pub row : Row
  pub is : slice_get rs place ≡ Some row
  pub processor : r.processor ≡ row.processor
  pub behind : ℕ
  pub position : r.at ≡ behind + 1
  pub reaches : Reaches (column behind rs) place r.cell

pub read_by : (f : Findings) (rs : List Row) (xs : List Part) (r : Read) → ArePartsBy f rs xs → Contains (reads_of xs) r → IsReadBy rs r
read_by f rs xs r parts c =
    let from = comes_from (λ (x : Part). reads_on x.processor 0 (trail_of x.attempt)) xs r c in
    let x = row_of f rs xs from.one parts from.among in
    let along = read_along x.row.trail.items (trail_of from.one.attempt) from.one.processor 0 r
    (trail_along _ x.row.trail.items f from.one.attempt x.part.tried) from.gives in
    let p = along.position in record {
      place = x.place;
      row = x.row;
      is = x.is;
      processor = along.processor ∙ x.part.processor;
      behind = along.behind;
      position = omega (arith, p);
      reaches =
          record { reach = along.reach; is = column_at rs along.behind x.place x.row along.reach x.is along.is; reached = along.reached };
    }

-- ---- two reads that meet

record DoConflict (r q : Read) : Type 0 where
  pub processor : r.processor ≡ q.processor → ⊥
  pub at : r.at ≡ q.at
  pub cell : r.cell ≡ q.cell

do_conflict : (r q : Read) → is_conflict r q ≡ true → DoConflict r q
do_conflict r q e = record {
  processor = λ s. let same : is_equal r.processor q.processor ≡ true = grind (arith, ints, s) in absurd (grind (arith, tests, e, same));
  at = grind (arith, tests, e);
  cell = grind (arith, tests, e);
}

same_processor : (rs : List Row) (j : ℕ) (r q : Row) → slice_get rs j ≡ Some r → slice_get rs j ≡ Some q → r.processor ≡ q.processor
same_processor rs j r q d e = let same : r ≡ q = cc (d, e) in ap (λ (row : Row). row.processor) same

no_meeting : (f : Findings) (rs : List Row) (xs : List Part) (r q : Read) (k : ℕ) → r.at ≡ k + 1 → AreApart (column k rs) →
    ArePartsBy f rs xs → Contains (reads_of xs) r → Contains (reads_of xs) q → is_conflict r q ≡ true → ⊥
no_meeting f rs xs r q k there apart parts c d e =
    let both = do_conflict r q e in
    let one = read_by f rs xs r parts c in
    let other = read_by f rs xs q parts d in
    let p = one.position in
    let p2 = other.position in
    let at = both.at in
    let first : one.behind ≡ k = omega (arith, p, there) in
    let second : other.behind ≡ k = omega (arith, p2, at, there) in
    let here = subst (λ k. Reaches (column k rs) one.place r.cell) first one.reaches in
    let beside = subst (λ c. Reaches (column k rs) other.place c) (sym both.cell)
    (subst (λ k. Reaches (column k rs) other.place q.cell) second other.reaches) in
    let places : other.place ≡ one.place = sym (apart one.place other.place r.cell here beside) in
    both.processor (one.processor
    ∙ same_processor rs one.place one.row other.row one.is (subst (λ j. slice_get rs j ≡ Some other.row) places other.is)
    ∙ sym other.processor)

-- whatever a list of faults by a test has is of that kind, at that position
record IsKeyOf (rs : List Read) (r : Read) (key : Key) : Type 0 where
  pub kind : key.kind ≡ ReadConflict
  pub at : key.at ≡ r.at
  pub any : list_any (is_conflict r) rs ≡ true

by_test : (rs : List Read) (r : Read) (key : Key) (b : Bool) → list_any (is_conflict r) rs ≡ b →
    Contains (if list_any (is_conflict r) rs then read_key r ∷ [] else []) key → IsKeyOf rs r key
by_test rs r key true e c =
    elim (first_or_rest (read_key r) [] key (subst (λ b. Contains (if b then read_key r ∷ [] else []) key) e c)) [
      | inl same ↦ record { kind = ap (λ (k : Key). k.kind) same; at = ap (λ (k : Key). k.at) same; any = e }
      | inr there ↦ absurd (none_there key there)
    ]
by_test rs r key false e c = absurd (none_there key (subst (λ b. Contains (if b then read_key r ∷ [] else []) key) e c))

conflict_is : (rs : List Read) (r : Read) (key : Key) → Contains (conflict_of rs r) key → IsKeyOf rs r key
conflict_is rs r key c = by_test rs r key (list_any (is_conflict r) rs) refl c

-- ---- what is noted

pub unshared : (rule : Rule) (rs : List Read) (key : Key) → shares_reads rule ≡ true → Contains (read_conflicts rule rs) key → ⊥
unshared rule rs key e c = none_there key (subst (λ b. Contains (if b then [] else flat_map (conflict_of rs) rs) key) e c)

exclusive : (rule : Rule) (rs : List Read) (key : Key) (b : Bool) → shares_reads rule ≡ b → Contains (read_conflicts rule rs) key →
    Contains (flat_map (conflict_of rs) rs) key
exclusive rule rs key true e c = absurd (unshared rule rs key e c)
exclusive rule rs key false e c = subst (λ b. Contains (if b then [] else flat_map (conflict_of rs) rs) key) e c

pub read_kind : (rule : Rule) (rs : List Read) (key : Key) → Contains (read_conflicts rule rs) key → key.kind ≡ ReadConflict
read_kind rule rs key c =
    let from = comes_from (conflict_of rs) rs key (exclusive rule rs key (shares_reads rule) refl c) in
    (conflict_is rs from.one key from.gives).kind

-- none is at a position at which the reads are apart
none_at : (f : Findings) (rule : Rule) (rs : List Row) (xs : List Part) (key : Key) (k : ℕ) → key.at ≡ k + 1 → AreApart (column k rs) →
    ArePartsBy f rs xs → Contains (read_conflicts rule (reads_of xs)) key → ⊥
none_at f rule rs xs key k there apart parts c =
    let from = comes_from (conflict_of (reads_of xs)) (reads_of xs) key (exclusive rule (reads_of xs) key (shares_reads rule) refl c) in
    let is = conflict_is (reads_of xs) from.one key from.gives in
    let other = any_one (is_conflict from.one) (reads_of xs) is.any in
    no_meeting f rs xs from.one other.one k (sym is.at ∙ there) apart parts from.among other.among other.yes

-- each is at a position of some read
position_of : (f : Findings) (rule : Rule) (rs : List Row) (xs : List Part) (key : Key) → ArePartsBy f rs xs →
    Contains (read_conflicts rule (reads_of xs)) key → (k : ℕ) × (key.at ≡ k + 1)
position_of f rule rs xs key parts c =
    let from = comes_from (conflict_of (reads_of xs)) (reads_of xs) key (exclusive rule (reads_of xs) key (shares_reads rule) refl c) in
    let one = read_by f rs xs from.one parts from.among in
    (one.behind, (conflict_is (reads_of xs) from.one key from.gives).at ∙ one.position)

pub none_conflict : (f : Findings) (rule : Rule) (rs : List Row) (xs : List Part) (key : Key) → AreApartBefore None rs →
    ArePartsBy f rs xs → Contains (read_conflicts rule (reads_of xs)) key → ⊥
none_conflict f rule rs xs key apart parts c =
    let at = position_of f rule rs xs key parts c in none_at f rule rs xs key at.0 at.1 (apart at.0) parts c

pub conflict_behind : (f : Findings) (rule : Rule) (rs : List Row) (xs : List Part) (key : Key) (n : ℕ) → AreApartBefore (Some n) rs →
    ArePartsBy f rs xs → Contains (read_conflicts rule (reads_of xs)) key → n ≤ key.at
conflict_behind f rule rs xs key n apart parts c =
    let at = position_of f rule rs xs key parts c in by at.0 at.1 (nat_lt (at.0 + 1) n) refl
  where
    by : (k : ℕ) → key.at ≡ k + 1 → (b : Bool) → nat_lt (k + 1) n ≡ b → n ≤ key.at
    by k there true e = absurd (none_at f rule rs xs key k there (apart k (grind (arith, tests, e))) parts c)
    by k there false e = let past : n ≤ k + 1 = grind (arith, tests, e) in omega (arith, past, there)
