-- The conflicts of reads, position by position and cell by cell.
use Rattle.std.proofs.Common.{◌≡◌, ℕ, zero, suc, ◌+◌, ◌≤◌, List, [], ◌∷◌, map, length, get_or, Bool, true, false, not, ◌||◌, ◌&&◌}
use Rattle.std.proofs.Common.{if◌then◌else◌, cond, eqb, nat_eq, Option, Some, None, ℤ, refl, sym, ap, ◌∙◌, arith}
use Rattle.std.proofs.lemmas.Bool.Decides.{nat_tests}
use Rattle.std.proofs.lemmas.List.Folds.{list_any-append}
use Rattle.std.specs.List.{AllByRecursion, flat_map, range_with_len, list_any}
use Rattle.pram_values.specs.declared.kind.Kind.TheVariants.{ReadConflict}
use Rattle.pram_values.specs.Total.{total}
use Rattle.pram_values.specs.Truth.{is_equal}
use Rattle.pram_values.proofs.Totals.{total_same, total_map}
use Rattle.superstep_machine.specs.declared.key.Key.{Key}
use Rattle.superstep_machine.specs.Keys.{least}
use Rattle.superstep_machine.specs.Sending.{is_several, conflict_at}
use Rattle.superstep_machine.proofs.KeyOrder.{keys_are_monoid, least_again}
use Rattle.pram_meaning.specs.declared.key as meaning
use Rattle.pram_meaning.specs.declared.read.Read.{Read}
use Rattle.pram_meaning.specs.Attempt.{Trail, Effect}
use Rattle.pram_meaning.specs.Conflict.{Part, conflict_of, is_conflict, read_key, reads_of, reads_on, trail_of}
use Rattle.statement_evaluation.specs.Whole.{Whole, cut}
use Rattle.statement_evaluation.specs.Noted.{Heading, moment}
use Rattle.statement_evaluation.specs.LeastFaults.{told}
use Rattle.statement_evaluation.proofs.Sums.{on, is_at, IsBelow, total_flat, by_number}
use Rattle.pram_values.proofs.Totals.{total_swap, total_each}
use Rattle.statement_evaluation.proofs.Cuts.{left, trail_left, left_length}
use Rattle.statement_evaluation.proofs.Askers.{IsApart, other, askers, told_once}

-- ---- one trail

-- a sum over the reads of a trail, position by position
pub row_total : (f : Read → Option Key) (i : ℤ) (t : Trail) (k n : ℕ) (g : ℕ → Option ℕ) → length t ≤ n →
    ((d : ℕ) → get_or t d None ≡ g (k + d)) →
    total None least f (reads_on i k t) ≡ total None least (λ d. on None (λ c. f (record { processor = i; at = d + 1; cell = c })) (g d))
    (range_with_len k n)
row_total f i [] k zero g l h = refl
row_total f i [] k (suc n) g l h =
    row_total f i [] (k + 1) n g (omega arith) (λ d. h (suc d) ∙ ap g (let e : k + suc d ≡ k + 1 + d = omega arith in e))
    ∙ ap (λ o. least (on None (λ c. f (record { processor = i; at = k + 1; cell = c })) o)
    (total None least (λ d. on None (λ c. f (record { processor = i; at = d + 1; cell = c })) (g d)) (range_with_len (k + 1) n)))
    (h 0 ∙ ap g (let e : k + 0 ≡ k = omega arith in e))
row_total f i (o ∷ t) k zero g l h = absurd (omega arith)
row_total f i (o ∷ t) k (suc n) g l h =
    go o
    ∙ (λ j. least (on None (λ c. f (record { processor = i; at = k + 1; cell = c })) (here j))
    (row_total f i t (k + 1) n g (omega arith) (λ d. h (suc d) ∙ ap g (let e : k + suc d ≡ k + 1 + d = omega arith in e)) j))
  where
    here : o ≡ g k
    here = h 0 ∙ ap g (let e : k + 0 ≡ k = omega arith in e)

    go : (o : Option ℕ) → total None least f (reads_on i k (o ∷ t))
        ≡ least (on None (λ c. f (record { processor = i; at = k + 1; cell = c })) o) (total None least f (reads_on i (k + 1) t))
    go None = refl
    go (Some c) = refl

-- reads behind its position are in no conflict with a read
none_behind : (i : ℤ) (p c : ℕ) (j : ℤ) (t : Trail) (k : ℕ) → p ≤ k →
    list_any (is_conflict (record { processor = i; at = p; cell = c })) (reads_on j k t) ≡ false
none_behind i p c j [] k l = refl
none_behind i p c j (None ∷ t) k l = none_behind i p c j t (k + 1) (omega arith)
none_behind i p c j (Some d ∷ t) k l =
    (λ x. (not (is_equal i j) && apart x && nat_eq c d) || none_behind i p c j t (k + 1) (omega arith) x)
    ∙ dull (not (is_equal i j)) (nat_eq c d)
  where
    apart : nat_eq p (k + 1) ≡ false
    apart = grind (arith, nat_tests)

    dull : (b x : Bool) → ((b && false && x) || false) ≡ false
    dull true x = refl
    dull false x = refl

pub turned : (c d : ℕ) → nat_eq c d ≡ eqb d c
turned c d = go (nat_eq c d) (eqb d c) refl refl
  where
    go : (x y : Bool) → nat_eq c d ≡ x → eqb d c ≡ y → x ≡ y
    go true true a b = refl
    go true false a b = absurd (grind (arith, nat_tests, a, b))
    go false true a b = absurd (grind (arith, nat_tests, a, b))
    go false false a b = refl

-- in a trail it is in conflict with the read at its position alone
any_row : (i : ℤ) (c : ℕ) (j : ℤ) (t : Trail) (k d : ℕ) → list_any (is_conflict (record { processor = i; at = k + d + 1; cell = c }))
    (reads_on j k t)
    ≡ (not (is_equal i j) && is_at c (get_or t d None))
any_row i c j [] k d = sym (dull (not (is_equal i j)))
  where
    dull : (b : Bool) → (b && false) ≡ false
    dull true = refl
    dull false = refl
any_row i c j (None ∷ t) k zero = none_behind i (k + 0 + 1) c j t (k + 1) (omega arith) ∙ sym (dull (not (is_equal i j)))
  where
    dull : (b : Bool) → (b && false) ≡ false
    dull true = refl
    dull false = refl
any_row i c j (Some e ∷ t) k zero =
    (λ x. (not (is_equal i j) && here x && turned c e x) || none_behind i (k + 0 + 1) c j t (k + 1) (omega arith) x)
    ∙ tidy (not (is_equal i j)) (eqb e c)
  where
    here : nat_eq (k + 0 + 1) (k + 1) ≡ true
    here = grind (arith, nat_tests)

    tidy : (a b : Bool) → ((a && true && b) || false) ≡ (a && b)
    tidy true true = refl
    tidy true false = refl
    tidy false b = refl
any_row i c j (o ∷ t) k (suc d) =
    go o
    ∙ ap (λ p. list_any (is_conflict (record { processor = i; at = p; cell = c })) (reads_on j (k + 1) t))
    (let e : k + suc d + 1 ≡ k + 1 + d + 1 = omega arith in e)
    ∙ any_row i c j t (k + 1) d
  where
    apart : nat_eq (k + suc d + 1) (k + 1) ≡ false
    apart = grind (arith, nat_tests)

    dull : (b x r : Bool) → ((b && false && x) || r) ≡ r
    dull true x r = refl
    dull false x r = refl

    go : (o : Option ℕ) → list_any (is_conflict (record { processor = i; at = k + suc d + 1; cell = c })) (reads_on j k (o ∷ t))
        ≡ list_any (is_conflict (record { processor = i; at = k + suc d + 1; cell = c })) (reads_on j (k + 1) t)
    go None = refl
    go (Some e) =
        let rest = list_any (is_conflict (record { processor = i; at = k + suc d + 1; cell = c })) (reads_on j (k + 1) t) in
        ap (λ b. (not (is_equal i j) && b && nat_eq c e) || rest) apart ∙ dull (not (is_equal i j)) (nat_eq c e) rest

-- ---- all trails

module _ (h : Heading) (index : ℕ → ℤ) (w : ℕ → Whole Effect) where
  -- the part of a member
  abbrev pub part : ℕ → Part
  part v = record { member = v; processor = index v; attempt = cut (w v) }

  -- the cell that it reads behind d positions
  abbrev pub cell_left : ℕ → ℕ → Option ℕ
  cell_left d v = get_or (left (w v).steps) d None

  trail_is : (v : ℕ) → trail_of (cut (w v)) ≡ left (w v).steps
  trail_is v = trail_left (w v).steps (w v).value []

  any_read : (i : ℤ) (c d : ℕ) (vs : List ℕ) → list_any (is_conflict (record { processor = i; at = d + 1; cell = c }))
      (reads_of (map part vs))
      ≡ list_any (λ u. not (is_equal i (index u)) && is_at c (cell_left d u)) vs
  any_read i c d [] = refl
  any_read i c d (v ∷ vs) =
      list_any-append (is_conflict (record { processor = i; at = d + 1; cell = c })) (reads_on (index v) 0 (trail_of (cut (w v))))
      (reads_of (map part vs))
      ∙ (λ x. one x || any_read i c d vs x)
    where
      one : list_any (is_conflict (record { processor = i; at = d + 1; cell = c })) (reads_on (index v) 0 (trail_of (cut (w v))))
          ≡ (not (is_equal i (index v)) && is_at c (cell_left d v))
      one =
          ap (λ t. list_any (is_conflict (record { processor = i; at = d + 1; cell = c })) (reads_on (index v) 0 t)) (trail_is v)
          ∙ ap (λ p. list_any (is_conflict (record { processor = i; at = p; cell = c })) (reads_on (index v) 0 (left (w v).steps)))
          (let e : d + 1 ≡ 0 + d + 1 = omega arith in e)
          ∙ any_row i c (index v) (left (w v).steps) 0 d

  abbrev conflict_key : ℕ → ℕ → Option Key
  conflict_key d c = Some (conflict_at (moment h (d + 1)) c ReadConflict)

  -- a read's key, if it is in conflict with one of these
  abbrev key_among : List Read → Read → Option Key
  key_among rs r = if list_any (is_conflict r) rs then told h (Some (read_key r)) else None

  one_key : (b : Bool) (k : meaning.Key.Key) → total None least (λ k. told h (Some k)) (if b then k ∷ [] else [])
      ≡ (if b then told h (Some k) else None)
  one_key true k = refl
  one_key false k = refl

  -- the conflicts at one position
  abbrev pub column : ℕ → List ℕ → ℕ → Option Key
  column cells vs d = total None least (λ c. if is_several (askers index (cell_left d) c vs) then conflict_key d c else None)
      (range_with_len 0 cells)

  by_cells : (cells : ℕ) (vs : List ℕ) (d : ℕ) → IsApart index vs → AllByRecursion (λ v. IsBelow cells (cell_left d v)) vs →
      total None least (λ v. on None (λ c. key_among (reads_of (map part vs)) (record { processor = index v; at = d + 1; cell = c }))
      (cell_left d v)) vs ≡ column cells vs d
  by_cells cells vs d apart below =
      by_number None least keys_are_monoid (λ v c. key_among (reads_of (map part vs))
      (record { processor = index v; at = d + 1; cell = c })) (cell_left d) cells vs below
      ∙ total_same None least
      (λ c. total None least (λ v. cond (is_at c (cell_left d v))
      (key_among (reads_of (map part vs)) (record { processor = index v; at = d + 1; cell = c })) None) vs)
      (λ c. if is_several (askers index (cell_left d) c vs) then conflict_key d c else None)
      (λ c. total_same None least
      (λ v. cond (is_at c (cell_left d v)) (key_among (reads_of (map part vs)) (record { processor = index v; at = d + 1; cell = c })) None)
      (λ v. cond (is_at c (cell_left d v)) (if other index (cell_left d) c vs v then conflict_key d c else None) None)
      (λ v. ap (λ b. cond (is_at c (cell_left d v)) (if b then conflict_key d c else None) None) (any_read (index v) c d vs)) vs
      ∙ told_once index (cell_left d) c None least keys_are_monoid (conflict_key d c) (least_again (conflict_key d c)) vs apart)
      (range_with_len 0 cells)

  -- the meaning's read conflicts are those of all columns
  pub read_columns : (cells n : ℕ) (vs : List ℕ) → IsApart index vs → ((d : ℕ) → AllByRecursion (λ v. IsBelow cells (cell_left d v)) vs) →
      AllByRecursion (λ v. length (w v).steps ≡ n) vs →
      total None least (λ k. told h (Some k)) (flat_map (conflict_of (reads_of (map part vs))) (reads_of (map part vs)))
      ≡ total None least (column cells vs) (range_with_len 0 n)
  read_columns cells n vs apart below long =
      let all = reads_of (map part vs) in
      let f = key_among all in
      total_flat None least keys_are_monoid (λ k. told h (Some k)) (conflict_of all) all
      ∙ total_same None least (λ r. total None least (λ k. told h (Some k)) (conflict_of all r)) f
      (λ r. one_key (list_any (is_conflict r) all) (read_key r)) all
      ∙ total_flat None least keys_are_monoid f (λ (x : Part). reads_on x.processor 0 (trail_of x.attempt)) (map part vs)
      ∙ total_map None least (λ (x : Part). total None least f (reads_on x.processor 0 (trail_of x.attempt))) part vs
      ∙ total_each None least (λ v. total None least f (reads_on (index v) 0 (trail_of (cut (w v)))))
      (λ v. total None least (λ d. on None (λ c. f (record { processor = index v; at = d + 1; cell = c })) (cell_left d v))
      (range_with_len 0 n)) vs (each f vs long)
      ∙ total_swap None least keys_are_monoid (λ v d. on None (λ c. f (record { processor = index v; at = d + 1; cell = c }))
      (cell_left d v)) vs (range_with_len 0 n)
      ∙ total_same None least
      (λ d. total None least (λ v. on None (λ c. f (record { processor = index v; at = d + 1; cell = c })) (cell_left d v)) vs)
      (column cells vs)
      (λ d. by_cells cells vs d apart (below d)) (range_with_len 0 n)
    where
      each : (f : Read → Option Key) (us : List ℕ) → AllByRecursion (λ v. length (w v).steps ≡ n) us →
          AllByRecursion (λ v. total None least f (reads_on (index v) 0 (trail_of (cut (w v))))
          ≡ total None least (λ d. on None (λ c. f (record { processor = index v; at = d + 1; cell = c })) (cell_left d v))
          (range_with_len 0 n)) us
      each f [] l = tt
      each f (v ∷ us) l = (
        ap (λ t. total None least f (reads_on (index v) 0 t)) (trail_is v)
            ∙ row_total f (index v) (left (w v).steps) 0 n (λ d. cell_left d v)
            (let a = left_length (w v).steps in let b = l.0 in omega (arith, a, b))
            (λ d. ap (λ q. cell_left q v) (let e : d ≡ 0 + d = omega arith in e)),
        each f us l.1,
      )
