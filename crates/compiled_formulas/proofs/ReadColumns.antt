-- Conflicts of reads by position: those of all positions of a formula are those of its reads.
use Rattle.std.proofs.Common.{◌≡◌, ℕ, zero, suc, ◌+◌, ◌<◌, List, [], ◌∷◌, ◌++◌, length, get_or, Option, None}
use Rattle.std.proofs.Common.{refl, sym, ap, ◌∙◌, arith}
use Rattle.std.specs.List.{range_with_len}
use Rattle.superstep_machine.proofs.KeyOrder.{none_least, keys_are_monoid}
use Rattle.pram_model.specs.Layout.{cell_of}
use Rattle.pram_values.specs.Total.{total}
use Rattle.pram_values.proofs.Totals.{total_none, total_joined}
use Rattle.superstep_machine.specs.declared.key.Key.{Key}
use Rattle.superstep_machine.specs.Keys.{least}
use Rattle.superstep_machine.specs.Results.{kind_of}
use Rattle.superstep_machine.specs.Sending.{several, asks_for}
use Rattle.pram_meaning.specs.Operation.{operate, operate_before}
use Rattle.pram_meaning.specs.Store.{View}
use Rattle.statement_evaluation.specs.Whole.{Step, testing, reading, value}
use Rattle.statement_evaluation.specs.Rows.{trail}
use Rattle.statement_evaluation.specs.Noted.{Heading, read_key}
use Rattle.plain_form.specs.Formulas.{Formula, Zero, Number, Variable, Index, Local, Read, Before, Between, Pair, positions}
use Rattle.compiled_formulas.specs.Terms.{term, steps_in}
use Rattle.compiled_formulas.proofs.Levels.{around, all_of}
use Rattle.compiled_formulas.proofs.StepNotes.{length_steps}

-- ---- the cell at a position

pub cell_first : (xs ys : List Step) (i : ℕ) → i < length xs → get_or (trail (xs ++ ys)) i None ≡ get_or (trail xs) i None
cell_first [] ys i h = absurd (omega arith)
cell_first (x ∷ xs) ys zero h = refl
cell_first (x ∷ xs) ys (suc i) h = cell_first xs ys i (omega arith)

pub cell_behind : (xs ys : List Step) (d j : ℕ) → d ≡ length xs + j → get_or (trail (xs ++ ys)) d None ≡ get_or (trail ys) j None
cell_behind [] ys d j e = ap (λ k. get_or (trail ys) k None) (let a : d ≡ j = omega (arith, e) in a)
cell_behind (x ∷ xs) ys zero j e = absurd (omega (arith, e))
cell_behind (x ∷ xs) ys (suc d) j e = cell_behind xs ys d j (omega (arith, e))

-- n numbers and one more
pub range_last : (q n : ℕ) → range_with_len q (n + 1) ≡ range_with_len q n ++ (q + n) ∷ []
range_last q zero = ap (λ k. k ∷ []) (let e : q ≡ q + 0 = omega arith in e)
range_last q (suc n) =
    ap (range_with_len q) (let e : suc n + 1 ≡ suc (n + 1) = omega arith in e)
    ∙ ap (λ xs. q ∷ xs) (range_last (q + 1) n
    ∙ ap (λ k. range_with_len (q + 1) n ++ k ∷ []) (let e : q + 1 + n ≡ q + suc n = omega arith in e))

range_both : (q m n : ℕ) → range_with_len q (m + n) ≡ range_with_len q m ++ range_with_len (q + m) n
range_both q zero n = (λ i. range_with_len (let e : q ≡ q + 0 = omega arith in e i) (let e : 0 + n ≡ n = omega arith in e i))
range_both q (suc m) n =
    ap (range_with_len q) (let e : suc m + n ≡ suc (m + n) = omega arith in e)
    ∙ ap (λ xs. q ∷ xs) (range_both (q + 1) m n
    ∙ ap (λ k. range_with_len (q + 1) m ++ range_with_len k n) (let e : q + 1 + m ≡ q + suc m = omega arith in e))

module _ (h : Heading) (cells : ℕ) (vs : List ℕ) (column : ℕ → ℕ → Option ℕ) where
  -- the conflicts of a column: of the cells of all processors at one position
  abbrev pub column_key : ℕ → Option Key
  column_key d = total None least (λ c. read_key h (d + 1) c (total None several (λ v. asks_for c (column d v)) vs))
      (range_with_len 0 cells)

  -- at the position behind d others
  abbrev pub position_key : ℕ → Option Key
  position_key zero = None
  position_key (suc d) = column_key d

  -- those of a read
  abbrev pub conflict_at_read : ℕ → Formula → Option Key
  conflict_at_read q (Read a f) = position_key q
  conflict_at_read q f = None

  pub position_key_is : (d : ℕ) → position_key (d + 1) ≡ column_key d
  position_key_is d = ap position_key (let e : d + 1 ≡ suc d = omega arith in e)

  none_asks : (c d : ℕ) → ((v : ℕ) → column d v ≡ None) → (us : List ℕ) → total None several (λ v. asks_for c (column d v)) us ≡ None
  none_asks c d n [] = refl
  none_asks c d n (u ∷ us) = λ i. several (asks_for c (n u i)) (none_asks c d n us i)

  pub no_column_key : (d : ℕ) → ((v : ℕ) → column d v ≡ None) → column_key d ≡ None
  no_column_key d n =
      total_none None least keys_are_monoid (λ c. read_key h (d + 1) c (total None several (λ v. asks_for c (column d v)) vs))
      (λ c. ap (read_key h (d + 1) c) (none_asks c d n vs)) (range_with_len 0 cells)

  -- from position q on the columns are those of n steps of each processor
  abbrev pub Agrees : ℕ → ℕ → (ℕ → List Step) → Type 0
  Agrees q n steps = (v i : ℕ) → i < n → column (q + i) v ≡ get_or (trail (steps v)) i None

  pub agrees_first : (q m n : ℕ) (xs ys : ℕ → List Step) → ((v : ℕ) → length (xs v) ≡ m) → Agrees q (m + n) (λ v. xs v ++ ys v) →
      Agrees q m xs
  agrees_first q m n xs ys l a v i k =
      let e = l v in a v i (omega (arith, k)) ∙ cell_first (xs v) (ys v) i (omega (arith, e, k))

  pub agrees_behind : (q m n : ℕ) (xs ys : ℕ → List Step) → ((v : ℕ) → length (xs v) ≡ m) → Agrees q (m + n) (λ v. xs v ++ ys v) →
      Agrees (q + m) n ys
  agrees_behind q m n xs ys l a v i k =
      let e = l v in
      ap (λ d. column d v) (let j : q + m + i ≡ q + (m + i) = omega arith in j) ∙ a v (m + i) (omega (arith, k))
      ∙ cell_behind (xs v) (ys v) (m + i) i (omega (arith, e))

  -- the column of a last step
  pub agrees_last : (q m : ℕ) (xs : ℕ → List Step) (x : ℕ → Step) → ((v : ℕ) → length (xs v) ≡ m) →
      Agrees q (m + 1) (λ v. xs v ++ x v ∷ []) → (v : ℕ) → column (q + m) v ≡ (x v).cell
  agrees_last q m xs x l a v =
      ap (λ d. column d v) (let j : q + m ≡ q + m + 0 = omega arith in j)
      ∙ agrees_behind q m 1 xs (λ v. x v ∷ []) l a v 0 (omega arith)

  module _ (s : ℕ → View) where
    abbrev sums : ℕ → ℕ → Option Key
    sums q n = total None least column_key (range_with_len q n)

    with_last : (q n : ℕ) → sums q (n + 1) ≡ least (sums q n) (column_key (q + n))
    with_last q n =
        ap (total None least column_key) (range_last q n)
        ∙ total_joined None least keys_are_monoid column_key (range_with_len q n) ((q + n) ∷ [])
        ∙ ap (least (sums q n)) (none_least (column_key (q + n)))

    both_sums : (q m n : ℕ) → sums q (m + n) ≡ least (sums q m) (sums (q + m) n)
    both_sums q m n =
        ap (total None least column_key) (range_both q m n)
        ∙ total_joined None least keys_are_monoid column_key (range_with_len q m) (range_with_len (q + m) n)

    pub conflicts_of_all : (f : Formula) (q : ℕ) → Agrees q (positions f) (λ v. steps_in (s v) f) →
        all_of conflict_at_read f q ≡ sums q (positions f)
    conflicts_of_all Zero q a = refl
    conflicts_of_all (Number z) q a = refl
    conflicts_of_all (Variable x) q a = refl
    conflicts_of_all Index q a = refl
    conflicts_of_all (Local x) q a = refl
    conflicts_of_all (Read e f) q a =
        let first = agrees_first q (positions f) 1 (λ v. steps_in (s v) f)
        (λ v. reading (cell_of (s v).layout e (value (s v) (term f))) ∷ []) (λ v. length_steps (s v) f) a in
        (λ i. least (conflicts_of_all f q first i) (position_key_is (q + positions f) i)) ∙ sym (with_last q (positions f))
    conflicts_of_all (Before o f) q a =
        let x = λ (v : ℕ). testing (kind_of (operate_before o (value (s v) (term f)))) in
        let first = agrees_first q (positions f) 1 (λ v. steps_in (s v) f) (λ v. x v ∷ []) (λ v. length_steps (s v) f) a in
        let none = no_column_key (q + positions f)
        (agrees_last q (positions f) (λ v. steps_in (s v) f) x (λ v. length_steps (s v) f) a) in
        (λ i. least (conflicts_of_all f q first i) (sym none i)) ∙ sym (with_last q (positions f))
    conflicts_of_all (Between o f g) q a =
        let p = q + positions f in
        let x = λ (v : ℕ). testing (kind_of (operate o (value (s v) (term f)) (value (s v) (term g)))) in
        let b : Agrees q (positions f + (positions g + 1)) (λ v. steps_in (s v) f ++ (steps_in (s v) g ++ x v ∷ [])) =
        λ v i k. a v i (omega (arith, k)) in
        let first = agrees_first q (positions f) (positions g + 1) (λ v. steps_in (s v) f) (λ v. steps_in (s v) g ++ x v ∷ [])
        (λ v. length_steps (s v) f) b in
        let second = agrees_behind q (positions f) (positions g + 1) (λ v. steps_in (s v) f) (λ v. steps_in (s v) g ++ x v ∷ [])
        (λ v. length_steps (s v) f) b in
        let middle = agrees_first p (positions g) 1 (λ v. steps_in (s v) g) (λ v. x v ∷ []) (λ v. length_steps (s v) g) second in
        let none = no_column_key (p + positions g)
        (agrees_last p (positions g) (λ v. steps_in (s v) g) x (λ v. length_steps (s v) g) second) in
        (λ i. least (conflicts_of_all f q first i) (least (conflicts_of_all g p middle i) (sym none i)))
        ∙ ap (least (sums q (positions f))) (sym (with_last p (positions g)))
        ∙ sym (both_sums q (positions f) (positions g + 1))
        ∙ ap (sums q) (let e : positions f + (positions g + 1) ≡ positions f + positions g + 1 = omega arith in e)
    conflicts_of_all (Pair f g) q a =
        let first = agrees_first q (positions f) (positions g) (λ v. steps_in (s v) f) (λ v. steps_in (s v) g)
        (λ v. length_steps (s v) f) a in
        let second = agrees_behind q (positions f) (positions g) (λ v. steps_in (s v) f) (λ v. steps_in (s v) g)
        (λ v. length_steps (s v) f) a in
        (λ i. least (conflicts_of_all f q first i) (conflicts_of_all g (q + positions f) second i))
        ∙ sym (both_sums q (positions f) (positions g))

  -- what stands around the reads has none
  pub no_conflicts_around : (f : Formula) (q : ℕ) → around conflict_at_read f q ≡ None
  no_conflicts_around Zero q = refl
  no_conflicts_around (Number z) q = refl
  no_conflicts_around (Variable x) q = refl
  no_conflicts_around Index q = refl
  no_conflicts_around (Local x) q = refl
  no_conflicts_around (Read a f) q = refl
  no_conflicts_around (Before o f) q = λ i. least (no_conflicts_around f q i) None
  no_conflicts_around (Between o f g) q =
      λ i. least (no_conflicts_around f q i) (least (no_conflicts_around g (q + positions f) i) None)
  no_conflicts_around (Pair f g) q = λ i. least (no_conflicts_around f q i) (no_conflicts_around g (q + positions f) i)
