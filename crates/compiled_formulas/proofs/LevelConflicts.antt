-- The conflicts that a send of one level's reads notes are those of their positions.
use Rattle.std.proofs.Common.{◌≡◌, ℕ, zero, suc, ◌+◌, ◌<◌, List, [], ◌∷◌, ◌++◌, length, Bool, true, false, cond, if◌then◌else◌, Option}
use Rattle.std.proofs.Common.{Some, None, refl, sym, ap, ◌∙◌, arith}
use Rattle.std.specs.Prelude.{nat_eq}
use Rattle.std.specs.List.{AllByRecursion, filter, range_with_len}
use Rattle.pram_model.specs.Layout.{cell_of, total_size}
use Rattle.pram_values.specs.declared.kind.Kind.TheVariants.{ReadConflict}
use Rattle.pram_values.specs.Total.{total}
use Rattle.pram_values.proofs.Totals.{total_same, total_within}
use Rattle.superstep_instructions.specs.Code.{SuperstepCode}
use Rattle.superstep_machine.specs.declared.key.Key.{Key}
use Rattle.superstep_machine.specs.Keys.{least}
use Rattle.superstep_machine.specs.Parts as parts
use Rattle.superstep_machine.specs.Sending.{cell_at, several, asks_for, is_several, conflict_at}
use Rattle.superstep_machine.proofs.KeyOrder.{keys_are_monoid, none_least}
use Rattle.superstep_machine.specs.Results.{kind_of}
use Rattle.pram_meaning.specs.Operation.{operate, operate_before}
use Rattle.pram_meaning.specs.Store.{View}
use Rattle.flat_machine.specs.Flat.{Flat, cells, askers, read_conflict, read_conflicts}
use Rattle.statement_evaluation.specs.Whole.{testing, reading, value}
use Rattle.statement_evaluation.specs.Noted.{Heading, moment}
use Rattle.plain_form.specs.Formulas.{Formula, Zero, Number, Variable, Index, Local, Read, Before, Between, Pair, reads, positions, nesting}
use Rattle.compiled_formulas.specs.Terms.{term, steps_in}
use Rattle.compiled_formulas.proofs.Levels.{key_if, around, at_level}
use Rattle.compiled_formulas.proofs.LevelReads.{reads_if, level_reads}
use Rattle.compiled_formulas.proofs.StepNotes.{length_steps}
use Rattle.compiled_formulas.proofs.PrivateSteps.{cells_of, cells_join}
use Rattle.compiled_formulas.proofs.Slots.{slot, slots_if, level_slots, count_if, level_count, count_slots, count_reads}
use Rattle.compiled_formulas.proofs.ReadColumns.{column_key, conflict_at_read, position_key_is, Agrees, agrees_first, agrees_behind}
use Rattle.compiled_formulas.proofs.ReadColumns.{agrees_last, no_conflicts_around}

-- a sum over those of a list that pass a test
pub total_filter : {A M : Type 0} (e : M) (op : M → M → M) → ((x : M) → op e x ≡ x) → (t : A → Bool) (f : A → M) (xs : List A) →
    total e op f (filter t xs) ≡ total e op (λ x. if t x then f x else e) xs
total_filter e op n t f [] = refl
total_filter e op n t f (x ∷ xs) = go (t x) (total_filter e op n t f xs)
  where
    go : (b : Bool) → total e op f (filter t xs) ≡ total e op (λ x. if t x then f x else e) xs →
        total e op f (cond b (x ∷ filter t xs) (filter t xs))
        ≡ op (if b then f x else e) (total e op (λ x. if t x then f x else e) xs)
    go true h = ap (op (f x)) h
    go false h = h ∙ sym (n (total e op (λ x. if t x then f x else e) xs))

-- ---- lists of cells

none_at : (k : ℕ) (xs : List (Option ℕ)) → AllByRecursion (λ (c : Option ℕ). c ≡ None) xs → cell_at k xs ≡ None
none_at k [] h = refl
none_at zero (x ∷ xs) h = h.0
none_at (suc k) (x ∷ xs) h = none_at k xs h.1

at_first : (xs ys : List (Option ℕ)) (i : ℕ) → i < length xs → cell_at i (xs ++ ys) ≡ cell_at i xs
at_first [] ys i h = absurd (omega arith)
at_first (x ∷ xs) ys zero h = refl
at_first (x ∷ xs) ys (suc i) h = at_first xs ys i (omega arith)

at_behind : (xs ys : List (Option ℕ)) (d j : ℕ) → d ≡ length xs + j → cell_at d (xs ++ ys) ≡ cell_at j ys
at_behind [] ys d j e = ap (λ k. cell_at k ys) (let a : d ≡ j = omega (arith, e) in a)
at_behind (x ∷ xs) ys zero j e = absurd (omega (arith, e))
at_behind (x ∷ xs) ys (suc d) j e = at_behind xs ys d j (omega (arith, e))

count_cells : (xs : List (ℕ × Option ℕ)) → length (cells_of xs) ≡ length xs
count_cells [] = refl
count_cells (x ∷ xs) = ap suc (count_cells xs)

module _ (code : SuperstepCode) (g : Flat) (h : Heading) (active : ℕ → Bool) (s : ℕ → View) (column : ℕ → ℕ → Option ℕ)
    (idle : (v : ℕ) → active v ≡ false → AllByRecursion (λ (c : Option ℕ). c ≡ None) (g.own v).asks) where
  abbrev pub vs : List ℕ
  vs = filter active (range_with_len 0 g.uniform.width)

  abbrev size : ℕ
  size = total_size code.layout

  abbrev weigh : ℕ → Formula → Option Key
  weigh = conflict_at_read h size vs column

  -- ---- one read

  askers_are : (k d c : ℕ) →
      ((v : ℕ) → v < g.uniform.width → active v ≡ true → cell_at k (g.own v).asks ≡ column d v) →
      askers g k c ≡ total None several (λ v. asks_for c (column d v)) vs
  askers_are k d c same =
      total_within None several (λ v. asks_for c (cell_at k (g.own v).asks)) (λ v. if active v then asks_for c (column d v) else None)
      g.uniform.width 0 (λ v l. go v (omega (arith, l)) (active v) refl)
      ∙ sym (total_filter None several (λ x. refl) active (λ v. asks_for c (column d v)) (range_with_len 0 g.uniform.width))
    where
      go : (v : ℕ) → v < g.uniform.width → (b : Bool) → active v ≡ b →
          asks_for c (cell_at k (g.own v).asks) ≡ (if b then asks_for c (column d v) else None)
      go v l true e = ap (asks_for c) (same v l e)
      go v l false e = ap (asks_for c) (none_at k (g.own v).asks (idle v e))

  one_read : (k d t : ℕ) → ((v : ℕ) → v < g.uniform.width → active v ≡ true → cell_at k (g.own v).asks ≡ column d v) →
      read_conflict code g k (slot h t (d + 1)) ≡ column_key h size vs column d
  one_read k d t same =
      total_same None least
      (λ c. if is_several (askers g k c) then Some (conflict_at (moment h (d + 1)) c ReadConflict) else None)
      (λ c. if is_several (total None several (λ v. asks_for c (column d v)) vs)
      then Some (conflict_at (moment h (d + 1)) c ReadConflict) else None)
      (λ c. ap (λ o. if is_several o then Some (conflict_at (moment h (d + 1)) c ReadConflict) else None) (askers_are k d c same))
      (cells code)

  conflicts_join : (xs ys : List parts.Read) (k : ℕ) →
      read_conflicts code g k (xs ++ ys) ≡ least (read_conflicts code g k xs) (read_conflicts code g (k + length xs) ys)
  conflicts_join [] ys k = ap (λ j. read_conflicts code g j ys) (let e : k ≡ k + 0 = omega arith in e)
  conflicts_join (x ∷ xs) ys k =
      ap (least (read_conflict code g k x)) (conflicts_join xs ys (k + 1))
      ∙ sym (keys_are_monoid.associative (read_conflict code g k x) (read_conflicts code g (k + 1) xs)
      (read_conflicts code g (k + 1 + length xs) ys))
      ∙ ap (λ j. least (read_conflicts code g k (x ∷ xs)) (read_conflicts code g j ys))
      (let e : k + 1 + length xs ≡ k + length (x ∷ xs) = omega arith in e)

  -- ---- a level

  -- from number k on each active processor asks for n cells
  abbrev pub Asks : ℕ → ℕ → (ℕ → List (Option ℕ)) → Type 0
  Asks k n xs = (v : ℕ) → v < g.uniform.width → active v ≡ true → (i : ℕ) → i < n → cell_at (k + i) (g.own v).asks ≡ cell_at i (xs v)

  asks_first : (k m n : ℕ) (xs ys : ℕ → List (ℕ × Option ℕ)) → ((v : ℕ) → length (xs v) ≡ m) →
      Asks k (m + n) (λ v. cells_of (xs v ++ ys v)) → Asks k m (λ v. cells_of (xs v))
  asks_first k m n xs ys l a v w e i j =
      let c = l v in
      let d = count_cells (xs v) in
      a v w e i (omega (arith, j)) ∙ ap (cell_at i) (cells_join (xs v) (ys v))
      ∙ at_first (cells_of (xs v)) (cells_of (ys v)) i (omega (arith, c, d, j))

  asks_behind : (k m n : ℕ) (xs ys : ℕ → List (ℕ × Option ℕ)) → ((v : ℕ) → length (xs v) ≡ m) →
      Asks k (m + n) (λ v. cells_of (xs v ++ ys v)) → Asks (k + m) n (λ v. cells_of (ys v))
  asks_behind k m n xs ys l a v w e i j =
      let c = l v in
      let d = count_cells (xs v) in
      ap (λ x. cell_at x (g.own v).asks) (let b : k + m + i ≡ k + (m + i) = omega arith in b) ∙ a v w e (m + i) (omega (arith, j))
      ∙ ap (cell_at (m + i)) (cells_join (xs v) (ys v))
      ∙ at_behind (cells_of (xs v)) (cells_of (ys v)) (m + i) i (omega (arith, c, d))

  module _ (l : ℕ) where
    both_levels : (e f : Formula) (t q k : ℕ) → read_conflicts code g k (level_slots h l e t q) ≡ at_level weigh l e q →
        read_conflicts code g (k + level_count l e) (level_slots h l f (t + reads e) (q + positions e))
        ≡ at_level weigh l f (q + positions e) →
        read_conflicts code g k (level_slots h l e t q ++ level_slots h l f (t + reads e) (q + positions e))
        ≡ least (at_level weigh l e q) (at_level weigh l f (q + positions e))
    both_levels e f t q k a b =
        conflicts_join (level_slots h l e t q) (level_slots h l f (t + reads e) (q + positions e)) k
        ∙ (λ i. least (a i)
        ((ap (λ n. read_conflicts code g (k + n) (level_slots h l f (t + reads e) (q + positions e))) (count_slots h l e t q) ∙ b) i))

    pub conflicts_of_level : (e : Formula) (t q k : ℕ) → Agrees h size vs column q (positions e) (λ v. steps_in (s v) e) →
        Asks k (level_count l e) (λ v. cells_of (level_reads (s v) l e t)) →
        read_conflicts code g k (level_slots h l e t q) ≡ at_level weigh l e q
    conflicts_of_level Zero t q k a b = refl
    conflicts_of_level (Number z) t q k a b = refl
    conflicts_of_level (Variable x) t q k a b = refl
    conflicts_of_level Index t q k a b = refl
    conflicts_of_level (Local x) t q k a b = refl
    conflicts_of_level (Read d f) t q k a b = go (nat_eq (nesting f) l) b (λ c. conflicts_of_level f t q k first c)
      where
        cell : ℕ → Option ℕ
        cell v = cell_of (s v).layout d (value (s v) (term f))

        first : Agrees h size vs column q (positions f) (λ v. steps_in (s v) f)
        first = agrees_first h size vs column q (positions f) 1 (λ v. steps_in (s v) f) (λ v. reading (cell v) ∷ [])
            (λ v. length_steps (s v) f) a

        go : (c : Bool) →
            Asks k (level_count l f + count_if c) (λ v. cells_of (level_reads (s v) l f t ++ reads_if c ((t + reads f, cell v) ∷ []))) →
            (Asks k (level_count l f) (λ v. cells_of (level_reads (s v) l f t)) →
            read_conflicts code g k (level_slots h l f t q) ≡ at_level weigh l f q) →
            read_conflicts code g k (level_slots h l f t q ++ slots_if c (slot h (t + reads f) (q + positions f + 1) ∷ []))
            ≡ least (at_level weigh l f q) (key_if c (least (around weigh f q) (weigh (q + positions f + 1) (Read d f))))
        go true b r =
            let own = asks_behind k (level_count l f) 1 (λ v. level_reads (s v) l f t) (λ v. (t + reads f, cell v) ∷ [])
            (λ v. count_reads (s v) l f t) b in
            let last = agrees_last h size vs column q (positions f) (λ v. steps_in (s v) f) (λ v. reading (cell v))
            (λ v. length_steps (s v) f) a in
            conflicts_join (level_slots h l f t q) (slot h (t + reads f) (q + positions f + 1) ∷ []) k
            ∙ (λ i. least (r (asks_first k (level_count l f) 1 (λ v. level_reads (s v) l f t) (λ v. (t + reads f, cell v) ∷ [])
            (λ v. count_reads (s v) l f t) b) i)
            ((none_least (read_conflict code g (k + length (level_slots h l f t q)) (slot h (t + reads f) (q + positions f + 1)))
            ∙ ap (λ n. read_conflict code g (k + n) (slot h (t + reads f) (q + positions f + 1))) (count_slots h l f t q)
            ∙ one_read (k + level_count l f) (q + positions f) (t + reads f)
            (λ v w e. ap (λ n. cell_at n (g.own v).asks) (let j : k + level_count l f ≡ k + level_count l f + 0 = omega arith in j)
            ∙ own v w e 0 (omega arith) ∙ sym (last v))
            ∙ sym (position_key_is h size vs column (q + positions f))
            ∙ (λ i. least (sym (no_conflicts_around h size vs column f q) i)
            (weigh (q + positions f + 1) (Read d f)))) i))
        go false b r =
            conflicts_join (level_slots h l f t q) [] k
            ∙ (λ i. least (r (asks_first k (level_count l f) 0 (λ v. level_reads (s v) l f t) (λ v. [])
            (λ v. count_reads (s v) l f t) b) i) None)
    conflicts_of_level (Before o f) t q k a b =
        conflicts_of_level f t q k
        (agrees_first h size vs column q (positions f) 1 (λ v. steps_in (s v) f)
        (λ v. testing (kind_of (operate_before o (value (s v) (term f)))) ∷ []) (λ v. length_steps (s v) f) a) b
    conflicts_of_level (Between o f g') t q k a b =
        let x = λ (v : ℕ). testing (kind_of (operate o (value (s v) (term f)) (value (s v) (term g')))) in
        let c : Agrees h size vs column q (positions f + (positions g' + 1)) (λ v. steps_in (s v) f ++ (steps_in (s v) g' ++ x v ∷ [])) =
        λ v i j. a v i (omega (arith, j)) in
        let second = agrees_behind h size vs column q (positions f) (positions g' + 1) (λ v. steps_in (s v) f)
        (λ v. steps_in (s v) g' ++ x v ∷ []) (λ v. length_steps (s v) f) c in
        both_levels f g' t q k
        (conflicts_of_level f t q k
        (agrees_first h size vs column q (positions f) (positions g' + 1) (λ v. steps_in (s v) f) (λ v. steps_in (s v) g' ++ x v ∷ [])
        (λ v. length_steps (s v) f) c)
        (asks_first k (level_count l f) (level_count l g') (λ v. level_reads (s v) l f t) (λ v. level_reads (s v) l g' (t + reads f))
        (λ v. count_reads (s v) l f t) b))
        (conflicts_of_level g' (t + reads f) (q + positions f) (k + level_count l f)
        (agrees_first h size vs column (q + positions f) (positions g') 1 (λ v. steps_in (s v) g') (λ v. x v ∷ [])
        (λ v. length_steps (s v) g') second)
        (asks_behind k (level_count l f) (level_count l g') (λ v. level_reads (s v) l f t) (λ v. level_reads (s v) l g' (t + reads f))
        (λ v. count_reads (s v) l f t) b))
    conflicts_of_level (Pair f g') t q k a b =
        both_levels f g' t q k
        (conflicts_of_level f t q k
        (agrees_first h size vs column q (positions f) (positions g') (λ v. steps_in (s v) f) (λ v. steps_in (s v) g')
        (λ v. length_steps (s v) f) a)
        (asks_first k (level_count l f) (level_count l g') (λ v. level_reads (s v) l f t) (λ v. level_reads (s v) l g' (t + reads f))
        (λ v. count_reads (s v) l f t) b))
        (conflicts_of_level g' (t + reads f) (q + positions f) (k + level_count l f)
        (agrees_behind h size vs column q (positions f) (positions g') (λ v. steps_in (s v) f) (λ v. steps_in (s v) g')
        (λ v. length_steps (s v) f) a)
        (asks_behind k (level_count l f) (level_count l g') (λ v. level_reads (s v) l f t) (λ v. level_reads (s v) l g' (t + reads f))
        (λ v. count_reads (s v) l f t) b))
