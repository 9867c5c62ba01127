-- One entry more of those that a picture has taken.
use Rattle.std.proofs.Common.{◌≡◌, ◌∙◌, ◌⊎◌, inl, inr, ℕ, suc, ◌+◌, ◌-◌, ◌<◌, ◌≤◌, Bool, true, false, not, ◌&&◌, ◌||◌, List, [], ◌∷◌, ◌++◌}
use Rattle.std.proofs.Common.{ℤ}
use Rattle.std.proofs.Common.{Option, None, Some, ap, arith, length, map, min, nat_eq, nat_le, nat_lt, refl, subst, sym, take}
use Rattle.std.proofs.lemmas.Bool.{cases_lt}
use Rattle.std.proofs.lemmas.Bool.Decides.{nat_tests}
use Rattle.std.proofs.lemmas.List.{length-append, length-map, length-take, map-append, take-append-le, take_all}
use Rattle.std.proofs.lemmas.List.Sums.{fold-append}
use Rattle.std.specs.List.{enumerate_from, filter}
use Rattle.std.specs.Prelude.{if◌then◌else◌}
use Rattle.journal.specs.Entries.{Act, Entry}
use Rattle.pictures.specs.declared.flows.flow.Flow.{Flow}
use Rattle.pictures.specs.Acts.{acts_in}
use Rattle.pictures.specs.Flows.Choice.{faulted, is_fault, is_faulted, is_ran, is_touching, number_before, ran, touches, touching}
use Rattle.pictures.specs.Flows.Drawing.{Column, column_is, column_of, write_value, written_by}
use Rattle.pictures.specs.Flows.Taken.{HasTaken, is_kept, with_faulted, with_ran}
use Rattle.pictures.specs.Flows.Values.{value_after, value_at, value_behind, value_of}
use Rattle.pictures.proofs.OfFlows.Drawn.{faulted_is, few_before, passed, ran_is, same_columns, taken}

-- ---- columns by the same values

pub same_written : (v w : ℕ → ℤ) → ((k : ℕ) → v k ≡ w k) → (acts : List Act) → written_by v acts ≡ written_by w acts
same_written v w same [] = refl
same_written v w same (a ∷ acts) =
    ap (λ x. x ∷ written_by v acts) (by a.write) ∙ ap (λ xs. write_value w a.write ∷ xs) (same_written v w same acts)
  where
    by : (write : Option ℕ) → write_value v write ≡ write_value w write
    by None = refl
    by (Some c) = same c

abbrev column : (number : ℕ) → Entry → (aside : List Bool) → (written : List ℤ) → Column
column number e aside written = record { number = number; entry = e; aside = aside; written = written }

same_column : (n m : ℕ) (e : Entry) (a b : List Bool) (v w : List ℤ) → n ≡ m → a ≡ b → v ≡ w → column n e a v ≡ column m e b w
same_column n m e a b v w number aside written =
    ap (λ n. column n e a v) number ∙ ap (λ a. column m e a v) aside ∙ ap (λ v. column m e b v) written

-- ---- those that are kept

-- with one more, of at most 64
module _ (kept : List Column) (whole : List Column) (is : kept ≡ take 64 whole) (c d : Column) where
  room_left : (nat_lt (length kept) 64 ≡ true → c ≡ d) → (if nat_lt (length kept) 64 then kept ++ c ∷ [] else kept) ≡ take 64
      (whole ++ d ∷ [])
  room_left same = by (cases_lt (length whole) 64)
    where
      by : (length whole < 64) ⊎ (64 ≤ length whole) →
          (if nat_lt (length kept) 64 then kept ++ c ∷ [] else kept) ≡ take 64 (whole ++ d ∷ [])
      by (inl few) =
          let all : kept ≡ whole = is ∙ take_all 64 whole (omega (arith, few)) in
          let long : length kept ≡ length whole = ap length all in
          let room : nat_lt (length kept) 64 ≡ true = grind (arith, nat_tests, few, long) in
          let more = length-append whole (d ∷ []) in
          ap (λ b. if b then kept ++ c ∷ [] else kept) room ∙ ap (λ x. kept ++ x ∷ []) (same room) ∙ ap (λ cs. cs ++ d ∷ []) all
          ∙ sym (take_all 64 (whole ++ d ∷ []) (omega (arith, more, few)))
      by (inr many) =
          let long : length kept ≡ min 64 (length whole) = ap length is ∙ length-take 64 whole in
          let none : nat_lt (length kept) 64 ≡ false = grind (arith, nat_tests, many, long) in
          ap (λ b. if b then kept ++ c ∷ [] else kept) none ∙ is ∙ sym (take-append-le 64 whole (d ∷ []) many)

-- ---- behind the last

none_asked : (a b t r : Bool) → b ≡ false → false ≡ (((a && b) && t) && r)
none_asked true b t r is = sym (ap (λ x. (x && t) && r) is)
none_asked false b t r is = refl

pub none_is_kept : (f : Flow) (e : Entry) → f.to ≤ f.count → false ≡ is_kept f e
none_is_kept f e past =
    none_asked (nat_le f.from (f.count + 1)) (nat_le (f.count + 1) f.to) (touches e) (is_fault e || nat_lt (length f.ran.items) 64)
    (grind (arith, nat_tests, past))

-- ---- one entry more

module _ (aside : Entry → List Bool) (opening : List ℤ) (from to : ℕ) (es : List Entry) (e : Entry) (f : Flow)
    (h : HasTaken aside opening from to es f) where
  abbrev whole : List Entry
  whole = es ++ e ∷ []

  abbrev number : ℕ
  number = 1 + length es

  abbrev next : Column
  next = column_of aside opening whole (number, e)

  -- it is looked at by its number
  next_number : (n : ℕ) → n ≡ f.count + 1 → n ≡ number
  next_number n is = let counted = h.counted in omega (arith, is, counted)

  same_test : (n : ℕ) (b : Bool) → n ≡ f.count + 1 → is_touching f.from f.to (n, e) ≡ b → is_touching from to (number, e) ≡ b
  same_test n b is test =
      sym (ap (λ a. is_touching a f.to (n, e)) h.first ∙ ap (λ a. is_touching from a (n, e)) h.last
      ∙ ap (λ k. is_touching from to (k, e)) (next_number n is)) ∙ test

  counted_more : (n : ℕ) → n ≡ f.count + 1 → n ≡ length whole
  counted_more n is = let counted = h.counted in let more = length-append es (e ∷ []) in omega (arith, is, counted, more)

  -- the values behind it
  behind_more : (values : List ℤ) → ((k : ℕ) → value_at values k ≡ value_after k (value_at f.cells.items k) e) →
      (k : ℕ) → value_at values k ≡ value_of opening whole k
  behind_more values changed k =
      changed k ∙ ap (λ v. value_after k v e) (h.behind k) ∙ sym (fold-append (value_after k) (value_at opening k) es (e ∷ []))

  -- those before the first are as they were
  still : (n k : ℕ) → n ≤ length es → value_behind opening es n k ≡ value_behind opening whole n k
  still n k within = ap (λ xs. value_of opening xs k) (sym (take-append-le n es (e ∷ []) within))

  before_first : number_before (touching from to es) ≤ length es
  before_first = let few = few_before (is_touching from to) 1 es in omega (arith, few)

  -- the columns of the others are as they were
  kept_still : (p : ℕ × Entry → Bool) → map (column_of aside opening es) (filter p (enumerate_from 1 es)) ≡
      map (column_of aside opening whole) (filter p (enumerate_from 1 es))
  kept_still p = sym (same_columns aside opening es (e ∷ []) p 1 es (omega arith))

  kept_same : (p : ℕ × Entry → Bool) → p (number, e) ≡ false → map (column_of aside opening es) (filter p (enumerate_from 1 es)) ≡
      map (column_of aside opening whole) (filter p (enumerate_from 1 whole))
  kept_same p is = kept_still p ∙ ap (map (column_of aside opening whole)) (sym (passed p es e is))

  kept_more : (p : ℕ × Entry → Bool) → p (number, e) ≡ true → map (column_of aside opening es) (filter p (enumerate_from 1 es)) ++
      next ∷ [] ≡
      map (column_of aside opening whole) (filter p (enumerate_from 1 whole))
  kept_more p is =
      ap (λ cs. cs ++ next ∷ []) (kept_still p)
      ∙ sym (map-append (column_of aside opening whole) (filter p (enumerate_from 1 es)) ((number, e) ∷ []))
      ∙ ap (map (column_of aside opening whole)) (sym (taken p es e is))

  both_false : (a b : Bool) → a ≡ false → (a && b) ≡ false
  both_false a b is = ap (λ a. a && b) is

  -- it doesn't touch shared memory
  pub has_passed : (n : ℕ) (g : Flow) → n ≡ f.count + 1 → is_touching f.from f.to (n, e) ≡ false → g.from ≡ f.from → g.to ≡ f.to →
      g.count ≡ n → g.touching ≡ f.touching → ((k : ℕ) → value_at g.cells.items k ≡ value_after k (value_at f.cells.items k) e) →
      g.before ≡ f.before → g.ran ≡ f.ran → g.faulted ≡ f.faulted → HasTaken aside opening from to whole g
  has_passed n g is test first last counted touched changed before ran_is_same faulted_is_same =
      let untouched = same_test n false is test in
      let none : touching from to whole ≡ touching from to es = passed (is_touching from to) es e untouched in
      record {
        first = first ∙ h.first;
        last = last ∙ h.last;
        counted = counted ∙ counted_more n is;
        touched = touched ∙ h.touched ∙ ap length (sym none);
        behind = behind_more g.cells.items changed;
        before = λ some k. ap (λ v. value_at v.items k) before ∙ h.before (subst (λ t. 0 < t) touched some) k
            ∙ still (number_before (touching from to es)) k before_first
            ∙ ap (λ ps. value_behind opening whole (number_before ps) k) (sym none);
        kept = ap (λ v. map column_is v.items) ran_is_same ∙ h.kept
            ∙ ap (take 64) (kept_same (is_ran from to) (ran_is from to (number, e) ∙ both_false _ (not (is_fault e)) untouched));
        failed = ap (λ v. map column_is v.items) faulted_is_same ∙ h.failed
            ∙ kept_same (is_faulted from to) (faulted_is from to (number, e) ∙ both_false _ (is_fault e) untouched);
      }

  -- it touches it, or faulted
  module _ (n : ℕ) (is : n ≡ f.count + 1) (test : is_touching f.from f.to (n, e) ≡ true) (asides : List Bool)
      (told : is_kept f e ≡ true → asides ≡ aside e) (g : Flow)
      (changed : (k : ℕ) → value_at g.cells.items k ≡ value_after k (value_at f.cells.items k) e) where
    touching_next : is_touching from to (number, e) ≡ true
    touching_next = same_test n true is test

    -- its column
    abbrev new : Column
    new = column n e asides (written_by (value_at g.cells.items) (acts_in e))

    is_next : asides ≡ aside e → new ≡ next
    is_next same = same_column n number e asides (aside e) (written_by (value_at g.cells.items) (acts_in e)) next.written
        (next_number n is) same
        (same_written (value_at g.cells.items) (value_behind opening whole number)
        (λ k. behind_more g.cells.items changed k ∙ ap (λ xs. value_of opening xs k) (sym all)) (acts_in e))
      where
        all : take number whole ≡ whole
        all = let more = length-append es (e ∷ []) in take_all number whole (omega (arith, more))

    kept_test : (b : Bool) → (is_fault e || nat_lt (length f.ran.items) 64) ≡ b → is_kept f e ≡ b
    kept_test b may =
        ap (λ k. is_touching f.from f.to (k, e) && (is_fault e || nat_lt (length f.ran.items) 64)) (sym is)
        ∙ ap (λ t. t && (is_fault e || nat_lt (length f.ran.items) 64)) test ∙ may

    -- the values before the first one
    before_more : (t : ℕ) → t ≡ f.touching + 1 → g.before.items ≡ (if nat_eq f.touching 0 then f.cells.items else f.before.items) →
        (k : ℕ) → value_at g.before.items k ≡ value_behind opening whole (number_before (touching from to whole)) k
    before_more t one before k = by (touching from to es) refl
      where
        here : (ps : List (ℕ × Entry)) → touching from to es ≡ ps → touching from to whole ≡ ps ++ (number, e) ∷ []
        here ps are = taken (is_touching from to) es e touching_next ∙ ap (λ ps. ps ++ (number, e) ∷ []) are

        by : (ps : List (ℕ × Entry)) → touching from to es ≡ ps →
            value_at g.before.items k ≡ value_behind opening whole (number_before (touching from to whole)) k
        by [] are =
            let none : f.touching ≡ 0 = h.touched ∙ ap length are in
            let first : nat_eq f.touching 0 ≡ true = grind (arith, nat_tests, none) in
            let all : length es ≡ number - 1 = omega arith in
            ap (λ v. value_at v k) (before ∙ ap (λ b. if b then f.cells.items else f.before.items) first) ∙ h.behind k
            ∙ ap (λ xs. value_of opening xs k) (sym (take_all (length es) es (omega arith))) ∙ still (length es) k (omega arith)
            ∙ ap (λ m. value_behind opening whole m k) all
            ∙ ap (λ ps. value_behind opening whole (number_before ps) k) (sym (here [] are))
        by (q ∷ qs) are =
            let some : f.touching ≡ suc (length qs) = h.touched ∙ ap length are in
            let later : nat_eq f.touching 0 ≡ false = grind (arith, nat_tests, some) in
            ap (λ v. value_at v k) (before ∙ ap (λ b. if b then f.cells.items else f.before.items) later)
            ∙ h.before (omega (arith, some)) k
            ∙ still (number_before (touching from to es)) k before_first
            ∙ ap (λ ps. value_behind opening whole (number_before ps) k) are
            ∙ ap (λ ps. value_behind opening whole (number_before ps) k) (sym (here (q ∷ qs) are))

    -- those that ran
    ran_more : map column_is g.ran.items ≡ with_ran (map column_is f.ran.items) new →
        map column_is g.ran.items ≡ take 64 (map (column_of aside opening whole) (ran from to whole))
    ran_more now = now ∙ by (is_fault e) refl
      where
        kept : List Column
        kept = map column_is f.ran.items

        by : (b : Bool) → is_fault e ≡ b → with_ran kept new ≡ take 64 (map (column_of aside opening whole) (ran from to whole))
        by true fault =
            ap (λ b. if b then kept else (if nat_lt (length kept) 64 then kept ++ new ∷ [] else kept)) fault ∙ h.kept
            ∙ ap (take 64) (kept_same (is_ran from to) (ran_is from to (number, e)
            ∙ ap (λ t. t && not (is_fault e)) touching_next ∙ ap not fault))
        by false fault =
            ap (λ b. if b then kept else (if nat_lt (length kept) 64 then kept ++ new ∷ [] else kept)) fault
            ∙ room_left kept (map (column_of aside opening es) (ran from to es)) h.kept new next (λ room. is_next (told (kept_test true
            (ap (λ b. b || nat_lt (length f.ran.items) 64) fault ∙ ap (λ l. nat_lt l 64) (sym (length-map f.ran.items column_is)) ∙ room))))
            ∙ ap (take 64) (kept_more (is_ran from to) (ran_is from to (number, e)
            ∙ ap (λ t. t && not (is_fault e)) touching_next ∙ ap not fault))

    -- those that faulted
    faulted_more : map column_is g.faulted.items ≡ with_faulted (map column_is f.faulted.items) new →
        map column_is g.faulted.items ≡ map (column_of aside opening whole) (faulted from to whole)
    faulted_more now = now ∙ by (is_fault e) refl
      where
        failed : List Column
        failed = map column_is f.faulted.items

        by : (b : Bool) → is_fault e ≡ b → with_faulted failed new ≡ map (column_of aside opening whole) (faulted from to whole)
        by true fault =
            ap (λ b. if b then failed ++ new ∷ [] else failed) fault
            ∙ ap (λ c. failed ++ c ∷ []) (is_next (told (kept_test true (ap (λ b. b || nat_lt (length f.ran.items) 64) fault))))
            ∙ ap (λ cs. cs ++ next ∷ []) h.failed
            ∙ kept_more (is_faulted from to) (faulted_is from to (number, e) ∙ ap (λ t. t && is_fault e) touching_next ∙ fault)
        by false fault =
            ap (λ b. if b then failed ++ new ∷ [] else failed) fault ∙ h.failed
            ∙ kept_same (is_faulted from to) (faulted_is from to (number, e) ∙ ap (λ t. t && is_fault e) touching_next ∙ fault)

    pub has_touched : g.from ≡ f.from → g.to ≡ f.to → g.count ≡ n → g.touching ≡ f.touching + 1 →
        g.before.items ≡ (if nat_eq f.touching 0 then f.cells.items else f.before.items) →
        map column_is g.ran.items ≡ with_ran (map column_is f.ran.items) new →
        map column_is g.faulted.items ≡ with_faulted (map column_is f.faulted.items) new → HasTaken aside opening from to whole g
    has_touched first last counted touched before now_ran now_faulted =
        record {
          first = first ∙ h.first;
          last = last ∙ h.last;
          counted = counted ∙ counted_more n is;
          touched = one_more touched h.touched;
          behind = behind_more g.cells.items changed;
          before = λ some. before_more g.touching touched before;
          kept = ran_more now_ran;
          failed = faulted_more now_faulted;
        }
      where
        one_more : g.touching ≡ f.touching + 1 → f.touching ≡ length (touching from to es) → g.touching ≡ length (touching from to whole)
        one_more a b =
            let more : length (touching from to whole) ≡ length (touching from to es ++ (number, e) ∷ []) =
            ap length (taken (is_touching from to) es e touching_next) in
            let long = length-append (touching from to es) ((number, e) ∷ []) in
            omega (arith, a, b, more, long)
