-- The statements of a run that are drawn, where one more comes.
use Rattle.std.proofs.Common.{◌≡◌, ◌∙◌, ◌⊎◌, inl, inr, ℕ, ◌+◌, ◌-◌, ◌≤◌, Bool, true, false, not, ◌&&◌, ◌||◌, List, [], ◌∷◌, ◌++◌, ℤ}
use Rattle.std.proofs.Common.{ap, append-nil, arith, cond, length, map, refl, sym, take, drop, subst}
use Rattle.std.proofs.lemmas.List.{length-append, length-take, take-append-drop, take-append-le}
use Rattle.std.proofs.lemmas.List.Elements.{Contains-append_cases, Contains-append_left, Contains-append_right, filter-append}
use Rattle.std.specs.List.{Contains, enumerate_from, filter, list_any}
use Rattle.pram_model.proofs.Truths.{both}
use Rattle.journal.specs.Entries.{Entry}
use Rattle.pictures.specs.Acts.{acts_in}
use Rattle.pictures.specs.Flows.Choice.{drawn, faulted, is_access, is_asked, is_fault, is_faulted, is_ran, is_touching}
use Rattle.pictures.specs.Flows.Choice.{number_before}
use Rattle.pictures.specs.Flows.Choice.{ran, touching}
use Rattle.pictures.specs.Flows.Drawing.{column_of, written_by}
use Rattle.pictures.specs.Flows.Values.{value_of}
use Rattle.pictures.proofs.OfFlows.Members.{kept, of_kept, passes_test}

-- ---- one more

numbered_more : (k : ℕ) (xs : List Entry) (e : Entry) →
    enumerate_from k (xs ++ e ∷ []) ≡ enumerate_from k xs ++ (k + length xs, e) ∷ []
numbered_more k [] e = let same : k ≡ k + 0 = omega arith in ap (λ n. (n, e) ∷ []) same
numbered_more k (x ∷ xs) e =
    let same : (k + 1) + length xs ≡ k + length (x ∷ xs) = omega arith in
    ap (λ ps. (k, x) ∷ ps) (numbered_more (k + 1) xs e ∙ ap (λ n. enumerate_from (k + 1) xs ++ (n, e) ∷ []) same)

module _ (p : ℕ × Entry → Bool) (es : List Entry) (e : Entry) where
  one_more : filter p (enumerate_from 1 (es ++ e ∷ [])) ≡ filter p (enumerate_from 1 es) ++ filter p ((1 + length es, e) ∷ [])
  one_more = ap (filter p) (numbered_more 1 es e) ∙ filter-append p (enumerate_from 1 es) ((1 + length es, e) ∷ [])

  pub taken : p (1 + length es, e) ≡ true →
      filter p (enumerate_from 1 (es ++ e ∷ [])) ≡ filter p (enumerate_from 1 es) ++ (1 + length es, e) ∷ []
  taken is = one_more ∙ ap (λ b. filter p (enumerate_from 1 es) ++ cond b ((1 + length es, e) ∷ []) []) is

  pub passed : p (1 + length es, e) ≡ false → filter p (enumerate_from 1 (es ++ e ∷ [])) ≡ filter p (enumerate_from 1 es)
  passed is =
      one_more ∙ ap (λ b. filter p (enumerate_from 1 es) ++ cond b ((1 + length es, e) ∷ []) []) is
      ∙ append-nil (filter p (enumerate_from 1 es))

-- ---- columns stay

module _ (aside : Entry → List Bool) (opening : List ℤ) (es more : List Entry) where
  same_column : (k : ℕ) (e : Entry) → k ≤ length es → column_of aside opening (es ++ more) (k, e) ≡ column_of aside opening es (k, e)
  same_column k e within =
      ap (λ xs. record { number = k; entry = e; aside = aside e; written = written_by (value_of opening xs) (acts_in e) })
      (take-append-le k es more within)

  pub same_columns : (p : ℕ × Entry → Bool) (k : ℕ) (xs : List Entry) → k + length xs ≤ 1 + length es →
      map (column_of aside opening (es ++ more)) (filter p (enumerate_from k xs)) ≡
      map (column_of aside opening es) (filter p (enumerate_from k xs))
  same_columns p k [] within = refl
  same_columns p k (x ∷ xs) within =
      by (p (k, x)) (same_columns p (k + 1) xs (omega (arith, within)))
    where
      rest : List (ℕ × Entry)
      rest = filter p (enumerate_from (k + 1) xs)

      by : (b : Bool) → map (column_of aside opening (es ++ more)) rest ≡ map (column_of aside opening es) rest →
          map (column_of aside opening (es ++ more)) (cond b ((k, x) ∷ rest) rest) ≡
          map (column_of aside opening es) (cond b ((k, x) ∷ rest) rest)
      by false others = others
      by true others =
          ap (λ c. c ∷ map (column_of aside opening (es ++ more)) rest) (same_column k x (omega (arith, within)))
          ∙ ap (λ cs. column_of aside opening es (k, x) ∷ cs) others

-- ---- how many stand before the first

pub few_before : (p : ℕ × Entry → Bool) (k : ℕ) (xs : List Entry) → number_before (filter p (enumerate_from k xs)) ≤ (k - 1) + length xs
few_before p k [] = omega arith
few_before p k (x ∷ xs) = by (p (k, x)) (few_before p (k + 1) xs)
  where
    rest : List (ℕ × Entry)
    rest = filter p (enumerate_from (k + 1) xs)

    by : (b : Bool) → number_before rest ≤ ((k + 1) - 1) + length xs →
        number_before (cond b ((k, x) ∷ rest) rest) ≤ (k - 1) + length (x ∷ xs)
    by true others = omega arith
    by false others = omega (arith, others)

-- ---- those that touch memory are those that ran and those that faulted

parts_ran : (a f g : Bool) → (a && ((f || g) && not f)) ≡ ((a && (f || g)) && not f)
parts_ran true f g = refl
parts_ran false f g = refl

parts_faulted : (a f g : Bool) → (a && f) ≡ ((a && (f || g)) && f)
parts_faulted true true g = refl
parts_faulted true false true = refl
parts_faulted true false false = refl
parts_faulted false f g = refl

module _ (from to : ℕ) where
  pub ran_is : (p : ℕ × Entry) → is_ran from to p ≡ (is_touching from to p && not (is_fault p.1))
  ran_is p = parts_ran (is_asked from to p.0) (is_fault p.1) (list_any is_access (acts_in p.1))

  pub faulted_is : (p : ℕ × Entry) → is_faulted from to p ≡ (is_touching from to p && is_fault p.1)
  faulted_is p = parts_faulted (is_asked from to p.0) (is_fault p.1) (list_any is_access (acts_in p.1))

  -- how many
  counts : (k : ℕ) (xs : List Entry) → length (filter (is_touching from to) (enumerate_from k xs)) ≡
      length (filter (is_ran from to) (enumerate_from k xs)) + length (filter (is_faulted from to) (enumerate_from k xs))
  counts k [] = refl
  counts k (x ∷ xs) =
      by (is_touching from to (k, x)) (is_fault x) (counts (k + 1) xs)
      ∙ ap (λ b. length (cond b ((k, x) ∷ rs) rs) + length (cond (is_touching from to (k, x) && is_fault x) ((k, x) ∷ fs) fs))
      (sym (ran_is (k, x)))
      ∙ ap (λ b. length (cond (is_ran from to (k, x)) ((k, x) ∷ rs) rs) + length (cond b ((k, x) ∷ fs) fs)) (sym (faulted_is (k, x)))
    where
      ts : List (ℕ × Entry)
      ts = filter (is_touching from to) (enumerate_from (k + 1) xs)

      rs : List (ℕ × Entry)
      rs = filter (is_ran from to) (enumerate_from (k + 1) xs)

      fs : List (ℕ × Entry)
      fs = filter (is_faulted from to) (enumerate_from (k + 1) xs)

      by : (t f : Bool) → length ts ≡ length rs + length fs → length (cond t ((k, x) ∷ ts) ts) ≡
          length (cond (t && not f) ((k, x) ∷ rs) rs) + length (cond (t && f) ((k, x) ∷ fs) fs)
      by true true others = omega (arith, others)
      by true false others = omega (arith, others)
      by false f others = others

  pub touching_count : (es : List Entry) → length (touching from to es) ≡ length (ran from to es) + length (faulted from to es)
  touching_count es = counts 1 es

  -- no more are drawn than touch memory
  pub drawn_count : (es : List Entry) → length (drawn from to es) ≤ length (touching from to es)
  drawn_count es =
      let room = 64 - length (faulted from to es) in
      let all = length-append (take room (ran from to es)) (faulted from to es) in
      let some = length-take room (ran from to es) in
      let whole = touching_count es in
      omega (arith, all, some, whole)

  -- which
  both_hold : (a b : Bool) → a ≡ true → b ≡ true → (a && b) ≡ true
  both_hold true b ha hb = hb
  both_hold false b ha hb = ha

  pub touching_is_either : (es : List Entry) (p : ℕ × Entry) → Contains (touching from to es) p →
      Contains (ran from to es ++ faulted from to es) p
  touching_is_either es p one = by (is_fault p.1) refl
    where
      touches : is_touching from to p ≡ true
      touches = passes_test (is_touching from to) (enumerate_from 1 es) p one

      among : Contains (enumerate_from 1 es) p
      among = of_kept (is_touching from to) (enumerate_from 1 es) p one

      by : (f : Bool) → is_fault p.1 ≡ f → Contains (ran from to es ++ faulted from to es) p
      by true is = Contains-append_right (ran from to es) (faulted from to es) p
          (kept (is_faulted from to) (enumerate_from 1 es) p among
          (faulted_is p ∙ both_hold (is_touching from to p) (is_fault p.1) touches is))
      by false is = Contains-append_left (ran from to es) (faulted from to es) p
          (kept (is_ran from to) (enumerate_from 1 es) p among
          (ran_is p ∙ both_hold (is_touching from to p) (not (is_fault p.1)) touches (ap not is)))

  pub drawn_touches : (es : List Entry) (p : ℕ × Entry) → Contains (drawn from to es) p → Contains (touching from to es) p
  drawn_touches es p one =
      let room = 64 - length (faulted from to es) in
      by (Contains-append_cases (take room (ran from to es)) (faulted from to es) p one)
    where
      so : (q : ℕ × Entry → Bool) → ((p : ℕ × Entry) → q p ≡ true → is_touching from to p ≡ true) →
          Contains (filter q (enumerate_from 1 es)) p → Contains (touching from to es) p
      so q gives there = kept (is_touching from to) (enumerate_from 1 es) p (of_kept q (enumerate_from 1 es) p there)
          (gives p (passes_test q (enumerate_from 1 es) p there))

      whole : (n : ℕ) → Contains (take n (ran from to es)) p → Contains (ran from to es) p
      whole n there = subst (λ (ps : List (ℕ × Entry)). Contains ps p) (take-append-drop n (ran from to es))
          (Contains-append_left (take n (ran from to es)) (drop n (ran from to es)) p there)

      by : Contains (take (64 - length (faulted from to es)) (ran from to es)) p ⊎ Contains (faulted from to es) p →
          Contains (touching from to es) p
      by (inl here) = so (is_ran from to)
          (λ p h. (both (is_touching from to p) (not (is_fault p.1)) (sym (ran_is p) ∙ h)).0)
          (whole (64 - length (faulted from to es)) here)
      by (inr there) = so (is_faulted from to) (λ p h. (both (is_touching from to p) (is_fault p.1) (sym (faulted_is p) ∙ h)).0) there
