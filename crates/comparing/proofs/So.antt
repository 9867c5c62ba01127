-- What is told of two runs is so, and all that is told before it agrees.
use Rattle.std.proofs.Common.{◌≡◌, ◌≢◌, ◌⊎◌, ℕ, ◌+◌, ◌<◌, max, nat_lt, Bool, true, false, Option, Some, None, ℤ, List, [], ◌∷◌, ◌++◌, map}
use Rattle.std.proofs.Common.{length, refl, ap, sym, subst, inl, inr, ◌∙◌, arith, zero-add}
use Rattle.std.proofs.lemmas.Bool.Decides.{nat_tests}
use Rattle.std.proofs.lemmas.List.Elements.{All-cons, All-nil}
use Rattle.std.specs.Option.{option_map}
use Rattle.std.specs.Prelude.{if◌then◌else◌, slice_get}
use Rattle.write_rules.specs.Verdict.{Verdict, Ended, Faulted, GoesOn}
use Rattle.comparing.specs.declared.compared.CommonRange.{CommonRange}
use Rattle.comparing.specs.declared.compared.Compared.{Compared}
use Rattle.comparing.specs.declared.difference.Difference.{Difference}
use Rattle.comparing.specs.declared.difference.Difference.TheVariants as differ
use Rattle.comparing.specs.declared.difference.Ending.{Ending}
use Rattle.comparing.specs.declared.difference.Ending.TheVariants as ending
use Rattle.comparing.specs.declared.unequal.Beside.{Beside}
use Rattle.comparing.specs.Differences.{Run, ending_differences, ending_of, end_differences, exceeded, first_difference}
use Rattle.comparing.specs.Differences.{limit_differences, listed, same_ending, same_kind}
use Rattle.comparing.specs.Ends.{cell_difference, cell_differences, output_difference, output_differences, range_differences}
use Rattle.comparing.specs.Told.{ComeToTheSame, IsAtMost, IsFirstCell, IsSo}
use Rattle.comparing.specs.Unequal.{beside, unequals}
use Rattle.comparing.proofs.Runs.{append_none, cells_agree, keeps, map_none, one_kind, outputs_one}
use Rattle.comparing.proofs.Values.{first_unequal_is, none_unequal}

-- ---- lists

-- the first of two lists is that of the one before, or this is empty
first_of : {X : Type 0} (xs ys : List X) (x : X) → slice_get (xs ++ ys) 0 ≡ Some x →
    (slice_get xs 0 ≡ Some x) ⊎ ((xs ≡ []) × (slice_get ys 0 ≡ Some x))
first_of [] ys x h = inr (refl, h)
first_of (z ∷ zs) ys x h = inl h

first_mapped : {X Y : Type 0} (f : X → Y) (xs : List X) (y : Y) → slice_get (map f xs) 0 ≡ Some y →
    (x : X) × (slice_get xs 0 ≡ Some x) × (f x ≡ y)
first_mapped f [] y h = absurd (cc h)
first_mapped f (x ∷ xs) y h = let e : f x ≡ y = cc h in (x, refl, e)

-- ---- how they come out

endings : (c : Compared) (v : Verdict) (b : Run) (e : Bool) → same_ending (ending_of v) (ending_of b.verdict) ≡ e → (d : Difference) →
    slice_get (if e then [] else differ.Endings (ending_of v) (ending_of b.verdict) ∷ []) 0 ≡ Some d → IsSo c v b d
endings c v b true is d h = absurd (cc h)
endings c v b false is d h =
    let e : differ.Endings (ending_of v) (ending_of b.verdict) ≡ d = cc h in
    subst (IsSo c v b) e (refl, refl, is)

-- ---- two ends

outputs : (c : Compared) (o m p q : List ℤ) (t k : ℕ) (e : Bool) → c.output ≡ e → (d : Difference) →
    slice_get (if e then output_differences o p else []) 0 ≡ Some d →
    IsSo c (Ended o m) (record { verdict = Ended p q; time = t; work = k }) d
outputs c o m p q t k false is d h = absurd (cc h)
outputs c o m p q t k true is d h =
    let n = max (length o) (length p) in
    let P : Difference → Type 0 = IsSo c (Ended o m) (record { verdict = Ended p q; time = t; work = k }) in
    let g = first_mapped output_difference (unequals o 0 p 0 n) d h in
    let f = first_unequal_is o 0 p 0 0 n g.0 g.1 in
    let at = ap (slice_get o) (zero-add f.place) in
    let other = ap (slice_get p) (zero-add f.place) in
    let there : P (output_difference (beside o 0 p 0 f.place)) = (
      is,
      (refl, refl),
      record {
        place = f.place;
        number = refl;
        first = sym at;
        second = sym other;
        agree = λ j lt. sym (ap (slice_get o) (zero-add j)) ∙ f.agree j (omega arith) lt ∙ ap (slice_get p) (zero-add j);
      },
      f.differs,
    ) in
    subst P g.2 (subst (λ (b : Beside). P (output_difference b)) f.is there)

-- a cell that is told
record CellTold (rs : List CommonRange) (m q : List ℤ) (d : Difference) : Type 0 where
  cell : ℕ
  x : Option ℤ
  y : Option ℤ
  is : differ.Cell cell x y ≡ d
  there : IsFirstCell rs m q cell x y
  differs : x ≢ y

in_range : (r : CommonRange) (rs : List CommonRange) (m q : List ℤ) (d : Difference) → slice_get (range_differences m q r) 0 ≡ Some d →
    CellTold (r ∷ rs) m q d
in_range r rs m q d h =
    let g = first_mapped (cell_difference r) (unequals m r.first_start q r.second_start r.length) d h in
    let f = first_unequal_is m r.first_start q r.second_start 0 r.length g.0 g.1 in
    let below = f.below in
    record {
      cell = r.first_start + f.place;
      x = slice_get m (r.first_start + f.place);
      y = slice_get q (r.second_start + f.place);
      is = ap (cell_difference r) f.is ∙ g.2;
      there = record {
        before = [];
        range = r;
        behind = rs;
        compared = refl;
        place = f.place;
        within = omega (arith, below);
        number = refl;
        first = refl;
        second = refl;
        agree = All-nil (λ (s : CommonRange). (j : ℕ) → j < s.length → slice_get m (s.first_start + j) ≡ slice_get q (s.second_start + j));
        here = λ j lt. f.agree j (omega arith) lt;
      };
      differs = f.differs;
    }

behind_range : (r : CommonRange) (rs : List CommonRange) (m q : List ℤ) (d : Difference) → range_differences m q r ≡ [] →
    CellTold rs m q d → CellTold (r ∷ rs) m q d
behind_range r rs m q d none g =
    let unequal = map_none (cell_difference r) (unequals m r.first_start q r.second_start r.length) none in
    let f = g.there in
    record {
      cell = g.cell;
      x = g.x;
      y = g.y;
      is = g.is;
      there = record {
        before = r ∷ f.before;
        range = f.range;
        behind = f.behind;
        compared = ap (λ (ss : List CommonRange). r ∷ ss) f.compared;
        place = f.place;
        within = f.within;
        number = f.number;
        first = f.first;
        second = f.second;
        agree = All-cons
            (λ (s : CommonRange). (j : ℕ) → j < s.length → slice_get m (s.first_start + j) ≡ slice_get q (s.second_start + j))
            r f.before
            (λ j lt. none_unequal m r.first_start q r.second_start 0 r.length unequal j (omega arith) (omega arith)) f.agree;
        here = f.here;
      };
      differs = g.differs;
    }

cell_told : (rs : List CommonRange) (m q : List ℤ) (d : Difference) → slice_get (cell_differences rs m q) 0 ≡ Some d → CellTold rs m q d
cell_told [] m q d h = absurd (cc h)
cell_told (r ∷ rs) m q d h =
    elim (first_of (range_differences m q r) (cell_differences rs m q) d h) [
      | inl here ↦ in_range r rs m q d here
      | inr further ↦ behind_range r rs m q d further.0 (cell_told rs m q d further.1)
    ]

cells : (c : Compared) (o m p q : List ℤ) (t k : ℕ) (d : Difference) → (c.output ≡ true → o ≡ p) →
    slice_get (cell_differences c.ranges.items m q) 0 ≡ Some d →
    IsSo c (Ended o m) (record { verdict = Ended p q; time = t; work = k }) d
cells c o m p q t k d agree h =
    let g = cell_told c.ranges.items m q d h in
    subst (IsSo c (Ended o m) (record { verdict = Ended p q; time = t; work = k })) g.is ((refl, refl), agree, g.there, g.differs)

-- outputs of which nothing is told are one, where they are compared
outputs_agree : (b : Bool) (o p : List ℤ) → (if b then output_differences o p else []) ≡ [] → b ≡ true → o ≡ p
outputs_agree true o p none is = outputs_one o p none
outputs_agree false o p none is = absurd (cc is)

ends : (c : Compared) (v w : Verdict) (t k : ℕ) (d : Difference) → slice_get (end_differences c.output c.ranges.items v w) 0 ≡ Some d →
    IsSo c v (record { verdict = w; time = t; work = k }) d
ends c (Ended o m) (Ended p q) t k d h =
    elim (first_of (if c.output then output_differences o p else []) (cell_differences c.ranges.items m q) d h) [
      | inl item ↦ outputs c o m p q t k c.output refl d item
      | inr cell ↦ cells c o m p q t k d (outputs_agree c.output o p cell.0) cell.1
    ]
ends c v w t k d h = absurd (cc h)

-- ---- runs of which nothing is told

one_ending : (b : Bool) (e f : Ending) → (if b then [] else differ.Endings e f ∷ []) ≡ [] → b ≡ true
one_ending true e f h = refl
one_ending false e f h = absurd (cc h)

came : (c : Compared) (v w : Verdict) → ending_differences (ending_of v) (ending_of w) ≡ [] →
    end_differences c.output c.ranges.items v w ≡ [] → ComeToTheSame c v w
came c (Ended o m) (Ended p q) e h =
    let both = append_none (if c.output then output_differences o p else []) (cell_differences c.ranges.items m q) h in
    (outputs_agree c.output o p both.0, cells_agree c.ranges.items m q both.1)
came c (Faulted f o) (Faulted g p) e h =
    one_kind f.kind g.kind (one_ending (same_kind f.kind g.kind) (ending.Faulted f) (ending.Faulted g) e)
came c (GoesOn o) (GoesOn p) e h = tt
came c _ _ e h = absurd (cc e)

-- ---- limits

above : (taken limit : ℕ) → nat_lt limit taken ≡ true → limit < taken
above taken limit h = grind (arith, nat_tests)

times : (c : Compared) (v : Verdict) (p q : List ℤ) (t k : ℕ) (limit : Option ℕ) → c.limits.time ≡ limit →
    ComeToTheSame c v (Ended p q) → (d : Difference) →
    slice_get (listed (option_map (differ.Time t) (exceeded t limit))) 0 ≡ Some d →
    IsSo c v (record { verdict = Ended p q; time = t; work = k }) d
times c v p q t k None is same d h = absurd (cc h)
times c v p q t k (Some limit) is same d h = step (nat_lt limit t) refl h
  where
    P : Difference → Type 0
    P = IsSo c v (record { verdict = Ended p q; time = t; work = k })

    step : (b : Bool) → nat_lt limit t ≡ b →
        slice_get (listed (option_map (differ.Time t) (if b then Some limit else None))) 0 ≡ Some d → P d
    step true e h = let told : differ.Time t limit ≡ d = cc h in subst P told (same, refl, refl, is, above t limit e)
    step false e h = absurd (cc h)

works : (c : Compared) (v : Verdict) (p q : List ℤ) (t k : ℕ) (limit : Option ℕ) → c.limits.work ≡ limit →
    ComeToTheSame c v (Ended p q) → IsAtMost t c.limits.time → (d : Difference) →
    slice_get (listed (option_map (differ.Work k) (exceeded k limit))) 0 ≡ Some d →
    IsSo c v (record { verdict = Ended p q; time = t; work = k }) d
works c v p q t k None is same kept d h = absurd (cc h)
works c v p q t k (Some limit) is same kept d h = step (nat_lt limit k) refl h
  where
    P : Difference → Type 0
    P = IsSo c v (record { verdict = Ended p q; time = t; work = k })

    step : (b : Bool) → nat_lt limit k ≡ b →
        slice_get (listed (option_map (differ.Work k) (if b then Some limit else None))) 0 ≡ Some d → P d
    step true e h = let told : differ.Work k limit ≡ d = cc h in subst P told (same, kept, refl, refl, is, above k limit e)
    step false e h = absurd (cc h)

limits : (c : Compared) (v w : Verdict) (t k : ℕ) (d : Difference) → ComeToTheSame c v w →
    slice_get (limit_differences c.limits (record { verdict = w; time = t; work = k })) 0 ≡ Some d →
    IsSo c v (record { verdict = w; time = t; work = k }) d
limits c v (Ended p q) t k d same h =
    let time = listed (option_map (differ.Time t) (exceeded t c.limits.time)) in
    let work = listed (option_map (differ.Work k) (exceeded k c.limits.work)) in
    elim (first_of time work d h) [
      | inl more ↦ times c v p q t k c.limits.time refl same d more
      | inr more ↦ works c v p q t k c.limits.work refl same (keeps (differ.Time t) t c.limits.time more.0) d more.1
    ]
limits c v (Faulted f p) t k d same h = absurd (cc h)
limits c v (GoesOn p) t k d same h = absurd (cc h)

-- ---- all of it

pub told_is_so : (c : Compared) (v : Verdict) (b : Run) (d : Difference) → first_difference c v b ≡ Some d → IsSo c v b d
told_is_so c v b d h =
    let front = ending_differences (ending_of v) (ending_of b.verdict) in
    let middle = end_differences c.output c.ranges.items v b.verdict in
    let rest = limit_differences c.limits b in
    elim (first_of front (middle ++ rest) d h) [
      | inl e ↦ endings c v b (same_ending (ending_of v) (ending_of b.verdict)) refl d e
      | inr further ↦
          elim (first_of middle rest d further.1) [
            | inl e ↦ ends c v b.verdict b.time b.work d e
            | inr last ↦ limits c v b.verdict b.time b.work d (came c v b.verdict further.0 last.0) last.1
          ]
    ]
