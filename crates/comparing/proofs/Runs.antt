-- Two runs of which nothing is told.
use Rattle.std.proofs.Common.{◌≡◌, ℕ, ◌+◌, ◌≤◌, max, nat_lt, Bool, true, false, Option, Some, None, ℤ, List, [], ◌∷◌, ◌++◌}
use Rattle.std.proofs.Common.{get_or, length, map, refl, ap, sym, subst, ◌∙◌, arith, zero-add}
use Rattle.std.proofs.lemmas.Bool.Decides.{nat_tests}
use Rattle.std.proofs.lemmas.List.Elements.{All-cons, All-head, All-nil, All-tail}
use Rattle.std.specs.List.{All, flat_map}
use Rattle.std.specs.Option.{option_map}
use Rattle.std.specs.Prelude.{if◌then◌else◌, slice_get}
use Rattle.pram_values.specs.declared.kind.Kind.{Kind}
use Rattle.pram_values.specs.declared.kind.Kind.TheVariants.{Overflow, DivideByZero, OutOfRange, TooWide, ReadConflict, WriteConflict}
use Rattle.write_rules.specs.declared.fault.Fault.{Fault}
use Rattle.write_rules.specs.Verdict.{Verdict, Ended, Faulted, GoesOn}
use Rattle.comparing.specs.declared.compared.CommonRange.{CommonRange}
use Rattle.comparing.specs.declared.compared.Compared.{Compared}
use Rattle.comparing.specs.declared.difference.Difference.{Difference}
use Rattle.comparing.specs.declared.difference.Difference.TheVariants as differ
use Rattle.comparing.specs.declared.difference.Ending.TheVariants as ending
use Rattle.comparing.specs.Differences.{exceeded, excesses, first_difference, listed, same_kind}
use Rattle.comparing.specs.Ends.{cell_difference, cell_differences, output_difference, output_differences, range_differences}
use Rattle.comparing.specs.Told.{AgreeOn, ComeToTheSame, IsAtMost, KeepsTo}
use Rattle.comparing.specs.Unequal.{unequals}
use Rattle.scopes.proofs.Lists.{first_none}
use Rattle.comparing.proofs.Values.{all_same, none_unequal, one_list}

-- ---- lists

pub append_none : {X : Type 0} (xs ys : List X) → xs ++ ys ≡ [] → (xs ≡ []) × (ys ≡ [])
append_none [] ys h = (refl, h)
append_none (x ∷ xs) ys h = absurd (cc h)

pub map_none : {X Y : Type 0} (f : X → Y) (xs : List X) → map f xs ≡ [] → xs ≡ []
map_none f [] h = refl
map_none f (x ∷ xs) h = absurd (cc h)

flat_none : {X Y : Type 0} (f : X → List Y) (xs : List X) → flat_map f xs ≡ [] → All (λ (x : X). f x ≡ []) xs
flat_none {X} f [] h = All-nil (λ (x : X). f x ≡ [])
flat_none {X} f (x ∷ xs) h =
    let both = append_none (f x) (flat_map f xs) h in
    All-cons (λ (y : X). f y ≡ []) x xs both.0 (flat_none f xs both.1)

none_flat : {X Y : Type 0} (f : X → List Y) (xs : List X) → All (λ (x : X). f x ≡ []) xs → flat_map f xs ≡ []
none_flat f [] h = refl
none_flat {X} f (x ∷ xs) h =
    ap (λ ys. ys ++ flat_map f xs) (All-head (λ (y : X). f y ≡ []) x xs h) ∙ none_flat f xs (All-tail (λ (y : X). f y ≡ []) x xs h)

-- ---- kinds

pub one_kind : (k l : Kind) → same_kind k l ≡ true → k ≡ l
one_kind Overflow Overflow h = refl
one_kind DivideByZero DivideByZero h = refl
one_kind OutOfRange OutOfRange h = refl
one_kind TooWide TooWide h = refl
one_kind ReadConflict ReadConflict h = refl
one_kind WriteConflict WriteConflict h = refl
one_kind _ _ h = absurd (cc h)

kind_itself : (k : Kind) → same_kind k k ≡ true
kind_itself Overflow = refl
kind_itself DivideByZero = refl
kind_itself OutOfRange = refl
kind_itself TooWide = refl
kind_itself ReadConflict = refl
kind_itself WriteConflict = refl

-- ---- output and cells

pub outputs_one : (o p : List ℤ) → output_differences o p ≡ [] → o ≡ p
outputs_one o p h =
    let none = map_none output_difference (unequals o 0 p 0 (max (length o) (length p))) h in
    one_list o p (λ k lt. ap (slice_get o) (sym (zero-add k))
    ∙ none_unequal o 0 p 0 0 (max (length o) (length p)) none k (omega arith) (omega arith) ∙ ap (slice_get p) (zero-add k))

outputs_none : (b : Bool) (o p : List ℤ) → (b ≡ true → o ≡ p) → (if b then output_differences o p else []) ≡ []
outputs_none false o p h = refl
outputs_none true o p h =
    ap (map output_difference) (all_same o 0 p 0 0 (max (length o) (length p))
    (λ k le lt. ap (λ (q : List ℤ). slice_get q (0 + k)) (h refl)))

pub cells_agree : (rs : List CommonRange) (m q : List ℤ) → cell_differences rs m q ≡ [] → AgreeOn rs m q
cells_agree rs m q h = λ i d lt k inside.
    let r = get_or rs i d in
    let none = map_none (cell_difference r) (unequals m r.first_start q r.second_start r.length)
    (flat_none (range_differences m q) rs h i d lt) in
    none_unequal m r.first_start q r.second_start 0 r.length none k (omega arith) (omega arith)

cells_none : (rs : List CommonRange) (m q : List ℤ) → AgreeOn rs m q → cell_differences rs m q ≡ []
cells_none rs m q h =
    none_flat (range_differences m q) rs (λ i d lt.
    let r = get_or rs i d in
    ap (map (cell_difference r)) (all_same m r.first_start q r.second_start 0 r.length (λ k le inside. h i d lt k (omega arith))))

-- ---- limits

keeps_one : (told : ℕ → Difference) (taken limit : ℕ) (b : Bool) → nat_lt limit taken ≡ b →
    listed (option_map told (if b then Some limit else None)) ≡ [] → taken ≤ limit
keeps_one told taken limit true e h = absurd (cc h)
keeps_one told taken limit false e h = grind (arith, nat_tests)

pub keeps : (told : ℕ → Difference) (taken : ℕ) (limit : Option ℕ) → listed (option_map told (exceeded taken limit)) ≡ [] → IsAtMost
    taken limit
keeps told taken None h = tt
keeps told taken (Some limit) h = keeps_one told taken limit (nat_lt limit taken) refl h

kept_one : (taken limit : ℕ) → taken ≤ limit → nat_lt limit taken ≡ false
kept_one taken limit le = grind (arith, nat_tests)

kept : (told : ℕ → Difference) (taken : ℕ) (limit : Option ℕ) → IsAtMost taken limit → listed (option_map told (exceeded taken limit)) ≡ []
kept told taken None h = refl
kept told taken (Some limit) h = ap (λ (b : Bool). listed (option_map told (if b then Some limit else None))) (kept_one taken limit h)

-- ---- all of it

come_faults : (c : Compared) (f g : Fault) (o p : List ℤ) (t k : ℕ) (b : Bool) → same_kind f.kind g.kind ≡ b →
    slice_get ((if b then [] else differ.Endings (ending.Faulted f) (ending.Faulted g) ∷ []) ++ []) 0 ≡ None →
    (f.kind ≡ g.kind) × KeepsTo c.limits (record { verdict = Faulted g p; time = t; work = k })
come_faults c f g o p t k true e h = (one_kind f.kind g.kind e, λ is. absurd (cc is))
come_faults c f g o p t k false e h = absurd (cc h)

pub come : (c : Compared) (v w : Verdict) (t k : ℕ) → first_difference c v (record { verdict = w; time = t; work = k }) ≡ None →
    ComeToTheSame c v w × KeepsTo c.limits (record { verdict = w; time = t; work = k })
come c (Ended o m) (Ended p q) t k h =
    let rs = c.ranges.items in
    let outputs = if c.output then output_differences o p else [] in
    let all = append_none (outputs ++ cell_differences rs m q) (excesses c.limits t k)
    (first_none ((outputs ++ cell_differences rs m q) ++ excesses c.limits t k) h) in
    let ends = append_none outputs (cell_differences rs m q) all.0 in
    let limits = append_none (listed (option_map (differ.Time t) (exceeded t c.limits.time)))
    (listed (option_map (differ.Work k) (exceeded k c.limits.work))) all.1 in (
      (λ is. outputs_one o p (sym (ap (λ (b : Bool). if b then output_differences o p else []) is) ∙ ends.0), cells_agree rs m q ends.1),
      λ is. (keeps (differ.Time t) t c.limits.time limits.0, keeps (differ.Work k) k c.limits.work limits.1),
    )
come c (Faulted f o) (Faulted g p) t k h = come_faults c f g o p t k (same_kind f.kind g.kind) refl h
come c (GoesOn o) (GoesOn p) t k h = (tt, λ is. absurd (cc is))
come c _ _ t k h = absurd (cc h)

pub none_told : (c : Compared) (v w : Verdict) (t k : ℕ) → ComeToTheSame c v w →
    KeepsTo c.limits (record { verdict = w; time = t; work = k }) →
    first_difference c v (record { verdict = w; time = t; work = k }) ≡ None
none_told c (Ended o m) (Ended p q) t k h limits =
    let rs = c.ranges.items in
    let cells = cell_differences rs m q in
    let excess = excesses c.limits t k in
    let l = limits refl in
    let time = kept (differ.Time t) t c.limits.time l.0 in
    let work = kept (differ.Work k) k c.limits.work l.1 in
    ap (λ (xs : List Difference). slice_get ((xs ++ cells) ++ excess) 0) (outputs_none c.output o p h.0)
    ∙ ap (λ (xs : List Difference). slice_get (xs ++ excess) 0) (cells_none rs m q h.1)
    ∙ ap (λ (xs : List Difference). slice_get (xs ++ listed (option_map (differ.Work k) (exceeded k c.limits.work))) 0) time
    ∙ ap (λ (xs : List Difference). slice_get xs 0) work
none_told c (Faulted f o) (Faulted g p) t k h limits =
    let same : same_kind f.kind g.kind ≡ true = ap (same_kind f.kind) (sym h) ∙ kind_itself f.kind in
    ap (λ (b : Bool). slice_get ((if b then [] else differ.Endings (ending.Faulted f) (ending.Faulted g) ∷ []) ++ []) 0) same
none_told c (GoesOn o) (GoesOn p) t k h limits = refl
none_told c _ _ t k h limits = absurd h

-- ---- a run beside itself

come_itself : (c : Compared) (v : Verdict) → All (λ (r : CommonRange). r.first_start ≡ r.second_start) c.ranges.items → ComeToTheSame c v v
come_itself c (Ended o m) same =
    (λ is. refl, λ i d lt k inside. ap (λ (start : ℕ). slice_get m (start + k)) (same i d lt))
come_itself c (Faulted f o) same = refl
come_itself c (GoesOn o) same = tt

pub as_itself : (c : Compared) (v : Verdict) (t k : ℕ) → All (λ (r : CommonRange). r.first_start ≡ r.second_start) c.ranges.items →
    c.limits.time ≡ None → c.limits.work ≡ None → first_difference c v (record { verdict = v; time = t; work = k }) ≡ None
as_itself c v t k same time work =
    none_told c v v t k (come_itself c v same) (λ is. (subst (IsAtMost t) (sym time) tt, subst (IsAtMost k) (sym work) tt))
