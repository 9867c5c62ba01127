-- Which declarations two programs both have, and where.
use Rattle.std.proofs.Common.{◌≡◌, ◌≢◌, ◌⊎◌, ℕ, zero, suc, ◌+◌, ◌≤◌, Bool, true, false, ◌&&◌, cond, Option, Some, None, List, [], ◌∷◌}
use Rattle.std.proofs.Common.{◌++◌}
use Rattle.std.proofs.Common.{map, refl, ap, sym, subst, inl, inr, ◌∙◌, arith, zero-add, add_assoc}
use Rattle.std.proofs.lemmas.List.Elements.{All-cons, All-head, All-map, All-nil, All-tail, All-weaker}
use Rattle.std.proofs.lemmas.List.Kept.{AllPairs-cons}
use Rattle.std.specs.List.{All, AllPairs, Any, Contains, cons_option, filter_map, find}
use Rattle.std.specs.Option.{option_map}
use Rattle.pram_model.specs.Layout.{SharedEntry, size, total_size}
use Rattle.pram_model.specs.Names.{same_text}
use Rattle.pram_model.proofs.Texts.{same_is, same_itself}
use Rattle.scopes.proofs.Bounds.{both_true, bounds_itself, one_bounds}
use Rattle.comparing.specs.declared.compared.CommonRange.{CommonRange}
use Rattle.comparing.specs.Common.{Shared, both, common, range_of, same_entry, shared, shared_with}
use Rattle.scopes.specs.Handed.{Placed, StandsAt, placed, same_bounds}

-- ---- one declaration

pub one_entry : (e f : SharedEntry) → same_entry e f ≡ true → e ≡ f
one_entry e f h =
    let parts = both_true (same_text e.name f.name) (same_bounds e.bounds f.bounds) h in
    let names = same_is e.name f.name parts.0 in
    let bounds = one_bounds e.bounds f.bounds parts.1 in
    λ i. record { name = names i; bounds = bounds i }

pub entry_itself : (e : SharedEntry) → same_entry e e ≡ true
entry_itself e = ap (λ (b : Bool). b && same_bounds e.bounds e.bounds) (same_itself e.name) ∙ bounds_itself e.bounds

-- ---- some item

any_here : {X : Type 0} (P : X → Type 0) (x : X) (xs : List X) → P x → Any P (x ∷ xs)
any_here P x xs h = (0, x, omega arith, refl, h)

any_behind : {X : Type 0} (P : X → Type 0) (x : X) (xs : List X) → Any P xs → Any P (x ∷ xs)
any_behind P x xs (k, y, lt, is, h) = (suc k, y, omega (arith, lt), is, h)

any_split : {X : Type 0} (P : X → Type 0) (x : X) (xs : List X) → Any P (x ∷ xs) → P x ⊎ Any P xs
any_split P x xs (zero, y, lt, is, h) = inl (subst P (sym is) h)
any_split P x xs (suc k, y, lt, is, h) = inr (k, y, omega (arith, lt), is, h)

any_nil : {X : Type 0} (P : X → Type 0) → Any P [] → ⊥
any_nil P (k, y, lt, is, h) = omega (arith, lt)

any_weaker : {X : Type 0} (P Q : X → Type 0) → ((x : X) → P x → Q x) → (xs : List X) → Any P xs → Any Q xs
any_weaker P Q f xs (k, y, lt, is, h) = (k, y, lt, is, f y h)

any_map : {X Y : Type 0} (P : Y → Type 0) (f : X → Y) (xs : List X) → Any (λ (x : X). P (f x)) xs → Any P (map f xs)
any_map {X} P f [] h = absurd (any_nil (λ (x : X). P (f x)) h)
any_map {X} P f (x ∷ xs) h =
    elim (any_split (λ (y : X). P (f y)) x xs h) [
      | inl here ↦ any_here P (f x) (map f xs) here
      | inr rest ↦ any_behind P (f x) (map f xs) (any_map P f xs rest)
    ]

any_option : {Y : Type 0} (Q : Y → Type 0) (o : Option Y) (ys : List Y) → Any Q ys → Any Q (cons_option o ys)
any_option Q None ys h = h
any_option Q (Some y) ys h = any_behind Q y ys h

any_chosen : {X Y : Type 0} (Q : Y → Type 0) (h : X → Option Y) (xs : List X) → Any (λ (x : X). (y : Y) × (h x ≡ Some y) × Q y) xs →
    Any Q (filter_map h xs)
any_chosen {X} {Y} Q h [] a = absurd (any_nil (λ (x : X). (y : Y) × (h x ≡ Some y) × Q y) a)
any_chosen {X} {Y} Q h (x ∷ xs) a =
    elim (any_split (λ (z : X). (y : Y) × (h z ≡ Some y) × Q y) x xs a) [
      | inl here ↦
          subst (λ (o : Option Y). Any Q (cons_option o (filter_map h xs))) (sym here.1)
          (any_here Q here.0 (filter_map h xs) here.2)
      | inr rest ↦ any_option Q (h x) (filter_map h xs) (any_chosen Q h xs rest)
    ]

-- ---- each item

chosen_step : {Y : Type 0} (P : Y → Type 0) (o : Option Y) (ys : List Y) → ((y : Y) → o ≡ Some y → P y) → All P ys →
    All P (cons_option o ys)
chosen_step P None ys h all = all
chosen_step P (Some y) ys h all = All-cons P y ys (h y refl) all

all_chosen : {X Y : Type 0} (P : Y → Type 0) (h : X → Option Y) (xs : List X) → All (λ (x : X). (y : Y) → h x ≡ Some y → P y) xs →
    All P (filter_map h xs)
all_chosen P h [] all = All-nil P
all_chosen {X} {Y} P h (x ∷ xs) all =
    let Q : X → Type 0 = λ z. (y : Y) → h z ≡ Some y → P y in
    chosen_step P (h x) (filter_map h xs) (All-head Q x xs all) (all_chosen P h xs (All-tail Q x xs all))

found_step : {X : Type 0} (P : X → Type 0) (test : X → Bool) (x : X) (xs : List X) (q : X) (b : Bool) → test x ≡ b → P x →
    (find test xs ≡ Some q → P q × (test q ≡ true)) → cond b (Some x) (find test xs) ≡ Some q → P q × (test q ≡ true)
found_step P test x xs q true is here further h =
    let e : x ≡ q = cc h in
    (subst P e here, ap test (sym e) ∙ is)
found_step P test x xs q false is here further h = further h

found_holds : {X : Type 0} (P : X → Type 0) (test : X → Bool) (xs : List X) (q : X) → All P xs → find test xs ≡ Some q →
    P q × (test q ≡ true)
found_holds P test [] q all h = absurd (cc h)
found_holds P test (x ∷ xs) q all h =
    found_step P test x xs q (test x) refl (All-head P x xs all) (found_holds P test xs q (All-tail P x xs all)) h

-- ---- where declarations stand

-- where the cells are numbered on from s
abbrev pub StandsFrom : ℕ → List SharedEntry → SharedEntry → ℕ → Type 0
StandsFrom s l e start =
    (before : List SharedEntry) × (behind : List SharedEntry) × (l ≡ before ++ e ∷ behind) × (start ≡ s + total_size before)

from_zero : (l : List SharedEntry) (e : SharedEntry) (start : ℕ) → StandsFrom 0 l e start → StandsAt l e start
from_zero l e start (before, behind, is, at) = (before, behind, is, at ∙ zero-add (total_size before))

one_further : (s : ℕ) (x : SharedEntry) (es : List SharedEntry) (e : SharedEntry) (start : ℕ) → StandsFrom (s + size x.bounds) es e start →
    StandsFrom s (x ∷ es) e start
one_further s x es e start (before, behind, is, at) =
    (x ∷ before, behind, ap (λ (ys : List SharedEntry). x ∷ ys) is, at ∙ add_assoc s (size x.bounds) (total_size before))

placed_stand : (s : ℕ) (l : List SharedEntry) → All (λ (p : Placed). StandsFrom s l p.entry p.start) (placed s l)
placed_stand s [] = All-nil (λ (p : Placed). StandsFrom s [] p.entry p.start)
placed_stand s (x ∷ es) =
    let here : s ≡ s + 0 = omega arith in
    All-cons (λ (p : Placed). StandsFrom s (x ∷ es) p.entry p.start) (record { entry = x; start = s }) (placed (s + size x.bounds) es)
    ([], es, refl, here)
    (All-weaker (λ (p : Placed). StandsFrom (s + size x.bounds) es p.entry p.start)
    (λ (p : Placed). StandsFrom s (x ∷ es) p.entry p.start)
    (λ p h. one_further s x es p.entry p.start h) (placed (s + size x.bounds) es) (placed_stand (s + size x.bounds) es))

-- ---- what stands in both

-- a declaration of both, with its cells in each
abbrev pub IsOfBoth : List SharedEntry → List SharedEntry → Shared → Type 0
IsOfBoth l m s =
    StandsAt l s.entry s.range.first_start × StandsAt m s.entry s.range.second_start × (s.range.length ≡ size s.entry.bounds)

of_both_step : (l m : List SharedEntry) (p : Placed) (s : Shared) (o : Option Placed) →
    find (λ (q : Placed). same_entry p.entry q.entry) (placed 0 m) ≡ o → StandsFrom 0 l p.entry p.start → option_map (both p) o ≡ Some s →
    IsOfBoth l m s
of_both_step l m p s None is here h = absurd (cc h)
of_both_step l m p s (Some q) is here h =
    let e : both p q ≡ s = cc h in
    let holds = found_holds (λ (r : Placed). StandsFrom 0 m r.entry r.start) (λ (r : Placed). same_entry p.entry r.entry) (placed 0 m) q
    (placed_stand 0 m) is in
    let entries : q.entry ≡ p.entry = sym (one_entry p.entry q.entry holds.1) in
    subst (IsOfBoth l m) e (
      from_zero l p.entry p.start here,
      subst (λ (f : SharedEntry). StandsAt m f q.start) entries (from_zero m q.entry q.start holds.0),
      refl,
    )

shared_of_both : (l m : List SharedEntry) → All (IsOfBoth l m) (shared l m)
shared_of_both l m =
    all_chosen (IsOfBoth l m) (shared_with m) (placed 0 l)
    (All-weaker (λ (p : Placed). StandsFrom 0 l p.entry p.start)
    (λ (p : Placed). (s : Shared) → shared_with m p ≡ Some s → IsOfBoth l m s)
    (λ p here s h. of_both_step l m p s (find (λ (q : Placed). same_entry p.entry q.entry) (placed 0 m)) refl here h) (placed 0 l)
    (placed_stand 0 l))

pub common_of_both : (l m : List SharedEntry) →
    All (λ (r : CommonRange). (e : SharedEntry) × StandsAt l e r.first_start × StandsAt m e r.second_start × (r.length ≡ size e.bounds))
    (common l m)
common_of_both l m =
    let P : CommonRange → Type 0 =
    λ r. (e : SharedEntry) × StandsAt l e r.first_start × StandsAt m e r.second_start × (r.length ≡ size e.bounds) in
    All-map P range_of (shared l m)
    (All-weaker (IsOfBoth l m) (λ (s : Shared). P (range_of s)) (λ s h. (s.entry, h.0, h.1, h.2)) (shared l m) (shared_of_both l m))

-- ---- each of both is there

placed_has : (s : ℕ) (before : List SharedEntry) (e : SharedEntry) (behind : List SharedEntry) →
    Any (λ (p : Placed). p ≡ record { entry = e; start = s + total_size before }) (placed s (before ++ e ∷ behind))
placed_has s [] e behind =
    let here : s ≡ s + 0 = omega arith in
    any_here (λ (p : Placed). p ≡ record { entry = e; start = s + 0 }) (record { entry = e; start = s }) (placed (s + size e.bounds) behind)
    (λ i. record { entry = e; start = here i })
placed_has s (x ∷ before) e behind =
    let t = s + size x.bounds in
    any_behind (λ (p : Placed). p ≡ record { entry = e; start = s + (size x.bounds + total_size before) }) (record { entry = x; start = s })
    (placed t (before ++ e ∷ behind))
    (any_weaker (λ (p : Placed). p ≡ record { entry = e; start = t + total_size before })
    (λ (p : Placed). p ≡ record { entry = e; start = s + (size x.bounds + total_size before) })
    (λ p h. h ∙ (λ i. record { entry = e; start = (add_assoc s (size x.bounds) (total_size before)) i }))
    (placed t (before ++ e ∷ behind)) (placed_has t before e behind))

finds_step : (e : SharedEntry) (s : ℕ) (x : SharedEntry) (es : List SharedEntry) (b : Bool) → same_entry e x ≡ b → Contains (x ∷ es) e →
    (Contains es e → (q : Placed) × (find (λ (r : Placed). same_entry e r.entry) (placed (s + size x.bounds) es) ≡ Some q)) →
    (q : Placed) × (cond b (Some (record { entry = x; start = s }))
    (find (λ (r : Placed). same_entry e r.entry) (placed (s + size x.bounds) es)) ≡ Some q)
finds_step e s x es true is h further = (record { entry = x; start = s }, refl)
finds_step e s x es false is (zero, lt, at) further =
    let yes : same_entry e x ≡ true = ap (same_entry e) at ∙ entry_itself e in
    absurd (cc (sym is ∙ yes))
finds_step e s x es false is (suc k, lt, at) further = further (k, omega (arith, lt), at)

finds : (e : SharedEntry) (s : ℕ) (m : List SharedEntry) → Contains m e →
    (q : Placed) × (find (λ (r : Placed). same_entry e r.entry) (placed s m) ≡ Some q)
finds e s [] (k, lt, at) = absurd (omega (arith, lt))
finds e s (x ∷ es) h = finds_step e s x es (same_entry e x) refl h (finds e (s + size x.bounds) es)

pub both_have : (l m : List SharedEntry) (e : SharedEntry) (start : ℕ) → StandsAt l e start → Contains m e →
    Any (λ (r : CommonRange). (r.first_start ≡ start) × (r.length ≡ size e.bounds) × StandsAt m e r.second_start) (common l m)
both_have l m e start (before, behind, is, at) there =
    let P : CommonRange → Type 0 = λ r. (r.first_start ≡ start) × (r.length ≡ size e.bounds) × StandsAt m e r.second_start in
    let its : Placed = record { entry = e; start = 0 + total_size before } in
    let f = finds e 0 m there in
    let holds = found_holds (λ (r : Placed). StandsFrom 0 m r.entry r.start) (λ (r : Placed). same_entry e r.entry) (placed 0 m) f.0
    (placed_stand 0 m) f.1 in
    let entries : f.0.entry ≡ e = sym (one_entry e f.0.entry holds.1) in
    let starts : 0 + total_size before ≡ start = zero-add (total_size before) ∙ sym at in
    let stands : StandsAt m e f.0.start =
    subst (λ (g : SharedEntry). StandsAt m g f.0.start) entries (from_zero m f.0.entry f.0.start holds.0) in
    any_map P range_of (shared l m)
    (any_chosen (λ (s : Shared). P (range_of s)) (shared_with m) (placed 0 l)
    (subst (λ (ys : List SharedEntry). Any (λ (p : Placed). (s : Shared) × (shared_with m p ≡ Some s) × P (range_of s)) (placed 0 ys))
    (sym is)
    (any_weaker (λ (p : Placed). p ≡ its) (λ (p : Placed). (s : Shared) × (shared_with m p ≡ Some s) × P (range_of s))
    (λ p h. (both its f.0, ap (shared_with m) h ∙ ap (λ (o : Option Placed). option_map (both its) o) f.1, (starts, refl, stands)))
    (placed 0 (before ++ e ∷ behind)) (placed_has 0 before e behind))))

-- ---- in order

-- one ends before the other begins
abbrev pub EndsBefore : CommonRange → CommonRange → Type 0
EndsBefore r s = r.first_start + r.length ≤ s.first_start

range_is : (p : Placed) (s : Shared) (o : Option Placed) → option_map (both p) o ≡ Some s →
    (s.range.first_start ≡ p.start) × (s.range.length ≡ size p.entry.bounds)
range_is p s None h = absurd (cc h)
range_is p s (Some q) h =
    let e : both p q ≡ s = cc h in
    (ap (λ (t : Shared). t.range.first_start) (sym e), ap (λ (t : Shared). t.range.length) (sym e))

ascending_step : (start : ℕ) (p : Placed) (found : Option Placed) (o : Option Shared) (ss : List Shared) → option_map (both p) found ≡ o →
    p.start ≡ start →
    All (λ (r : CommonRange). start + size p.entry.bounds ≤ r.first_start) (map range_of ss) × AllPairs EndsBefore (map range_of ss) →
    All (λ (r : CommonRange). start ≤ r.first_start) (map range_of (cons_option o ss))
    × AllPairs EndsBefore (map range_of (cons_option o ss))
ascending_step start p found None ss is at (above, pairs) = (
  All-weaker (λ (r : CommonRange). start + size p.entry.bounds ≤ r.first_start) (λ (r : CommonRange). start ≤ r.first_start)
      (λ r h. omega (arith, h)) (map range_of ss) above,
  pairs,
)
ascending_step start p found (Some s) ss is at (above, pairs) =
    let its = range_is p s found is in
    let first : s.range.first_start ≡ start = its.0 ∙ at in
    let long : s.range.length ≡ size p.entry.bounds = its.1 in (
      All-cons (λ (r : CommonRange). start ≤ r.first_start) (range_of s) (map range_of ss) (omega (arith, first))
          (All-weaker (λ (r : CommonRange). start + size p.entry.bounds ≤ r.first_start) (λ (r : CommonRange). start ≤ r.first_start)
          (λ r h. omega (arith, h)) (map range_of ss) above),
      AllPairs-cons EndsBefore (range_of s) (map range_of ss)
          (All-weaker (λ (r : CommonRange). start + size p.entry.bounds ≤ r.first_start) (EndsBefore (range_of s))
          (λ r h. omega (arith, h, first, long)) (map range_of ss) above) pairs,
    )

ascending_from : (m : List SharedEntry) (start : ℕ) (l : List SharedEntry) →
    All (λ (r : CommonRange). start ≤ r.first_start) (map range_of (filter_map (shared_with m) (placed start l)))
    × AllPairs EndsBefore (map range_of (filter_map (shared_with m) (placed start l)))
ascending_from m start [] = (All-nil (λ (r : CommonRange). start ≤ r.first_start), λ i j d lt within. absurd (omega (arith, within)))
ascending_from m start (x ∷ es) =
    let p : Placed = record { entry = x; start = start } in
    ascending_step start p (find (λ (q : Placed). same_entry x q.entry) (placed 0 m)) (shared_with m p)
    (filter_map (shared_with m) (placed (start + size x.bounds) es)) refl refl (ascending_from m (start + size x.bounds) es)

pub common_ascends : (l m : List SharedEntry) → AllPairs EndsBefore (common l m)
common_ascends l m = (ascending_from m 0 l).1

-- ---- a program beside itself

-- no two declarations have one name
abbrev pub Apart : List SharedEntry → Type 0
Apart l = AllPairs (λ e f. e.name ≢ f.name) l

apart_behind : (x : SharedEntry) (es : List SharedEntry) → Apart (x ∷ es) → Apart es
apart_behind x es h = λ i j d lt within. h (suc i) (suc j) d (omega (arith, lt)) (omega (arith, within))

not_again : (e : SharedEntry) (before behind : List SharedEntry) → Apart (e ∷ (before ++ e ∷ behind)) → ⊥
not_again e before behind h = no_later (before ++ e ∷ behind) h (stands_in before)
  where
    stands_in : (ys : List SharedEntry) → Contains (ys ++ e ∷ behind) e
    stands_in [] = (0, omega arith, refl)
    stands_in (y ∷ ys) = let s = stands_in ys in let lt = s.1 in (suc (s.0), omega arith, s.2)

    no_later : (ys : List SharedEntry) → Apart (e ∷ ys) → Contains ys e → ⊥
    no_later ys apart (k, lt, at) =
        apart 0 (suc k) e (omega arith) (omega (arith, lt)) (ap (λ (f : SharedEntry). f.name) (sym at))

once : (e : SharedEntry) (before behind after rest : List SharedEntry) → before ++ e ∷ behind ≡ after ++ e ∷ rest →
    Apart (before ++ e ∷ behind) → total_size before ≡ total_size after
once e [] behind [] rest is apart = refl
once e [] behind (y ∷ after) rest is apart =
    let first : e ≡ y = cc is in
    let others : behind ≡ after ++ e ∷ rest = cc is in
    absurd (not_again e after rest (subst (λ (ys : List SharedEntry). Apart (e ∷ ys)) others apart))
once e (x ∷ before) behind [] rest is apart =
    let first : x ≡ e = cc is in
    absurd (not_again e before behind (subst (λ (y : SharedEntry). Apart (y ∷ (before ++ e ∷ behind))) first apart))
once e (x ∷ before) behind (y ∷ after) rest is apart =
    let first : x ≡ y = cc is in
    let others : before ++ e ∷ behind ≡ after ++ e ∷ rest = cc is in
    let more = once e before behind after rest others (apart_behind x (before ++ e ∷ behind) apart) in
    let sizes : size x.bounds ≡ size y.bounds = ap (λ (f : SharedEntry). size f.bounds) first in
    omega (arith, more, sizes)

stands_once : (l : List SharedEntry) (e : SharedEntry) (a b : ℕ) → Apart l → StandsAt l e a → StandsAt l e b → a ≡ b
stands_once l e a b apart (before, behind, is, at) (after, rest, also, there) =
    at ∙ once e before behind after rest (sym is ∙ also) (subst Apart is apart) ∙ sym there

pub common_itself : (l : List SharedEntry) → Apart l → All (λ (r : CommonRange). r.first_start ≡ r.second_start) (common l l)
common_itself l apart =
    All-weaker
    (λ (r : CommonRange). (e : SharedEntry) × StandsAt l e r.first_start × StandsAt l e r.second_start × (r.length ≡ size e.bounds))
    (λ (r : CommonRange). r.first_start ≡ r.second_start)
    (λ r h. stands_once l h.0 r.first_start r.second_start apart h.1 h.2) (common l l) (common_of_both l l)
