-- A part of a run within a bound, beside the same part within one that is no smaller: its moments lead to what it comes to, and the larger
-- bound changes nothing but where the smaller one was met.
use Rattle.std.proofs.Common.{◌≡◌, ◌≤◌, ◌<◌, ◌∙◌, ℕ, ℤ, List, [], ◌∷◌, ◌++◌, Bool, true, false, if◌then◌else◌, ap, append-nil}
use Rattle.std.proofs.Common.{append_assoc, arith, length, length-append, refl, subst, sym}
use Rattle.pram_meaning.specs.Bounded.{Behaviour, Done, Goes, Reaches, Stops, then_do}
use Rattle.pram_meaning.specs.Moments.{Closed, Moment, behind, closing}
use Rattle.pram_meaning.specs.Store.{State}
use Rattle.moment_laws.specs.Following.{IsSameStore, Lead, statements}
use Rattle.moment_laws.proofs.Leading.{lead_from, lead_none, lead_on, lead_to, statements_on}

abbrev pub done : Unit {0}
done = tt

-- it leads to a state that has printed this, and counted at most so many statements
abbrev pub LeadsTo : (n : ℕ) → State → List Moment → List ℤ → Type 0
LeadsTo n m ms out = (last : State) × Lead ms m last × (last.output ≡ out) × (last.count ≤ n)

-- within the larger bound there are more moments: one statement more at least
abbrev pub IsCut : (n k : ℕ) → (ms ns : List Moment) → Type 0
IsCut n k ms ns = (rest : List Moment) × (statements ns ≡ statements ms ++ rest) × (n < k → 0 < length rest)

-- `ms` are the moments and `b` the behaviour within n statements, and `ns` and `c` those within k
abbrev pub IsRun : {A : Type 0} → (n k : ℕ) → State → (ms ns : List Moment) → (b c : Behaviour A) → Type 0
IsRun n k m ms ns (Goes a new) c = Lead ms m new × (new.count ≤ n) × (ns ≡ ms) × (c ≡ Goes a new)
IsRun n k m ms ns (Stops f out) c = LeadsTo n m ms out × (ns ≡ ms) × (c ≡ Stops f out)
IsRun n k m ms ns (Reaches out) c = (last : State) × Lead ms m last × (last.output ≡ out) × (last.count ≡ n) × IsCut n k ms ns

-- ---- one part behind the other

cut_on : (n k : ℕ) (zs ms ns : List Moment) → IsCut n k ms ns → IsCut n k (zs ++ ms) (zs ++ ns)
cut_on n k zs ms ns cut = (
  cut.0,
  statements_on zs ns ∙ ap (λ xs. statements zs ++ xs) cut.1 ∙ sym (append_assoc (statements zs) (statements ms) cut.0)
      ∙ ap (λ xs. xs ++ cut.0) (sym (statements_on zs ms)),
  cut.2,
)

run_on : {B : Type 0} (n k : ℕ) (m new : State) (zs ms ns : List Moment) (b c : Behaviour B) → Lead zs m new →
    IsRun n k new ms ns b c → IsRun n k m (zs ++ ms) (zs ++ ns) b c
run_on n k m new zs ms ns (Goes a last) c lead is =
    (lead_on zs ms m new last lead is.0, is.1, ap (λ xs. zs ++ xs) is.2, is.3)
run_on n k m new zs ms ns (Stops f out) c lead is =
    let to = is.0 in
    ((to.0, lead_on zs ms m new to.0 lead to.1, to.2, to.3), ap (λ xs. zs ++ xs) is.1, is.2)
run_on n k m new zs ms ns (Reaches out) c lead is =
    (is.0, lead_on zs ms m new is.0 lead is.1, is.2, is.3, cut_on n k zs ms ns is.4)

-- behind what has met the bound comes nothing, and behind the larger bound anything
cut_more : (n k : ℕ) (ms ns xs : List Moment) → IsCut n k ms ns → IsCut n k (ms ++ []) (ns ++ xs)
cut_more n k ms ns xs cut = (
  cut.0 ++ statements xs,
  statements_on ns xs ∙ ap (λ ys. ys ++ statements xs) cut.1 ∙ append_assoc (statements ms) cut.0 (statements xs)
      ∙ ap (λ ys. ys ++ (cut.0 ++ statements xs)) (sym (ap statements (append-nil ms))),
  λ low. let some = cut.2 low in let both = length-append cut.0 (statements xs) in omega (arith, some, both),
)

pub run_then : {A B : Type 0} (n k : ℕ) (m : State) (ms ns : List Moment) (b c : Behaviour A) (h i : A → State → List Moment)
    (g j : A → State → Behaviour B) → IsRun n k m ms ns b c →
    ((a : A) (new : State) → b ≡ Goes a new → new.count ≤ n → IsRun n k new (h a new) (i a new) (g a new) (j a new)) →
    IsRun n k m (ms ++ behind b h) (ns ++ behind c i) (then_do b g) (then_do c j)
run_then n k m ms ns (Goes a new) c h i g j is rest =
    subst (λ ns. IsRun n k m (ms ++ h a new) (ns ++ behind c i) (g a new) (then_do c j)) (sym is.2)
    (subst (λ c. IsRun n k m (ms ++ h a new) (ms ++ behind c i) (g a new) (then_do c j)) (sym is.3)
    (run_on n k m new ms (h a new) (i a new) (g a new) (j a new) is.0 (rest a new refl is.1)))
run_then n k m ms ns (Stops f out) c h i g j is rest =
    let to = is.0 in (
      (to.0, subst (λ ms. Lead ms m to.0) (sym (append-nil ms)) to.1, to.2, to.3),
      ap (λ ns. ns ++ behind c i) is.1 ∙ ap (λ c. ms ++ behind c i) is.2,
      ap (λ c. then_do c j) is.2,
    )
run_then n k m ms ns (Reaches out) c h i g j is rest =
    (is.0, subst (λ ms. Lead ms m is.0) (sym (append-nil ms)) is.1, is.2, is.3, cut_more n k ms ns (behind c i) is.4)

-- ---- what changes neither the store nor the count

-- what comes first
pub run_from : {A : Type 0} (n k : ℕ) (m new : State) (ms ns : List Moment) (b c : Behaviour A) → IsSameStore m new → new.count ≡ m.count →
    IsRun n k new ms ns b c → IsRun n k m ms ns b c
run_from n k m new ms ns (Goes a last) c same count is = (lead_from ms m new last same count is.0, is.1, is.2, is.3)
run_from n k m new ms ns (Stops f out) c same count is =
    let to = is.0 in ((to.0, lead_from ms m new to.0 same count to.1, to.2, to.3), is.1, is.2)
run_from n k m new ms ns (Reaches out) c same count is = (is.0, lead_from ms m new is.0 same count is.1, is.2, is.3, is.4)

-- and what comes last
pub run_map : {A B : Type 0} (n k : ℕ) (m : State) (ms ns : List Moment) (b c : Behaviour A) (f : A → State → B) (h : State → State) →
    ((m : State) → IsSameStore m (h m)) → ((m : State) → (h m).count ≡ m.count) → IsRun n k m ms ns b c →
    IsRun n k m ms ns (then_do b (λ a m. Goes (f a m) (h m))) (then_do c (λ a m. Goes (f a m) (h m)))
run_map n k m ms ns (Goes a new) c f h same count is =
    let e = count new in let l = is.1 in
    (lead_to ms m new (h new) is.0 (same new) e, omega (arith, e, l), is.2, ap (λ c. then_do c (λ a m. Goes (f a m) (h m))) is.3)
run_map n k m ms ns (Stops k' out) c f h same count is = (is.0, is.1, ap (λ c. then_do c (λ a m. Goes (f a m) (h m))) is.2)
run_map n k m ms ns (Reaches out) c f h same count is = is

pub run_none : {A : Type 0} (n k : ℕ) (a : A) (m : State) → m.count ≤ n → IsRun n k m [] [] (Goes a m) (Goes a m)
run_none n k a m low = (lead_none m, low, refl, refl)

-- ---- the end of a block is no statement

closed : (ms : List Moment) → statements (closing ms) ≡ statements ms
closed ms = statements_on ms (Closed ∷ []) ∙ append-nil (statements ms)

closed_leads : (ms : List Moment) (m last : State) → Lead ms m last → Lead (closing ms) m last
closed_leads ms m last lead = lead_on ms (Closed ∷ []) m last last lead (lead_none last)

pub run_closing : (n k : ℕ) (m : State) (ms ns : List Moment) (b c : Done) → IsRun n k m ms ns b c →
    IsRun n k m (closing ms) (closing ns) b c
run_closing n k m ms ns (Goes u new) c is = (closed_leads ms m new is.0, is.1, ap closing is.2, is.3)
run_closing n k m ms ns (Stops f out) c is =
    let to = is.0 in ((to.0, closed_leads ms m to.0 to.1, to.2, to.3), ap closing is.1, is.2)
run_closing n k m ms ns (Reaches out) c is =
    let cut = is.4 in (
      is.0,
      closed_leads ms m is.0 is.1,
      is.2,
      is.3,
      (cut.0, closed ns ∙ cut.1 ∙ ap (λ xs. xs ++ cut.0) (sym (closed ms)), cut.2),
    )

pub run_either : (n k : ℕ) (m : State) (z : Bool) (ms ns xs ys : List Moment) (a b c d : Done) → IsRun n k m ms ns a b →
    IsRun n k m xs ys c d → IsRun n k m (if z then ms else xs) (if z then ns else ys) (if z then a else c) (if z then b else d)
run_either n k m true ms ns xs ys a b c d p q = p
run_either n k m false ms ns xs ys a b c d p q = q
