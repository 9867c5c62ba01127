-- What findings say of the runs.
use Rattle.std.proofs.Common.{◌≡◌, ℕ, zero, suc, ◌+◌, Bool, true, false, not, cond, ◌||◌, Option, Some, None, ℤ, List, [], ◌∷◌, ◌++◌}
use Rattle.std.proofs.Common.{length, refl, ap, sym, subst, ◌∙◌, arith}
use Rattle.std.proofs.lemmas.Bool.{not-true}
use Rattle.std.proofs.lemmas.Bool.Decides.{nat_tests}
use Rattle.std.proofs.lemmas.List.Elements.{All-cons, All-filter, All-head, All-nil, All-tail, All-weaker, filter-append}
use Rattle.std.proofs.lemmas.List.Elements.{filter_map-append, filter_passes}
use Rattle.std.proofs.lemmas.List.Kept.{AllPairs-cons, AllPairs-filter}
use Rattle.std.specs.List.{All, AllPairs, Contains, cons_option, filter, list_any}
use Rattle.std.specs.Option.{option_map}
use Rattle.std.specs.Prelude.{◌↔◌, slice_get}
use Rattle.pram_check.specs.Checked.{Checked}
use Rattle.write_rules.specs.declared.fault.Fault.{Fault}
use Rattle.write_rules.specs.Verdict.{Verdict, Ended, Faulted, GoesOn}
use Rattle.scopes.specs.Firsts.{Met, are_alike, firsts}
use Rattle.scopes.specs.Found.{ending, found, going_on, met, met_on}
use Rattle.scopes.specs.Runs.{fault_of, is_end, is_going_on, verdict_on}
use Rattle.scopes.specs.Told.{IsFirst}
use Rattle.scopes.specs.Specified.{counting, counts}
use Rattle.scopes.specs.declared.specification.Specification.{Specification}
use Rattle.scopes.proofs.FirstFaults.{any_kept}
use Rattle.scopes.proofs.Lists.{behind, in_filter}

-- ---- how many

count_step : (p : Checked) (n : ℕ) (x : List ℤ) (xs : List (List ℤ)) (v : Verdict) → verdict_on p n x ≡ v →
    length (ending p n xs) + (length (met p n xs) + length (going_on p n xs)) ≡ length xs →
    length (cond (is_end v) (x ∷ ending p n xs) (ending p n xs))
    + (length (cons_option (option_map (λ (f : Fault). record { fault = f; input = x }) (fault_of v)) (met p n xs))
    + length (cond (is_going_on v) (x ∷ going_on p n xs) (going_on p n xs))) ≡ suc (length xs)
count_step p n x xs (Ended output memory) e h = omega arith
count_step p n x xs (Faulted fault output) e h = omega arith
count_step p n x xs (GoesOn output) e h = omega arith

pub counted : (p : Checked) (n : ℕ) (inputs : List (List ℤ)) →
    length (ending p n inputs) + (length (met p n inputs) + length (going_on p n inputs)) ≡ length inputs
counted p n [] = refl
counted p n (x ∷ xs) = count_step p n x xs (verdict_on p n x) refl (counted p n xs)

-- ---- which faults

met_step : (p : Checked) (n : ℕ) (x : List ℤ) (xs : List (List ℤ)) (v : Verdict) → verdict_on p n x ≡ v →
    All (λ (m : Met). Contains (x ∷ xs) m.input × (fault_of (verdict_on p n m.input) ≡ Some m.fault)) (met p n xs) →
    All (λ (m : Met). Contains (x ∷ xs) m.input × (fault_of (verdict_on p n m.input) ≡ Some m.fault))
    (cons_option (option_map (λ (f : Fault). record { fault = f; input = x }) (fault_of v)) (met p n xs))
met_step p n x xs (Ended output memory) e h = h
met_step p n x xs (Faulted fault output) e h =
    All-cons (λ (m : Met). Contains (x ∷ xs) m.input × (fault_of (verdict_on p n m.input) ≡ Some m.fault))
    (record { fault = fault; input = x }) (met p n xs) ((0, omega arith, refl), ap fault_of e) h
met_step p n x xs (GoesOn output) e h = h

met_occur : (p : Checked) (n : ℕ) (inputs : List (List ℤ)) →
    All (λ (m : Met). Contains inputs m.input × (fault_of (verdict_on p n m.input) ≡ Some m.fault)) (met p n inputs)
met_occur p n [] = All-nil (λ (m : Met). Contains {X = List ℤ} [] m.input × (fault_of (verdict_on p n m.input) ≡ Some m.fault))
met_occur p n (x ∷ xs) =
    met_step p n x xs (verdict_on p n x) refl
    (All-weaker (λ (m : Met). Contains xs m.input × (fault_of (verdict_on p n m.input) ≡ Some m.fault))
    (λ (m : Met). Contains (x ∷ xs) m.input × (fault_of (verdict_on p n m.input) ≡ Some m.fault))
    (λ m h. (behind x m.input xs h.0, h.1)) (met p n xs) (met_occur p n xs))

firsts_all : (P : Met → Type 0) (ms : List Met) → All P ms → All P (firsts ms)
firsts_all P [] h = h
firsts_all P (m ∷ ms) h =
    let t : Met → Bool = λ q. not (are_alike m.fault q.fault) in
    All-cons P m (filter t (firsts ms)) (All-head P m ms h) (All-filter t P (firsts ms) (firsts_all P ms (All-tail P m ms h)))

pub occur : (s : Specification) (p : Checked) (n : ℕ) (inputs : List (List ℤ)) →
    All (λ (m : Met). Contains (counting s.precondition n inputs) m.input × (fault_of (verdict_on p n m.input) ≡ Some m.fault))
    (found s p n inputs).faults
occur s p n inputs =
    let xs = counting s.precondition n inputs in
    firsts_all (λ (m : Met). Contains xs m.input × (fault_of (verdict_on p n m.input) ≡ Some m.fault)) (met p n xs) (met_occur p n xs)

-- ---- no two alike

firsts_once : (ms : List Met) → AllPairs (λ (a b : Met). are_alike a.fault b.fault ≡ false) (firsts ms)
firsts_once [] = λ i j d lt le. absurd (omega arith)
firsts_once (m ∷ ms) =
    let R : Met → Met → Type 0 = λ a b. are_alike a.fault b.fault ≡ false in
    let t : Met → Bool = λ q. not (are_alike m.fault q.fault) in
    AllPairs-cons R m (filter t (firsts ms))
    (All-weaker (λ (q : Met). t q ≡ true) (R m) (λ q h. not-true (are_alike m.fault q.fault) h) (filter t (firsts ms))
    (filter_passes t (firsts ms)))
    (AllPairs-filter R t (firsts ms) (firsts_once ms))

pub told_once : (s : Specification) (p : Checked) (n : ℕ) (inputs : List (List ℤ)) →
    AllPairs (λ (a b : Met). are_alike a.fault b.fault ≡ false) (found s p n inputs).faults
told_once s p n inputs = firsts_once (met p n (counting s.precondition n inputs))

-- ---- one for each that is met

pub alike_itself : (f : Fault) → are_alike f f ≡ true
alike_itself f = grind (arith, nat_tests)

cover_step : (a m : Met) (ms : List Met) (b : Bool) → are_alike a.fault m.fault ≡ b →
    list_any (λ (q : Met). are_alike q.fault m.fault) (firsts ms) ≡ true →
    list_any (λ (q : Met). are_alike q.fault m.fault) (firsts (a ∷ ms)) ≡ true
cover_step a m ms true e h =
    ap (λ (t : Bool). t || list_any (λ (q : Met). are_alike q.fault m.fault)
    (filter (λ (q : Met). not (are_alike a.fault q.fault)) (firsts ms))) e
cover_step a m ms false e h =
    ap (λ (t : Bool). t || list_any (λ (q : Met). are_alike q.fault m.fault)
    (filter (λ (q : Met). not (are_alike a.fault q.fault)) (firsts ms))) e
    ∙ any_kept a.fault m.fault e (firsts ms) ∙ h

covered : (ms : List Met) (m : Met) → Contains ms m → list_any (λ (q : Met). are_alike q.fault m.fault) (firsts ms) ≡ true
covered [] m (k, lt, e) = absurd (omega arith)
covered (a ∷ ms) m (zero, lt, e) =
    ap (λ (t : Bool). t || list_any (λ (q : Met). are_alike q.fault m.fault)
    (filter (λ (q : Met). not (are_alike a.fault q.fault)) (firsts ms)))
    (subst (λ (q : Met). are_alike a.fault q.fault ≡ true) e (alike_itself a.fault))
covered (a ∷ ms) m (suc k, lt, e) = cover_step a m ms (are_alike a.fault m.fault) refl (covered ms m (k, omega arith, e))

met_at : (p : Checked) (n : ℕ) (x : List ℤ) (f : Fault) → fault_of (verdict_on p n x) ≡ Some f →
    met_on p n x ≡ Some (record { fault = f; input = x })
met_at p n x f h = ap (option_map (λ (g : Fault). record { fault = g; input = x })) h

cons_behind : (o : Option Met) (m : Met) (ms : List Met) → Contains ms m → Contains (cons_option o ms) m
cons_behind None m ms h = h
cons_behind (Some a) m ms h = behind a m ms h

is_met : (p : Checked) (n : ℕ) (inputs : List (List ℤ)) (input : List ℤ) (m : Met) → Contains inputs input → met_on p n input ≡ Some m →
    Contains (met p n inputs) m
is_met p n [] input m (k, lt, e) h = absurd (omega arith)
is_met p n (x ∷ xs) input m (zero, lt, e) h =
    subst (λ (o : Option Met). Contains (cons_option o (met p n xs)) m) (sym (ap (met_on p n) e ∙ h)) (0, omega arith, refl)
is_met p n (x ∷ xs) input m (suc k, lt, e) h = cons_behind (met_on p n x) m (met p n xs) (is_met p n xs input m (k, omega arith, e) h)

pub all_told : (s : Specification) (p : Checked) (n : ℕ) (inputs : List (List ℤ)) (input : List ℤ) (f : Fault) →
    Contains (counting s.precondition n inputs) input → fault_of (verdict_on p n input) ≡ Some f →
    list_any (λ (m : Met). are_alike m.fault f) (found s p n inputs).faults ≡ true
all_told s p n inputs input f in' h =
    let m : Met = record { fault = f; input = input } in
    let xs = counting s.precondition n inputs in
    covered (met p n xs) m (is_met p n xs input m in' (met_at p n input f h))

-- ---- the first one

first_kept : (ms : List Met) (m : Met) (rest : List Met) → All (λ (a : Met). are_alike a.fault m.fault ≡ false) ms →
    Contains (firsts (ms ++ m ∷ rest)) m
first_kept [] m rest h = (0, omega arith, refl)
first_kept (a ∷ ms) m rest h =
    let P : Met → Type 0 = λ q. are_alike q.fault m.fault ≡ false in
    let t : Met → Bool = λ q. not (are_alike a.fault q.fault) in
    behind a m (filter t (firsts (ms ++ m ∷ rest)))
    (in_filter t (firsts (ms ++ m ∷ rest)) m (first_kept ms m rest (All-tail P a ms h)) (ap not (All-head P a ms h)))

unlike_step : (p : Checked) (n : ℕ) (f : Fault) (x : List ℤ) (ms : List Met) (v : Verdict) → verdict_on p n x ≡ v →
    ((g : Fault) → fault_of (verdict_on p n x) ≡ Some g → are_alike g f ≡ false) → All (λ (a : Met). are_alike a.fault f ≡ false) ms →
    All (λ (a : Met). are_alike a.fault f ≡ false)
    (cons_option (option_map (λ (g : Fault). record { fault = g; input = x }) (fault_of v)) ms)
unlike_step p n f x ms (Ended output memory) e h all = all
unlike_step p n f x ms (Faulted fault output) e h all =
    All-cons (λ (a : Met). are_alike a.fault f ≡ false) (record { fault = fault; input = x }) ms (h fault (ap fault_of e)) all
unlike_step p n f x ms (GoesOn output) e h all = all

unlike_all : (p : Checked) (n : ℕ) (f : Fault) (xs : List (List ℤ)) →
    All (λ (x : List ℤ). (g : Fault) → fault_of (verdict_on p n x) ≡ Some g → are_alike g f ≡ false) xs →
    All (λ (a : Met). are_alike a.fault f ≡ false) (met p n xs)
unlike_all p n f [] h = All-nil (λ (a : Met). are_alike a.fault f ≡ false)
unlike_all p n f (x ∷ xs) h =
    let P : List ℤ → Type 0 = λ y. (g : Fault) → fault_of (verdict_on p n y) ≡ Some g → are_alike g f ≡ false in
    unlike_step p n f x (met p n xs) (verdict_on p n x) refl (All-head P x xs h) (unlike_all p n f xs (All-tail P x xs h))

first_of_these : (p : Checked) (n : ℕ) (before after : List (List ℤ)) (input : List ℤ) (f : Fault) →
    fault_of (verdict_on p n input) ≡ Some f →
    All (λ (x : List ℤ). (g : Fault) → fault_of (verdict_on p n x) ≡ Some g → are_alike g f ≡ false) before →
    Contains (firsts (met p n (before ++ input ∷ after))) (record { fault = f; input = input })
first_of_these p n before after input f h none =
    let m : Met = record { fault = f; input = input } in
    let split : met p n (before ++ input ∷ after) ≡ met p n before ++ m ∷ met p n after =
    filter_map-append (met_on p n) before (input ∷ after)
    ∙ ap (λ (o : Option Met). met p n before ++ cons_option o (met p n after)) (met_at p n input f h) in
    subst (λ (ms : List Met). Contains (firsts ms) m) (sym split)
    (first_kept (met p n before) m (met p n after) (unlike_all p n f before none))

-- what all that count have, all that are left in have
kept_step : (t : List ℤ → Bool) (P : List ℤ → Type 0) (x : List ℤ) (xs : List (List ℤ)) (b : Bool) → t x ≡ b → (t x ≡ true → P x) →
    All P (filter t xs) → All P (cond b (x ∷ filter t xs) (filter t xs))
kept_step t P x xs true is here rest = All-cons P x (filter t xs) (here is) rest
kept_step t P x xs false is here rest = rest

all_kept : (t : List ℤ → Bool) (P : List ℤ → Type 0) (xs : List (List ℤ)) → All (λ (x : List ℤ). t x ≡ true → P x) xs →
    All P (filter t xs)
all_kept t P [] h = All-nil P
all_kept t P (x ∷ xs) h =
    let Q : List ℤ → Type 0 = λ y. t y ≡ true → P y in
    kept_step t P x xs (t x) refl (All-head Q x xs h) (all_kept t P xs (All-tail Q x xs h))

pub first_told : (s : Specification) (p : Checked) (n : ℕ) (before after : List (List ℤ)) (input : List ℤ) (f : Fault) →
    counts s.precondition n input ≡ true → fault_of (verdict_on p n input) ≡ Some f →
    All (λ (x : List ℤ). counts s.precondition n x ≡ true → (g : Fault) → fault_of (verdict_on p n x) ≡ Some g →
    are_alike g f ≡ false) before →
    Contains (found s p n (before ++ input ∷ after)).faults (record { fault = f; input = input })
first_told s p n before after input f here h none =
    let t = counts s.precondition n in
    let m : Met = record { fault = f; input = input } in
    let P : List ℤ → Type 0 = λ x. (g : Fault) → fault_of (verdict_on p n x) ≡ Some g → are_alike g f ≡ false in
    let split : filter t (before ++ input ∷ after) ≡ filter t before ++ input ∷ filter t after =
    filter-append t before (input ∷ after)
    ∙ ap (λ (b : Bool). filter t before ++ cond b (input ∷ filter t after) (filter t after)) here in
    subst (λ (xs : List (List ℤ)). Contains (firsts (met p n xs)) m) (sym split)
    (first_of_these p n (filter t before) (filter t after) input f h (all_kept t P before none))

-- ---- the first input of a kind

first_step : (t : List ℤ → Bool) (x : List ℤ) (xs : List (List ℤ)) (input : List ℤ) (b : Bool) → t x ≡ b →
    (slice_get (filter t xs) 0 ≡ Some input → IsFirst t xs input) →
    slice_get (cond b (x ∷ filter t xs) (filter t xs)) 0 ≡ Some input → IsFirst t (x ∷ xs) input
first_step t x xs input true e further h =
    let same : x ≡ input = cc h in
    record {
      before = [];
      behind = xs;
      all = ap (λ (y : List ℤ). y ∷ xs) same;
      over = All-nil (λ (y : List ℤ). t y ≡ false);
      passes = ap t (sym same) ∙ e;
    }
first_step t x xs input false e further h =
    let f = further h in
    record {
      before = x ∷ f.before;
      behind = f.behind;
      all = ap (λ (ys : List (List ℤ)). x ∷ ys) f.all;
      over = All-cons (λ (y : List ℤ). t y ≡ false) x f.before e f.over;
      passes = f.passes;
    }

pub is_first : (t : List ℤ → Bool) (inputs : List (List ℤ)) (input : List ℤ) → slice_get (filter t inputs) 0 ≡ Some input →
    IsFirst t inputs input
is_first t [] input h = absurd (cc h)
is_first t (x ∷ xs) input h = first_step t x xs input (t x) refl (is_first t xs input) h

pub none_there : (ys : List (List ℤ)) → (slice_get ys 0 ≡ None) ↔ (length ys ≡ 0)
none_there [] = (λ h. refl, λ h. refl)
none_there (y ∷ ys) = (λ h. absurd (cc h), λ h. absurd (omega (arith, h)))
