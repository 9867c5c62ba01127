-- What is found of blocks of inputs, one behind the other.
use Rattle.std.proofs.Common.{◌≡◌, ℕ, ◌+◌, min, max, Bool, true, false, Option, Some, None, ℤ, List, [], ◌∷◌, ◌++◌, refl, ap, sym, ◌∙◌}
use Rattle.std.proofs.Common.{arith}
use Rattle.std.proofs.Common.{◌||◌, if◌then◌else◌}
use Rattle.std.proofs.lemmas.List.{append_assoc, append-nil}
use Rattle.std.proofs.lemmas.List.Folds.{list_any-append}
use Rattle.std.proofs.lemmas.List.Sums.{fold_push}
use Rattle.std.proofs.lemmas.Bool.Decides.{nat_tests}
use Rattle.std.specs.List.{fold, list_any}
use Rattle.std.specs.Option.{option_or}
use Rattle.pram_check.specs.Checked.{Checked}
use Rattle.costs.specs.Cost.{time, work}
use Rattle.costs.specs.Steps.{run_steps}
use Rattle.write_rules.specs.declared.fault.Fault.{Fault}
use Rattle.write_rules.specs.Verdict.{Verdict, Ended, Faulted, GoesOn}
use Rattle.pram_model.proofs.Truths.{or_second}
use Rattle.scopes.specs.declared.findings.Span.{Span}
use Rattle.scopes.specs.Firsts.{Met, are_alike, noted}
use Rattle.scopes.specs.Found.{Found, added, found, nothing, skipped, widened, with_input, with_run}
use Rattle.scopes.specs.Runs.{verdict_on}
use Rattle.scopes.specs.Specified.{counts, fails}
use Rattle.scopes.specs.declared.specification.Specification.{Specification}
use Rattle.scopes.specs.Merged.{both_spans, merged}
use Rattle.scopes.proofs.Pushed.{input_added}

-- ---- spans

widened_both : (k : ℕ) (s t : Option Span) → both_spans s (widened k t) ≡ widened k (both_spans s t)
widened_both k None None = refl
widened_both k None (Some t) = refl
widened_both k (Some s) None = refl
widened_both k (Some s) (Some t) =
    let least : min s.least (min t.least k) ≡ min (min s.least t.least) k = omega arith in
    let greatest : max s.greatest (max t.greatest k) ≡ max (max s.greatest t.greatest) k = omega arith in
    λ i. Some (record { least = least i; greatest = greatest i })

none_behind : (s : Option Span) → both_spans s None ≡ s
none_behind None = refl
none_behind (Some s) = refl

-- ---- the first input

or_behind : (o p q : Option (List ℤ)) → option_or o (option_or p q) ≡ option_or (option_or o p) q
or_behind None p q = refl
or_behind (Some x) p q = refl

or_nothing : (o : Option (List ℤ)) → option_or o None ≡ o
or_nothing None = refl
or_nothing (Some x) = refl

-- ---- faults

abbrev is_there : List Met → Met → Bool
is_there ms m = list_any (λ (q : Met). are_alike q.fault m.fault) ms

alike_same : (e q m : Fault) → are_alike e q ≡ true → are_alike q m ≡ are_alike e m
alike_same e q m h = grind (arith, nat_tests)

-- one that is there stays there
there_noted : (ms : List Met) (q m : Met) → is_there ms m ≡ true → (b : Bool) → is_there ms q ≡ b → is_there (noted ms q) m ≡ true
there_noted ms q m h true e = ap (λ (b : Bool). is_there (if b then ms else ms ++ q ∷ []) m) e ∙ h
there_noted ms q m h false e =
    ap (λ (b : Bool). is_there (if b then ms else ms ++ q ∷ []) m) e
    ∙ list_any-append (λ (q : Met). are_alike q.fault m.fault) ms (q ∷ [])
    ∙ ap (λ (b : Bool). b || is_there (q ∷ []) m) h

there_folded : (ms qs : List Met) (m : Met) → is_there ms m ≡ true → is_there (fold noted ms qs) m ≡ true
there_folded ms [] m h = h
there_folded ms (q ∷ qs) m h = there_folded (noted ms q) qs m (there_noted ms q m h (is_there ms q) refl)

there_step : (e q m : Met) (ms : List Met) (b : Bool) → are_alike e.fault q.fault ≡ b → are_alike q.fault m.fault ≡ true →
    (is_there ms q ≡ true → is_there ms m ≡ true) → b || is_there ms q ≡ true → are_alike e.fault m.fault || is_there ms m ≡ true
there_step e q m ms true is alike more h =
    ap (λ (b : Bool). b || is_there ms m) (sym (alike_same e.fault q.fault m.fault is) ∙ alike)
there_step e q m ms false is alike more h =
    ap (λ (b : Bool). are_alike e.fault m.fault || b) (more h) ∙ or_second (are_alike e.fault m.fault) true refl

-- where one like q is there, so is one like m that is like q
there_alike : (ms : List Met) (q m : Met) → are_alike q.fault m.fault ≡ true → is_there ms q ≡ true → is_there ms m ≡ true
there_alike [] q m alike h = h
there_alike (e ∷ ms) q m alike h =
    there_step e q m ms (are_alike e.fault q.fault) refl alike (there_alike ms q m alike) h

noted_there : (ms : List Met) (q m : Met) → are_alike q.fault m.fault ≡ true → (b : Bool) → is_there ms q ≡ b →
    is_there (noted ms q) m ≡ true
noted_there ms q m alike true e = ap (λ (b : Bool). is_there (if b then ms else ms ++ q ∷ []) m) e ∙ there_alike ms q m alike e
noted_there ms q m alike false e =
    ap (λ (b : Bool). is_there (if b then ms else ms ++ q ∷ []) m) e
    ∙ list_any-append (λ (q : Met). are_alike q.fault m.fault) ms (q ∷ [])
    ∙ ap (λ (b : Bool). is_there ms m || (b || false)) alike ∙ or_second (is_there ms m) true refl

folded_step : (ms qs : List Met) (q m : Met) (b : Bool) → are_alike q.fault m.fault ≡ b →
    (is_there qs m ≡ true → is_there (fold noted (noted ms q) qs) m ≡ true) → b || is_there qs m ≡ true →
    is_there (fold noted (noted ms q) qs) m ≡ true
folded_step ms qs q m true is more h = there_folded (noted ms q) qs m (noted_there ms q m is (is_there ms q) refl)
folded_step ms qs q m false is more h = more h

folded_there : (ms qs : List Met) (m : Met) → is_there qs m ≡ true → is_there (fold noted ms qs) m ≡ true
folded_there ms [] m h = absurd (let P : false ≡ true → ⊥ = λ h. cc in P h)
folded_there ms (q ∷ qs) m h = folded_step ms qs q m (are_alike q.fault m.fault) refl (folded_there (noted ms q) qs m) h

noted_by : (ms qs : List Met) (m : Met) (b : Bool) → is_there qs m ≡ b → fold noted ms (noted qs m) ≡ noted (fold noted ms qs) m
noted_by ms qs m true e =
    ap (λ (b : Bool). fold noted ms (if b then qs else qs ++ m ∷ [])) e
    ∙ sym (ap (λ (b : Bool). if b then fold noted ms qs else fold noted ms qs ++ m ∷ []) (folded_there ms qs m e))
noted_by ms qs m false e =
    ap (λ (b : Bool). fold noted ms (if b then qs else qs ++ m ∷ [])) e ∙ fold_push noted ms qs m

-- ---- one input more behind both

merged_run : (f g : Found) (v : Verdict) (b : Bool) (t w : ℕ) (x : List ℤ) →
    merged f (added v t w b x g) ≡ added v t w b x (merged f g)
merged_run f g (Ended output memory) true t w x =
    let inputs_more : f.inputs + (g.inputs + 1) ≡ f.inputs + g.inputs + 1 = omega arith in
    let counting_more : f.counting + (g.counting + 1) ≡ f.counting + g.counting + 1 = omega arith in
    let ended_more : f.ended + (g.ended + 1) ≡ f.ended + g.ended + 1 = omega arith in
    let failed_more : f.failed + (g.failed + 1) ≡ f.failed + g.failed + 1 = omega arith in
    λ i. record {
      inputs = inputs_more i;
      counting = counting_more i;
      ended = ended_more i;
      faulted = f.faulted + g.faulted;
      go_on = f.go_on + g.go_on;
      failed = failed_more i;
      faults = fold noted f.faults g.faults;
      goes_on_at = option_or f.goes_on_at g.goes_on_at;
      fails_at = or_behind f.fails_at g.fails_at (Some x) i;
      time = widened_both t f.time g.time i;
      work = widened_both w f.work g.work i;
    }
merged_run f g (Ended output memory) false t w x =
    let inputs_more : f.inputs + (g.inputs + 1) ≡ f.inputs + g.inputs + 1 = omega arith in
    let counting_more : f.counting + (g.counting + 1) ≡ f.counting + g.counting + 1 = omega arith in
    let ended_more : f.ended + (g.ended + 1) ≡ f.ended + g.ended + 1 = omega arith in
    λ i. record {
      inputs = inputs_more i;
      counting = counting_more i;
      ended = ended_more i;
      faulted = f.faulted + g.faulted;
      go_on = f.go_on + g.go_on;
      failed = f.failed + g.failed;
      faults = fold noted f.faults g.faults;
      goes_on_at = option_or f.goes_on_at g.goes_on_at;
      fails_at = option_or f.fails_at g.fails_at;
      time = widened_both t f.time g.time i;
      work = widened_both w f.work g.work i;
    }
merged_run f g (Faulted fault output) b t w x =
    let inputs_more : f.inputs + (g.inputs + 1) ≡ f.inputs + g.inputs + 1 = omega arith in
    let counting_more : f.counting + (g.counting + 1) ≡ f.counting + g.counting + 1 = omega arith in
    let faulted_more : f.faulted + (g.faulted + 1) ≡ f.faulted + g.faulted + 1 = omega arith in
    let m : Met = record { fault = fault; input = x } in
    λ i. record {
      inputs = inputs_more i;
      counting = counting_more i;
      ended = f.ended + g.ended;
      faulted = faulted_more i;
      go_on = f.go_on + g.go_on;
      failed = f.failed + g.failed;
      faults = noted_by f.faults g.faults m (is_there g.faults m) refl i;
      goes_on_at = option_or f.goes_on_at g.goes_on_at;
      fails_at = option_or f.fails_at g.fails_at;
      time = both_spans f.time g.time;
      work = both_spans f.work g.work;
    }
merged_run f g (GoesOn output) b t w x =
    let inputs_more : f.inputs + (g.inputs + 1) ≡ f.inputs + g.inputs + 1 = omega arith in
    let counting_more : f.counting + (g.counting + 1) ≡ f.counting + g.counting + 1 = omega arith in
    let go_on_more : f.go_on + (g.go_on + 1) ≡ f.go_on + g.go_on + 1 = omega arith in
    λ i. record {
      inputs = inputs_more i;
      counting = counting_more i;
      ended = f.ended + g.ended;
      faulted = f.faulted + g.faulted;
      go_on = go_on_more i;
      failed = f.failed + g.failed;
      faults = fold noted f.faults g.faults;
      goes_on_at = or_behind f.goes_on_at g.goes_on_at (Some x) i;
      fails_at = option_or f.fails_at g.fails_at;
      time = both_spans f.time g.time;
      work = both_spans f.work g.work;
    }

merged_skipped : (f g : Found) → merged f (skipped g) ≡ skipped (merged f g)
merged_skipped f g =
    let all : f.inputs + (g.inputs + 1) ≡ f.inputs + g.inputs + 1 = omega arith in
    ap (λ (k : ℕ). record (merged f g) { inputs = k }) all

input_case : (s : Specification) (p : Checked) (n : ℕ) (x : List ℤ) (f g : Found) (b : Bool) →
    merged f (if b then with_run s.postcondition p n x g else skipped g)
    ≡ (if b then with_run s.postcondition p n x (merged f g) else skipped (merged f g))
input_case s p n x f g true =
    merged_run f g (verdict_on p n x) (fails s.postcondition p n x) (time (run_steps p x n)) (work (run_steps p x n)) x
input_case s p n x f g false = merged_skipped f g

merged_input : (s : Specification) (p : Checked) (n : ℕ) (x : List ℤ) (f g : Found) →
    merged f (with_input s p n x g) ≡ with_input s p n x (merged f g)
merged_input s p n x f g = input_case s p n x f g (counts s.precondition n x)

merged_none : (f : Found) → merged f nothing ≡ f
merged_none f =
    let zero : (k : ℕ) → k + 0 ≡ k = λ k. omega arith in
    λ i. record {
      inputs = zero f.inputs i;
      counting = zero f.counting i;
      ended = zero f.ended i;
      faulted = zero f.faulted i;
      go_on = zero f.go_on i;
      failed = zero f.failed i;
      faults = f.faults;
      goes_on_at = or_nothing f.goes_on_at i;
      fails_at = or_nothing f.fails_at i;
      time = none_behind f.time i;
      work = none_behind f.work i;
    }

-- ---- all inputs behind

one_behind : (s : Specification) (p : Checked) (n : ℕ) (xs zs : List (List ℤ)) (y : List ℤ) →
    found s p n (xs ++ zs) ≡ merged (found s p n xs) (found s p n zs) →
    found s p n (xs ++ (zs ++ y ∷ [])) ≡ merged (found s p n xs) (found s p n (zs ++ y ∷ []))
one_behind s p n xs zs y e =
    ap (found s p n) (sym (append_assoc xs zs (y ∷ [])))
    ∙ input_added s p n (xs ++ zs) y ∙ ap (with_input s p n y) e
    ∙ sym (merged_input s p n y (found s p n xs) (found s p n zs))
    ∙ sym (ap (merged (found s p n xs)) (input_added s p n zs y))

all_behind : (s : Specification) (p : Checked) (n : ℕ) (xs zs ys : List (List ℤ)) →
    found s p n (xs ++ zs) ≡ merged (found s p n xs) (found s p n zs) →
    found s p n (xs ++ (zs ++ ys)) ≡ merged (found s p n xs) (found s p n (zs ++ ys))
all_behind s p n xs zs [] e =
    ap (λ (qs : List (List ℤ)). found s p n (xs ++ qs)) (append-nil zs) ∙ e
    ∙ sym (ap (λ (qs : List (List ℤ)). merged (found s p n xs) (found s p n qs)) (append-nil zs))
all_behind s p n xs zs (y ∷ ys) e =
    let whole : (zs ++ y ∷ []) ++ ys ≡ zs ++ y ∷ ys = append_assoc zs (y ∷ []) ys in
    ap (λ (qs : List (List ℤ)). found s p n (xs ++ qs)) (sym whole)
    ∙ all_behind s p n xs (zs ++ y ∷ []) ys (one_behind s p n xs zs y e)
    ∙ ap (λ (qs : List (List ℤ)). merged (found s p n xs) (found s p n qs)) whole

-- what is found of inputs and of others behind them
pub blocks_are_merged : (s : Specification) (p : Checked) (n : ℕ) (xs ys : List (List ℤ)) →
    found s p n (xs ++ ys) ≡ merged (found s p n xs) (found s p n ys)
blocks_are_merged s p n xs ys =
    all_behind s p n xs [] ys (ap (found s p n) (append-nil xs) ∙ sym (merged_none (found s p n xs)))
