-- What is found of one run more.
use Rattle.std.proofs.Common.{◌≡◌, ℕ, min, max, Bool, true, false, Option, Some, None, ℤ, List, [], ◌∷◌, ◌++◌, map, length, refl, ap, ◌∙◌}
use Rattle.std.proofs.Common.{cond, ◌+◌, if◌then◌else◌}
use Rattle.std.proofs.lemmas.List.{append-nil, length_push, map_push}
use Rattle.std.proofs.lemmas.List.Elements.{filter-append, filter_map-append}
use Rattle.std.proofs.lemmas.List.Sums.{fold_push}
use Rattle.std.specs.List.{cons_option, filter, filter_map}
use Rattle.std.specs.Option.{option_map, option_or}
use Rattle.std.specs.Prelude.{slice_get}
use Rattle.pram_check.specs.Checked.{Checked}
use Rattle.costs.specs.Cost.{time, work}
use Rattle.costs.specs.Steps.{run_steps}
use Rattle.write_rules.specs.declared.fault.Fault.{Fault}
use Rattle.write_rules.specs.Verdict.{Verdict, Ended, Faulted, GoesOn}
use Rattle.scopes.specs.Firsts.{Met, firsts}
use Rattle.scopes.specs.Found.{added, ending, found, found_of_counting, going_on, met, met_on, skipped, span_of, widened, with_input}
use Rattle.scopes.specs.Found.{with_run}
use Rattle.scopes.specs.Runs.{fault_of, is_end, is_going_on, verdict_on}
use Rattle.scopes.specs.Specified.{counting, counts, failing, fails, is_failing}
use Rattle.scopes.specs.declared.specification.Specification.{Specification}
use Rattle.scopes.proofs.FirstFaults.{one_more}

kept : (t : List ℤ → Bool) (xs : List (List ℤ)) (x : List ℤ) → t x ≡ true → filter t (xs ++ x ∷ []) ≡ filter t xs ++ x ∷ []
kept t xs x h = filter-append t xs (x ∷ []) ∙ ap (λ (b : Bool). filter t xs ++ cond b (x ∷ []) []) h

left : (t : List ℤ → Bool) (xs : List (List ℤ)) (x : List ℤ) → t x ≡ false → filter t (xs ++ x ∷ []) ≡ filter t xs
left t xs x h = filter-append t xs (x ∷ []) ∙ ap (λ (b : Bool). filter t xs ++ cond b (x ∷ []) []) h ∙ append-nil (filter t xs)

met_kept : (f : List ℤ → Option Met) (xs : List (List ℤ)) (x : List ℤ) (m : Met) → f x ≡ Some m →
    filter_map f (xs ++ x ∷ []) ≡ filter_map f xs ++ m ∷ []
met_kept f xs x m h = filter_map-append f xs (x ∷ []) ∙ ap (λ (o : Option Met). filter_map f xs ++ cons_option o []) h

met_left : (f : List ℤ → Option Met) (xs : List (List ℤ)) (x : List ℤ) → f x ≡ None → filter_map f (xs ++ x ∷ []) ≡ filter_map f xs
met_left f xs x h =
    filter_map-append f xs (x ∷ []) ∙ ap (λ (o : Option Met). filter_map f xs ++ cons_option o []) h ∙ append-nil (filter_map f xs)

spanned : (ks : List ℕ) (k : ℕ) → span_of (ks ++ k ∷ []) ≡ widened k (span_of ks)
spanned [] k = refl
spanned (j ∷ ks) k =
    λ i. Some (record { least = (fold_push min j ks k) i; greatest = (fold_push max j ks k) i })

pub first_push : (ys : List (List ℤ)) (x : List ℤ) → slice_get (ys ++ x ∷ []) 0 ≡ option_or (slice_get ys 0) (Some x)
first_push [] x = refl
first_push (y ∷ ys) x = refl

-- the numbers of those that end, with one more
numbered : (g : List ℤ → ℕ) (es fs : List (List ℤ)) (x : List ℤ) → fs ≡ es ++ x ∷ [] →
    span_of (map g fs) ≡ widened (g x) (span_of (map g es))
numbered g es fs x h =
    ap (λ (ys : List (List ℤ)). span_of (map g ys)) h ∙ ap span_of (map_push g es x) ∙ spanned (map g es) (g x)

unchanged : (g : List ℤ → ℕ) (es fs : List (List ℤ)) → fs ≡ es → span_of (map g fs) ≡ span_of (map g es)
unchanged g es fs h = ap (λ (ys : List (List ℤ)). span_of (map g ys)) h

-- the first of those of a kind, and how many there are, where one more is tried
failed_more : (fs gs : List (List ℤ)) (x : List ℤ) → gs ≡ fs ++ x ∷ [] → length gs ≡ length fs + 1
failed_more fs gs x h = ap (λ (ys : List (List ℤ)). length ys) h ∙ length_push fs x

first_more : (fs gs : List (List ℤ)) (x : List ℤ) → gs ≡ fs ++ x ∷ [] → slice_get gs 0 ≡ option_or (slice_get fs 0) (Some x)
first_more fs gs x h = ap (λ (ys : List (List ℤ)). slice_get ys 0) h ∙ first_push fs x

at_fault : (q : Option Checked) (p : Checked) (n : ℕ) (x : List ℤ) (fault : Fault) (output : List ℤ) →
    is_failing q p n x (Faulted fault output) ≡ false
at_fault None p n x fault output = refl
at_fault (Some q) p n x fault output = refl

at_bound : (q : Option Checked) (p : Checked) (n : ℕ) (x : List ℤ) (output : List ℤ) → is_failing q p n x (GoesOn output) ≡ false
at_bound None p n x output = refl
at_bound (Some q) p n x output = refl

-- a run on an input more that counts
pub run_added : (q : Option Checked) (p : Checked) (n m k : ℕ) (xs : List (List ℤ)) (x : List ℤ) (v : Verdict) (b : Bool) →
    verdict_on p n x ≡ v → fails q p n x ≡ b → k ≡ m + 1 →
    found_of_counting q p n k (xs ++ x ∷ [])
    ≡ added v (time (run_steps p x n)) (work (run_steps p x n)) b x (found_of_counting q p n m xs)
run_added q p n m k xs x (Ended output memory) true e f add =
    let ends = kept (λ (y : List ℤ). is_end (verdict_on p n y)) xs x (ap is_end e) in
    let goes = left (λ (y : List ℤ). is_going_on (verdict_on p n y)) xs x (ap is_going_on e) in
    let wrong = kept (fails q p n) xs x f in
    let meets = met_left (met_on p n) xs x
    (ap (λ (w : Verdict). option_map (λ (f : Fault). record { fault = f; input = x }) (fault_of w)) e) in
    λ i. record {
      inputs = add i;
      counting = (length_push xs x) i;
      ended = (failed_more (ending p n xs) (ending p n (xs ++ x ∷ [])) x ends) i;
      faulted = length (meets i);
      go_on = length (goes i);
      failed = (failed_more (failing q p n xs) (failing q p n (xs ++ x ∷ [])) x wrong) i;
      faults = firsts (meets i);
      goes_on_at = slice_get (goes i) 0;
      fails_at = (first_more (failing q p n xs) (failing q p n (xs ++ x ∷ [])) x wrong) i;
      time = (numbered (λ (y : List ℤ). time (run_steps p y n)) (ending p n xs) (ending p n (xs ++ x ∷ [])) x ends) i;
      work = (numbered (λ (y : List ℤ). work (run_steps p y n)) (ending p n xs) (ending p n (xs ++ x ∷ [])) x ends) i;
    }
run_added q p n m k xs x (Ended output memory) false e f add =
    let ends = kept (λ (y : List ℤ). is_end (verdict_on p n y)) xs x (ap is_end e) in
    let goes = left (λ (y : List ℤ). is_going_on (verdict_on p n y)) xs x (ap is_going_on e) in
    let wrong = left (fails q p n) xs x f in
    let meets = met_left (met_on p n) xs x
    (ap (λ (w : Verdict). option_map (λ (f : Fault). record { fault = f; input = x }) (fault_of w)) e) in
    λ i. record {
      inputs = add i;
      counting = (length_push xs x) i;
      ended = (failed_more (ending p n xs) (ending p n (xs ++ x ∷ [])) x ends) i;
      faulted = length (meets i);
      go_on = length (goes i);
      failed = length (wrong i);
      faults = firsts (meets i);
      goes_on_at = slice_get (goes i) 0;
      fails_at = slice_get (wrong i) 0;
      time = (numbered (λ (y : List ℤ). time (run_steps p y n)) (ending p n xs) (ending p n (xs ++ x ∷ [])) x ends) i;
      work = (numbered (λ (y : List ℤ). work (run_steps p y n)) (ending p n xs) (ending p n (xs ++ x ∷ [])) x ends) i;
    }
run_added q p n m k xs x (Faulted fault output) b e f add =
    let ends = left (λ (y : List ℤ). is_end (verdict_on p n y)) xs x (ap is_end e) in
    let goes = left (λ (y : List ℤ). is_going_on (verdict_on p n y)) xs x (ap is_going_on e) in
    let wrong = left (fails q p n) xs x (ap (is_failing q p n x) e ∙ at_fault q p n x fault output) in
    let met_there : Met = record { fault = fault; input = x } in
    let meets = met_kept (met_on p n) xs x met_there
    (ap (λ (w : Verdict). option_map (λ (f : Fault). record { fault = f; input = x }) (fault_of w)) e) in
    λ i. record {
      inputs = add i;
      counting = (length_push xs x) i;
      ended = length (ends i);
      faulted = (ap (λ (ys : List Met). length ys) meets ∙ length_push (met p n xs) met_there) i;
      go_on = length (goes i);
      failed = length (wrong i);
      faults = (ap firsts meets ∙ one_more (met p n xs) met_there) i;
      goes_on_at = slice_get (goes i) 0;
      fails_at = slice_get (wrong i) 0;
      time = (unchanged (λ (y : List ℤ). time (run_steps p y n)) (ending p n xs) (ending p n (xs ++ x ∷ [])) ends) i;
      work = (unchanged (λ (y : List ℤ). work (run_steps p y n)) (ending p n xs) (ending p n (xs ++ x ∷ [])) ends) i;
    }
run_added q p n m k xs x (GoesOn output) b e f add =
    let ends = left (λ (y : List ℤ). is_end (verdict_on p n y)) xs x (ap is_end e) in
    let goes = kept (λ (y : List ℤ). is_going_on (verdict_on p n y)) xs x (ap is_going_on e) in
    let wrong = left (fails q p n) xs x (ap (is_failing q p n x) e ∙ at_bound q p n x output) in
    let meets = met_left (met_on p n) xs x
    (ap (λ (w : Verdict). option_map (λ (f : Fault). record { fault = f; input = x }) (fault_of w)) e) in
    λ i. record {
      inputs = add i;
      counting = (length_push xs x) i;
      ended = length (ends i);
      faulted = length (meets i);
      go_on = (failed_more (going_on p n xs) (going_on p n (xs ++ x ∷ [])) x goes) i;
      failed = length (wrong i);
      faults = firsts (meets i);
      goes_on_at = (first_more (going_on p n xs) (going_on p n (xs ++ x ∷ [])) x goes) i;
      fails_at = slice_get (wrong i) 0;
      time = (unchanged (λ (y : List ℤ). time (run_steps p y n)) (ending p n xs) (ending p n (xs ++ x ∷ [])) ends) i;
      work = (unchanged (λ (y : List ℤ). work (run_steps p y n)) (ending p n xs) (ending p n (xs ++ x ∷ [])) ends) i;
    }

-- ---- one input more

pub counts_too : (q : Option Checked) (n : ℕ) (xs : List (List ℤ)) (x : List ℤ) → counts q n x ≡ true →
    counting q n (xs ++ x ∷ []) ≡ counting q n xs ++ x ∷ []
counts_too q n xs x e = kept (counts q n) xs x e

pub counts_not : (q : Option Checked) (n : ℕ) (xs : List (List ℤ)) (x : List ℤ) → counts q n x ≡ false →
    counting q n (xs ++ x ∷ []) ≡ counting q n xs
counts_not q n xs x e = left (counts q n) xs x e

input_step : (s : Specification) (p : Checked) (n : ℕ) (xs : List (List ℤ)) (x : List ℤ) (b : Bool) → counts s.precondition n x ≡ b →
    found s p n (xs ++ x ∷ [])
    ≡ (if b then with_run s.postcondition p n x (found s p n xs) else skipped (found s p n xs))
input_step s p n xs x true e =
    let ys = counting s.precondition n xs in
    ap (found_of_counting s.postcondition p n (length (xs ++ x ∷ []))) (counts_too s.precondition n xs x e)
    ∙ run_added s.postcondition p n (length xs) (length (xs ++ x ∷ [])) ys x (verdict_on p n x) (fails s.postcondition p n x) refl refl
    (length_push xs x)
input_step s p n xs x false e =
    ap (found_of_counting s.postcondition p n (length (xs ++ x ∷ []))) (counts_not s.precondition n xs x e)
    ∙ ap (λ (k : ℕ). found_of_counting s.postcondition p n k (counting s.precondition n xs)) (length_push xs x)

-- what is found of inputs and one more
pub input_added : (s : Specification) (p : Checked) (n : ℕ) (xs : List (List ℤ)) (x : List ℤ) →
    found s p n (xs ++ x ∷ []) ≡ with_input s p n x (found s p n xs)
input_added s p n xs x = input_step s p n xs x (counts s.precondition n x) refl
