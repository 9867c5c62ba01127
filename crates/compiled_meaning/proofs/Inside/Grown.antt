-- Statements inside pardo only add to the number of those that have begun.
use Rattle.std.proofs.Common.{ℕ, zero, suc, ◌+◌, ◌≤◌, List, [], ◌∷◌, Bool, true, false, Result, Ok, Err, arith}
use Rattle.std.specs.Prelude.{if◌then◌else◌, nat_lt}
use Rattle.write_rules.specs.declared.fault.Fault.{Fault}
use Rattle.flat_stretches.specs.Along.{Run}
use Rattle.exchange_bound.specs.Events.{Event}
use Rattle.compiled_meaning.specs.Follows.{Follows}
use Rattle.pram_names.specs.declared.body.Step as step
use Rattle.pram_names.specs.declared.body.Step.{Step, Row_of-Step, end_of-Step, more_of-Step}
use Rattle.pram_check.specs.Checked.{Checked}
use Rattle.pram_meaning.specs.Attempt.{Attempt, Effect, attempt_step, attempt_value}
use Rattle.pram_meaning.specs.Bounded.{Behaviour, Done, Goes, Stops, Reaches, then_do, counted, valued, attempted_on, tested_on}
use Rattle.pram_meaning.specs.Bounded.{unless_none}
use Rattle.pram_meaning.specs.Bounded.{turns_on, perform_on, perform_row_on, perform_list_on}
use Rattle.pram_meaning.specs.Conflict.{Part}
use Rattle.pram_meaning.specs.Store.{State, View}
use Rattle.pram_meaning.specs.Together.{assigned_by, parts, those, together}
use Rattle.pram_names.specs.declared.body.StepTarget.{StepTarget}
use Rattle.pram_names.specs.declared.body.StepTarget.TheVariants as inner

-- where it goes on, at least so many have begun
abbrev pub Grows : {A : Type 0} → ℕ → Behaviour A → Type 0
Grows n (Goes a m) = n ≤ m.count
Grows n (Stops fault out) = Unit {0}
Grows n (Reaches out) = Unit {0}

pub grows_then : {A B : Type 0} (n : ℕ) (d : Behaviour A) (k : A → State → Behaviour B) → Grows n d →
    ((a : A) (m : State) → n ≤ m.count → Grows n (k a m)) → Grows n (then_do d k)
grows_then n (Goes a m) k h g = g a m h
grows_then n (Stops fault out) k h g = tt
grows_then n (Reaches out) k h g = tt

pub counted_grows : (n k : ℕ) (m : State) → k ≤ m.count → Grows k (counted n m)
counted_grows n k m l = go (nat_lt m.count n)
  where
    go : (b : Bool) → Grows k (let d : Done = if b then Goes tt (record m { count = m.count + 1 }) else Reaches m.output in d)
    go true = omega (arith, l)
    go false = tt

pub valued_grows : {A : Type 0} (n : ℕ) (r : Result A Fault) (m : State) → n ≤ m.count → Grows n (valued r m)
valued_grows n (Ok a) m l = l
valued_grows n (Err k) m l = tt

-- where it goes on, also that so many have begun
pub follows_grown : (t : Run) (before : ℕ) (held : Bool) (es : List Event) (P : State → Type 0) (n : ℕ) (d : Done) →
    Follows t before held es P d →
    Grows n d → Follows t before held es (λ m. P m × (n ≤ m.count)) d
follows_grown t before held es P n (Goes u m) h g = (h, g)
follows_grown t before held es P n (Stops fault out) h g = h
follows_grown t before held es P n (Reaches out) h g = h

module _ (p : Checked) (n : ℕ) where
  attempted_grows : (k line : ℕ) (a : View → Attempt Effect) (vs : List ℕ) (m : State) → k ≤ m.count →
      Grows k (attempted_on p n line a vs m)
  attempted_grows k line a vs m l =
      grows_then k (counted n m) (λ u now. valued (together p line (parts p now a vs)) now) (counted_grows n k m l)
      (λ u now g. valued_grows k (together p line (parts p now a vs)) now g)

  assigned_grows : (k : ℕ) (x : StepTarget) (xs : List Part) (m : State) → k ≤ m.count → k ≤ (assigned_by p x xs m).count
  assigned_grows k (inner.Local x) xs m l = l
  assigned_grows k (inner.Cell a) xs m l = l
  assigned_grows k (inner.Element a e) xs m l = l

  unless_grows : (k : ℕ) (vs : List ℕ) (a b : Done) → Grows k a → Grows k b → Grows k (unless_none vs a b)
  unless_grows k [] a b h g = h
  unless_grows k (v ∷ vs) a b h g = g

  turns_grow : (i : ℕ) (test : List ℕ → State → Behaviour (List Part)) (body : List ℕ → State → Done) →
      ((k : ℕ) (vs : List ℕ) (m : State) → k ≤ m.count → Grows k (test vs m)) →
      ((k : ℕ) (vs : List ℕ) (m : State) → k ≤ m.count → Grows k (body vs m)) →
      (k : ℕ) (vs : List ℕ) (m : State) → k ≤ m.count → Grows k (turns_on i test body vs m)
  turns_grow zero test body t b k vs m l = tt
  turns_grow (suc i) test body t b k vs m l =
      grows_then k (test vs m) (λ xs now. unless_none (those true xs) (Goes tt now)
      (then_do (body (those true xs) now) (λ u. turns_on i test body (those true xs)))) (t k vs m l)
      (λ xs now g. unless_grows k (those true xs) (Goes tt now) (then_do (body (those true xs) now)
      (λ u. turns_on i test body (those true xs))) g
      (grows_then k (body (those true xs) now) (λ u. turns_on i test body (those true xs)) (b k (those true xs) now g)
      (λ u after j. turns_grow i test body t b k (those true xs) after j)))

  mutual
    pub step_grows : (s : Step) (k : ℕ) (vs : List ℕ) (m : State) → k ≤ m.count → Grows k (perform_on p n s vs m)
    step_grows (step.Assign here x e) k vs m l =
        grows_then k (attempted_on p n here.line (λ s. attempt_step s x e) vs m) (λ xs now. Goes tt (assigned_by p x xs now))
        (attempted_grows k here.line (λ s. attempt_step s x e) vs m l) (λ xs now g. assigned_grows k x xs now g)
    step_grows (step.If' here e q a r b) k vs m l =
        grows_then k (tested_on p n here.line e vs m)
        (λ xs now. then_do (perform_row_on p n a (those true xs) now) (λ u. perform_row_on p n b (those false xs)))
        (attempted_grows k here.line (λ s. attempt_value s e) vs m l)
        (λ xs now g. grows_then k (perform_row_on p n a (those true xs) now) (λ u. perform_row_on p n b (those false xs))
        (row_grows a k (those true xs) now g) (λ u after j. row_grows b k (those false xs) after j))
    step_grows (step.While' here e q body) k vs m l =
        turns_grow (n + 1) (tested_on p n here.line e) (perform_row_on p n body)
        (λ k vs m g. attempted_grows k here.line (λ s. attempt_value s e) vs m g) (λ k vs m g. row_grows body k vs m g) k vs m l

    pub row_grows : {j : _} (ss : Row_of-Step j) (k : ℕ) (vs : List ℕ) (m : State) → k ≤ m.count → Grows k (perform_row_on p n ss vs m)
    row_grows end_of-Step k vs m l = l
    row_grows (more_of-Step s ss) k vs m l =
        grows_then k (perform_on p n s vs m) (λ u. perform_row_on p n ss vs) (step_grows s k vs m l) (λ u now g. row_grows ss k vs now g)

  pub list_grows : (ss : List Step) (k : ℕ) (vs : List ℕ) (m : State) → k ≤ m.count → Grows k (perform_list_on p n ss vs m)
  list_grows [] k vs m l = l
  list_grows (s ∷ ss) k vs m l =
      grows_then k (perform_on p n s vs m) (λ u. perform_list_on p n ss vs) (step_grows s k vs m l) (λ u now g. list_grows ss k vs now g)
