-- Behind statements inside pardo that go on a write is held as their code has it.
use Rattle.std.proofs.Common.{◌≡◌, ℕ, zero, suc, ◌+◌, max, List, [], ◌∷◌, ◌++◌, Bool, true, false, not, ◌&&◌, Result, Ok, Err, refl, ap}
use Rattle.std.proofs.Common.{◌∙◌, subst, arith}
use Rattle.std.proofs.Common.{append-nil, length}
use Rattle.std.specs.Prelude.{if◌then◌else◌, nat_lt}
use Rattle.pram_tokens.specs.declared.token.Location.{Location}
use Rattle.write_rules.specs.declared.fault.Fault.{Fault}
use Rattle.pram_names.specs.declared.body.Expression.{Expression}
use Rattle.pram_names.specs.declared.body.Step as step
use Rattle.pram_names.specs.declared.body.Step.{Step, Row_of-Step, end_of-Step, more_of-Step}
use Rattle.pram_names.specs.declared.body.StepTarget.{StepTarget}
use Rattle.pram_names.specs.declared.body.StepTarget.TheVariants as inner
use Rattle.pram_check.specs.Checked.{Checked}
use Rattle.pram_meaning.specs.Attempt.{Attempt, Effect, attempt_step, attempt_value}
use Rattle.pram_meaning.specs.Bounded.{Behaviour, Done, Goes, Reaches, then_do, valued, attempted_on, tested_on, unless_none}
use Rattle.pram_meaning.specs.Bounded.{turns_on, perform_on, perform_row_on, perform_list_on}
use Rattle.pram_meaning.specs.Conflict.{Part}
use Rattle.pram_meaning.specs.Store.{State, View}
use Rattle.pram_meaning.specs.Together.{assigned_by, parts, those, together}
use Rattle.plain_form.specs.Formulas.{formula_of}
use Rattle.plain_form.specs.Inside.{inner_assign_left, step_left, part_left, steps_left}
use Rattle.plain_form.specs.Shapes as shapes
use Rattle.plain_form.specs.Shapes.{still}
use Rattle.std.specs.Prelude.{Option, Some}
use Rattle.exchange_bound.specs.Events.{Event, Runs, Cut, Votes, behind, begun, if_any, levels, turns_on_events, step_events}
use Rattle.exchange_bound.specs.Events.{step_row_events}
use Rattle.exchange_bound.specs.Events.{steps_events, step_target_levels, is_step_shared, step_target_reads, reads}
use Rattle.exchange_bound.specs.Spent as spent
use Rattle.exchange_bound.specs.Spent.{held_after, held_behind}
use Rattle.compiled_meaning.specs.Paid.{tests_on}
use Rattle.compiled_meaning.specs.Follows.{HoldsBehind}
use Rattle.compiled_meaning.proofs.EachStatement.Joined.{holds_behind, holds_then}
use Rattle.compiled_meaning.proofs.Inside.Attempted.{one_more}
use Rattle.compiled_meaning.proofs.Inside.Parts.{behind_nothing}

-- reads send what is held
pub reads_send : (held : Bool) (n : ℕ) → (held && not (spent.any_level n)) ≡ (held && not (shapes.any_level n))
reads_send true zero = refl
reads_send true (suc n) = refl
reads_send false n = refl

module _ (p : Checked) (n : ℕ) where
  -- an attempt, and what is done with it
  attempt_holds : (held left : Bool) (line : ℕ) (a : View → Attempt Effect) (vs : List ℕ) (m : State) (es : List Event)
      (rest : List Part → State → List Event) (k : List Part → State → Done) →
      ((xs : List Part) (now : State) → HoldsBehind held (es ++ rest xs now) left (k xs now)) →
      HoldsBehind held (begun n m es ++ behind (attempted_on p n line a vs m) rest) left (then_do (attempted_on p n line a vs m) k)
  attempt_holds held left line a vs m es rest k h = go (nat_lt m.count n)
    where
      by : (r : Result (List Part) Fault) →
          HoldsBehind held (es ++ behind (valued r (one_more m)) rest) left (then_do (valued r (one_more m)) k)
      by (Ok xs) = h xs (one_more m)
      by (Err fault) = tt

      go : (b : Bool) →
          (let d : Behaviour (List Part) = then_do (let c : Done = if b then Goes tt (one_more m) else Reaches m.output in c)
          (λ u now. valued (together p line (parts p now a vs)) now) in
          HoldsBehind held ((if b then es else []) ++ behind d rest) left (then_do d k))
      go true = by (together p line (parts p m a vs))
      go false = tt

  assign_left : (held : Bool) (x : StepTarget) (e : Expression) (set : Option ℕ) (k : ℕ) →
      held_after (Runs (max (step_target_levels x) (levels e)) (is_step_shared x) set k) held ≡ inner_assign_left held x (formula_of e)
  assign_left held (inner.Local x) e set k =
      ap (λ k. held && not (spent.any_level k)) (let l : max 0 (levels e) ≡ levels e = omega arith in l) ∙ reads_send held (levels e)
  assign_left held (inner.Cell a) e set k = refl
  assign_left held (inner.Element a i) e set k = refl

  assign_holds : (held : Bool) (here : Location) (x : StepTarget) (e : Expression) (vs : List ℕ) (m : State) →
      HoldsBehind held (step_events p n (step.Assign here x e) vs m) (step_left held (step.Assign here x e))
      (perform_on p n (step.Assign here x e) vs m)
  assign_holds held here x e vs m =
      let k = step_target_reads x + reads e in
      let es = Runs (max (step_target_levels x) (levels e)) (is_step_shared x) (Some (length vs)) k ∷ [] in
      let a = attempted_on p n here.line (λ s. attempt_step s x e) vs m in
      subst (λ ys. HoldsBehind held ys (inner_assign_left held x (formula_of e)) (then_do a (λ xs now. Goes tt (assigned_by p x xs now))))
      (ap (λ ys. begun n m es ++ ys) (behind_nothing a) ∙ append-nil (begun n m es))
      (attempt_holds held (inner_assign_left held x (formula_of e)) here.line (λ s. attempt_step s x e) vs m es (λ xs now. [])
      (λ xs now. Goes tt (assigned_by p x xs now)) (λ xs now. assign_left held x e (Some (length vs)) k))

  -- the turns of a loop, and behind the last one nothing is held
  turns_hold : (i : ℕ) (line : ℕ) (e : Expression) (left : Bool) (body : List ℕ → State → Done) (inside : List ℕ → State → List Event) →
      ((vs : List ℕ) (m : State) → HoldsBehind false (inside vs m) left (body vs m)) → (held : Bool) (vs : List ℕ) (m : State) →
      HoldsBehind held
      (turns_on_events i (λ them m. begun n m (Cut ∷ tests_on them e ∷ Cut ∷ Votes ∷ [])) (tested_on p n line e) body inside vs m) false
      (turns_on i (tested_on p n line e) body vs m)
  turns_hold zero line e left body inside h held vs m = tt
  turns_hold (suc i) line e left body inside h held vs m =
      let head = λ (them : List ℕ) (m : State). begun n m (Cut ∷ tests_on them e ∷ Cut ∷ Votes ∷ []) in
      let test = tested_on p n line e in
      attempt_holds held false line (λ s. attempt_value s e) vs m (Cut ∷ tests_on vs e ∷ Cut ∷ Votes ∷ [])
      (λ xs m. if_any (those true xs)
      (inside (those true xs) m ++ behind (body (those true xs) m) (λ u. turns_on_events i head test body inside (those true xs))))
      (λ xs m. unless_none (those true xs) (Goes tt m) (then_do (body (those true xs) m) (λ u. turns_on i test body (those true xs))))
      (λ xs now. by (λ us m. turns_hold i line e left body inside h left us m) now (those true xs))
    where
      by : ((us : List ℕ) (m : State) → HoldsBehind left
          (turns_on_events i (λ them m. begun n m (Cut ∷ tests_on them e ∷ Cut ∷ Votes ∷ [])) (tested_on p n line e) body inside us m)
          false
          (turns_on i (tested_on p n line e) body us m)) →
          (now : State) (us : List ℕ) → HoldsBehind held ((Cut ∷ tests_on vs e ∷ Cut ∷ Votes ∷ []) ++ if_any us
          (inside us now ++ behind (body us now) (λ u. turns_on_events i
          (λ them m. begun n m (Cut ∷ tests_on them e ∷ Cut ∷ Votes ∷ [])) (tested_on p n line e) body inside us))) false
          (unless_none us (Goes tt now) (then_do (body us now) (λ u. turns_on i (tested_on p n line e) body us)))
      by more now [] = refl
      by more now (v ∷ us) =
          holds_behind held false false (Cut ∷ tests_on vs e ∷ Cut ∷ Votes ∷ [])
          (inside (v ∷ us) now ++ behind (body (v ∷ us) now) (λ u. turns_on_events i
          (λ them m. begun n m (Cut ∷ tests_on them e ∷ Cut ∷ Votes ∷ [])) (tested_on p n line e) body inside (v ∷ us)))
          (then_do (body (v ∷ us) now) (λ u. turns_on i (tested_on p n line e) body (v ∷ us))) refl
          (holds_then false left false (inside (v ∷ us) now)
          (λ m. turns_on_events i (λ them m. begun n m (Cut ∷ tests_on them e ∷ Cut ∷ Votes ∷ [])) (tested_on p n line e) body inside
          (v ∷ us) m)
          (body (v ∷ us) now) (λ m. turns_on i (tested_on p n line e) body (v ∷ us) m) (h (v ∷ us) now) (λ m. more (v ∷ us) m))

  mutual
    pub step_holds : (s : Step) (held : Bool) (vs : List ℕ) (m : State) →
        HoldsBehind held (step_events p n s vs m) (step_left held s) (perform_on p n s vs m)
    step_holds (step.Assign here x e) held vs m = assign_holds held here x e vs m
    step_holds (step.If' here e q a r b) held vs m =
        let some = still held (formula_of e) in
        attempt_holds held (part_left (part_left some a) b) here.line (λ s. attempt_value s e) vs m (tests_on vs e ∷ [])
        (λ xs m. step_row_events p n a (those true xs) m
        ++ behind (perform_row_on p n a (those true xs) m) (λ u. step_row_events p n b (those false xs)))
        (λ xs m. then_do (perform_row_on p n a (those true xs) m) (λ u. perform_row_on p n b (those false xs)))
        (λ xs now. holds_behind held some (part_left (part_left some a) b) (tests_on vs e ∷ [])
        (step_row_events p n a (those true xs) now
        ++ behind (perform_row_on p n a (those true xs) now) (λ u. step_row_events p n b (those false xs)))
        (then_do (perform_row_on p n a (those true xs) now) (λ u. perform_row_on p n b (those false xs)))
        (reads_send held (levels e))
        (holds_then some (part_left some a) (part_left (part_left some a) b) (step_row_events p n a (those true xs) now)
        (λ m. step_row_events p n b (those false xs) m) (perform_row_on p n a (those true xs) now)
        (λ m. perform_row_on p n b (those false xs) m) (row_holds a some (those true xs) now)
        (λ m. row_holds b (part_left some a) (those false xs) m)))
    step_holds (step.While' here e q body) held vs m =
        turns_hold (n + 1) here.line e (part_left false body) (perform_row_on p n body) (step_row_events p n body)
        (λ vs m. row_holds body false vs m) held vs m

    pub row_holds : {j : _} (ss : Row_of-Step j) (held : Bool) (vs : List ℕ) (m : State) →
        HoldsBehind held (step_row_events p n ss vs m) (part_left held ss) (perform_row_on p n ss vs m)
    row_holds end_of-Step held vs m = refl
    row_holds (more_of-Step s ss) held vs m =
        holds_then held (step_left held s) (part_left (step_left held s) ss) (step_events p n s vs m) (λ m. step_row_events p n ss vs m)
        (perform_on p n s vs m) (λ m. perform_row_on p n ss vs m) (step_holds s held vs m) (λ m. row_holds ss (step_left held s) vs m)

  pub list_holds : (ss : List Step) (held : Bool) (vs : List ℕ) (m : State) →
      HoldsBehind held (steps_events p n ss vs m) (steps_left held ss) (perform_list_on p n ss vs m)
  list_holds [] held vs m = refl
  list_holds (s ∷ ss) held vs m =
      holds_then held (step_left held s) (steps_left (step_left held s) ss) (step_events p n s vs m) (λ m. steps_events p n ss vs m)
      (perform_on p n s vs m) (λ m. perform_list_on p n ss vs m) (step_holds s held vs m) (λ m. list_holds ss (step_left held s) vs m)
