-- Statements inside pardo, within two bounds.
use Rattle.std.proofs.Common.{◌≡◌, ◌≤◌, ◌<◌, ℕ, zero, suc, ◌+◌, List, [], ◌∷◌, ◌++◌, true, false, arith, subst}
use Rattle.pram_check.specs.Checked.{Checked}
use Rattle.pram_names.specs.declared.body.Step as step
use Rattle.pram_names.specs.declared.body.Step.{Row_of-Step, Step, end_of-Step, more_of-Step}
use Rattle.pram_meaning.specs.Attempt.{attempt_step, attempt_value}
use Rattle.pram_meaning.specs.Bounded.{Behaviour, Done, Goes, perform_list_on, perform_on, perform_row_on, tested_on, then_do, turns_on}
use Rattle.pram_meaning.specs.Bounded.{unless_none}
use Rattle.pram_meaning.specs.Conflict.{Part}
use Rattle.pram_meaning.specs.Moments.{AssignsOn, ChoosesOn, Moment, TurnsOn, behind, if_any, inner_list_moments, inner_moments}
use Rattle.pram_meaning.specs.Moments.{inner_row_moments, set_test_moment, turns_on_moments}
use Rattle.pram_meaning.specs.Store.{State}
use Rattle.pram_meaning.specs.Together.{assigned_by, parts, those, together}
use Rattle.moment_laws.proofs.Leading.{lead_counts}
use Rattle.moment_laws.proofs.Left.{set_left}
use Rattle.moment_laws.proofs.Runs.{IsRun, done, run_none, run_then}
use Rattle.moment_laws.proofs.Statements.{Moves, begun_moves, set_run, set_value_run}

-- what has gone on has counted what it had and more
pub grown : {A : Type 0} (n k : ℕ) (m new : State) (a : A) (ms ns : List Moment) (b c : Behaviour A) → b ≡ Goes a new → IsRun n k m
    ms ns b c →
    m.count ≤ new.count
grown n k m new a ms ns b c is run =
    let lead = (subst (λ b. IsRun n k m ms ns b c) is run).0 in let e = lead_counts ms m new lead in omega (arith, e)

module _ (n k : ℕ) (more : n ≤ k) where
  turn_on_run : (spent spent' : List ℕ → State → List Moment) (body body' : List ℕ → State → Done)
      (later later' : List ℕ → State → List Moment) (others others' : List ℕ → State → Done) (m : State) → m.count ≤ n →
      ((vs : List ℕ) → IsRun n k m (spent vs m) (spent' vs m) (body vs m) (body' vs m)) →
      ((vs : List ℕ) (new : State) → m.count ≤ new.count → new.count ≤ n →
      IsRun n k new (later vs new) (later' vs new) (others vs new) (others' vs new)) → (us : List ℕ) →
      IsRun n k m (if_any us (spent us m ++ behind (body us m) (λ w. later us)))
      (if_any us (spent' us m ++ behind (body' us m) (λ w. later' us)))
      (unless_none us (Goes done m) (then_do (body us m) (λ w. others us)))
      (unless_none us (Goes done m) (then_do (body' us m) (λ w. others' us)))
  turn_on_run spent spent' body body' later later' others others' m low b r [] = run_none n k done m low
  turn_on_run spent spent' body body' later later' others others' m low b r (u ∷ us) =
      let vs = u ∷ us in
      run_then n k m (spent vs m) (spent' vs m) (body vs m) (body' vs m) (λ w. later vs) (λ w. later' vs) (λ w. others vs) (λ w. others' vs)
      (b vs) (λ w new e h. r vs new (grown n k m new w (spent vs m) (spent' vs m) (body vs m) (body' vs m) e (b vs)) h)

  turns_on_run : (j i : ℕ) (head head' : List ℕ → State → List Moment) (test test' : List ℕ → State → Behaviour (List Part))
      (spent spent' : List ℕ → State → List Moment) (body body' : List ℕ → State → Done) →
      ((vs : List ℕ) (m : State) → m.count ≤ n → IsRun n k m (head vs m) (head' vs m) (test vs m) (test' vs m)) →
      ((vs : List ℕ) (m : State) → Moves m (test vs m)) →
      ((vs : List ℕ) (m : State) → m.count ≤ n → IsRun n k m (spent vs m) (spent' vs m) (body vs m) (body' vs m)) → (vs : List ℕ)
      (m : State) → m.count ≤ n → n < m.count + j → k < m.count + i →
      IsRun n k m (turns_on_moments j head test spent body vs m) (turns_on_moments i head' test' spent' body' vs m)
      (turns_on j test body vs m) (turns_on i test' body' vs m)
  turns_on_run zero i head head' test test' spent spent' body body' t v b vs m low h g = absurd (omega (arith, low, h))
  turns_on_run (suc j) zero head head' test test' spent spent' body body' t v b vs m low h g = absurd (omega (arith, low, more, g))
  turns_on_run (suc j) (suc i) head head' test test' spent spent' body body' t v b vs m low h g =
      run_then n k m (head vs m) (head' vs m) (test vs m) (test' vs m)
      (λ xs m. if_any (those true xs) (spent (those true xs) m
      ++ behind (body (those true xs) m) (λ u. turns_on_moments j head test spent body (those true xs))))
      (λ xs m. if_any (those true xs) (spent' (those true xs) m
      ++ behind (body' (those true xs) m) (λ u. turns_on_moments i head' test' spent' body' (those true xs))))
      (λ xs m. unless_none (those true xs) (Goes done m) (then_do (body (those true xs) m) (λ u. turns_on j test body (those true xs))))
      (λ xs m. unless_none (those true xs) (Goes done m) (then_do (body' (those true xs) m) (λ u. turns_on i test' body' (those true xs))))
      (t vs m low)
      (λ xs new e f.
      let moved = subst (Moves m) e (v vs m) in
      turn_on_run spent spent' body body' (turns_on_moments j head test spent body) (turns_on_moments i head' test' spent' body')
      (turns_on j test body) (turns_on i test' body') new f (λ us. b us new f)
      (λ us last a c. turns_on_run j i head head' test test' spent spent' body body' t v b us last c
      (omega (arith, moved, a, h)) (omega (arith, moved, a, g))) (those true xs))

module _ (p : Checked) (n k : ℕ) (more : n ≤ k) where
  mutual
    inner_run : (s : Step) (vs : List ℕ) (m : State) → m.count ≤ n →
        IsRun n k m (inner_moments p n s vs m) (inner_moments p k s vs m) (perform_on p n s vs m) (perform_on p k s vs m)
    inner_run (step.Assign here x e) vs m low =
        set_run p here (AssignsOn x e) (assigned_by p x) (λ xs. done) (λ s. attempt_step s x e) vs (set_left p x) n k m more low
    inner_run (step.If' here e q a r b) vs m low =
        run_then n k m (set_test_moment p n here (ChoosesOn e) e vs m) (set_test_moment p k here (ChoosesOn e) e vs m)
        (tested_on p n here.line e vs m) (tested_on p k here.line e vs m)
        (λ xs m. inner_row_moments p n a (those true xs) m
        ++ behind (perform_row_on p n a (those true xs) m) (λ u. inner_row_moments p n b (those false xs)))
        (λ xs m. inner_row_moments p k a (those true xs) m
        ++ behind (perform_row_on p k a (those true xs) m) (λ u. inner_row_moments p k b (those false xs)))
        (λ xs m. then_do (perform_row_on p n a (those true xs) m) (λ u. perform_row_on p n b (those false xs)))
        (λ xs m. then_do (perform_row_on p k a (those true xs) m) (λ u. perform_row_on p k b (those false xs)))
        (set_value_run p here (ChoosesOn e) (λ s. attempt_value s e) vs n k m more low)
        (λ xs m i g. run_then n k m (inner_row_moments p n a (those true xs) m) (inner_row_moments p k a (those true xs) m)
        (perform_row_on p n a (those true xs) m) (perform_row_on p k a (those true xs) m)
        (λ u. inner_row_moments p n b (those false xs)) (λ u. inner_row_moments p k b (those false xs))
        (λ u. perform_row_on p n b (those false xs)) (λ u. perform_row_on p k b (those false xs))
        (inner_row_run a (those true xs) m g) (λ u m i g. inner_row_run b (those false xs) m g))
    inner_run (step.While' here e q body) vs m low =
        turns_on_run n k more (n + 1) (k + 1) (set_test_moment p n here (TurnsOn e) e) (set_test_moment p k here (TurnsOn e) e)
        (tested_on p n here.line e) (tested_on p k here.line e) (inner_row_moments p n body) (inner_row_moments p k body)
        (perform_row_on p n body) (perform_row_on p k body)
        (λ vs m g. set_value_run p here (TurnsOn e) (λ s. attempt_value s e) vs n k m more g)
        (λ vs m. begun_moves n m (λ m. together p here.line (parts p m (λ s. attempt_value s e) vs)))
        (λ vs m g. inner_row_run body vs m g) vs m low (omega arith) (omega arith)

    inner_row_run : {q : _} (ss : Row_of-Step q) (vs : List ℕ) (m : State) → m.count ≤ n →
        IsRun n k m (inner_row_moments p n ss vs m) (inner_row_moments p k ss vs m) (perform_row_on p n ss vs m)
        (perform_row_on p k ss vs m)
    inner_row_run end_of-Step vs m low = run_none n k done m low
    inner_row_run (more_of-Step s ss) vs m low =
        run_then n k m (inner_moments p n s vs m) (inner_moments p k s vs m) (perform_on p n s vs m) (perform_on p k s vs m)
        (λ u. inner_row_moments p n ss vs) (λ u. inner_row_moments p k ss vs) (λ u. perform_row_on p n ss vs)
        (λ u. perform_row_on p k ss vs)
        (inner_run s vs m low) (λ u m i g. inner_row_run ss vs m g)

  pub inner_list_run : (ss : List Step) (vs : List ℕ) (m : State) → m.count ≤ n →
      IsRun n k m (inner_list_moments p n ss vs m) (inner_list_moments p k ss vs m) (perform_list_on p n ss vs m)
      (perform_list_on p k ss vs m)
  inner_list_run [] vs m low = run_none n k done m low
  inner_list_run (s ∷ ss) vs m low =
      run_then n k m (inner_moments p n s vs m) (inner_moments p k s vs m) (perform_on p n s vs m) (perform_on p k s vs m)
      (λ u. inner_list_moments p n ss vs) (λ u. inner_list_moments p k ss vs) (λ u. perform_list_on p n ss vs)
      (λ u. perform_list_on p k ss vs) (inner_run s vs m low) (λ u m i g. inner_list_run ss vs m g)
