-- Statements outside pardo, within two bounds.
use Rattle.std.proofs.Common.{◌≡◌, ◌≤◌, ◌<◌, ℕ, zero, suc, ◌+◌, ℤ, pos, ◌+ℤ◌, List, [], ◌∷◌, ◌++◌, Bool, if◌then◌else◌, arith, refl, subst}
use Rattle.pram_tokens.specs.declared.token.Location.{Location}
use Rattle.pram_model.specs.Layout.{width}
use Rattle.pram_check.specs.Checked.{Checked}
use Rattle.pram_names.specs.declared.body.Expression.{Expression}
use Rattle.pram_names.specs.declared.body.Statement.{Assign, For', If', Pardo, Print, Row_of-Statement, Statement, While', end_of-Statement}
use Rattle.pram_names.specs.declared.body.Statement.{more_of-Statement}
use Rattle.pram_names.specs.declared.body.Step.{Step}
use Rattle.pram_values.specs.Truth.{is_nonzero}
use Rattle.pram_meaning.specs.Attempt.{attempt, attempt_assign, attempt_bounds, attempt_range}
use Rattle.pram_meaning.specs.Bounded.{Behaviour, Done, Goes, Reaches, Stops, counted, evaluated, for_turns, found, pardo_done, perform}
use Rattle.pram_meaning.specs.Bounded.{perform_list, perform_list_on, perform_row, tested, then_do, turns}
use Rattle.pram_meaning.specs.Moments.{Action, Assigns, Bounds, Chooses, Moment, Prints, Ranges, Turns, behind, bounds_moment, closing}
use Rattle.pram_meaning.specs.Moments.{for_turns_moments, goes_to, inner_list_moments, list_moments, moments, nowhere, range_moment}
use Rattle.pram_meaning.specs.Moments.{row_moments, setting_moment, test_moment, turns_moments}
use Rattle.pram_meaning.specs.Store.{State, numbers, printed, seen, with_team, with_uniform, without_team}
use Rattle.pram_meaning.specs.Together.{alone, assigned}
use Rattle.moment_laws.proofs.Inside.{grown, inner_list_run}
use Rattle.moment_laws.proofs.Leading.{same_store}
use Rattle.moment_laws.proofs.Left.{assigned_left, printed_left}
use Rattle.moment_laws.proofs.Runs.{IsRun, done, run_closing, run_either, run_from, run_map, run_none, run_then}
use Rattle.moment_laws.proofs.Statements.{Moves, alone_run, begun_moves, moves_map, setting_run, value_run}

-- ---- loops

turns_run : (n k : ℕ) → n ≤ k → (j i : ℕ) (head head' : State → List Moment) (test test' : State → Behaviour Bool)
    (spent spent' : State → List Moment) (body body' : State → Done) →
    ((m : State) → m.count ≤ n → IsRun n k m (head m) (head' m) (test m) (test' m)) → ((m : State) → Moves m (test m)) →
    ((m : State) → m.count ≤ n → IsRun n k m (spent m) (spent' m) (body m) (body' m)) → (m : State) → m.count ≤ n → n < m.count + j →
    k < m.count + i →
    IsRun n k m (turns_moments j head test spent body m) (turns_moments i head' test' spent' body' m) (turns j test body m)
    (turns i test' body' m)
turns_run n k more zero i head head' test test' spent spent' body body' t v b m low h g = absurd (omega (arith, low, h))
turns_run n k more (suc j) zero head head' test test' spent spent' body body' t v b m low h g = absurd (omega (arith, low, more, g))
turns_run n k more (suc j) (suc i) head head' test test' spent spent' body body' t v b m low h g =
    run_then n k m (head m) (head' m) (test m) (test' m)
    (λ z m. if z then spent m ++ behind (body m) (λ u. turns_moments j head test spent body) else [])
    (λ z m. if z then spent' m ++ behind (body' m) (λ u. turns_moments i head' test' spent' body') else [])
    (λ z m. if z then then_do (body m) (λ u. turns j test body) else Goes done m)
    (λ z m. if z then then_do (body' m) (λ u. turns i test' body') else Goes done m) (t m low)
    (λ z new e f.
    let moved = subst (Moves m) e (v m) in
    run_either n k new z (spent new ++ behind (body new) (λ u. turns_moments j head test spent body))
    (spent' new ++ behind (body' new) (λ u. turns_moments i head' test' spent' body')) [] []
    (then_do (body new) (λ u. turns j test body)) (then_do (body' new) (λ u. turns i test' body')) (Goes done new) (Goes done new)
    (run_then n k new (spent new) (spent' new) (body new) (body' new) (λ u. turns_moments j head test spent body)
    (λ u. turns_moments i head' test' spent' body') (λ u. turns j test body) (λ u. turns i test' body') (b new f)
    (λ u last e c.
    let s = grown n k new last u (spent new) (spent' new) (body new) (body' new) e (b new f) in
    turns_run n k more j i head head' test test' spent spent' body body' t v b last c (omega (arith, moved, s, h))
    (omega (arith, moved, s, g))))
    (run_none n k done new f))

-- a state is changed first, and what follows begins with it
then_from : {B : Type 0} (b : Done) (h : State → State) (g : State → Behaviour B) →
    then_do (then_do b (λ u m. Goes done (h m))) (λ u m. g m) ≡ then_do b (λ u m. g (h m))
then_from (Goes u m) h g = refl
then_from (Stops f out) h g = refl
then_from (Reaches out) h g = refl

behind_from : (b : Done) (h : State → State) (g : State → List Moment) →
    behind (then_do b (λ u m. Goes done (h m))) (λ u m. g m) ≡ behind b (λ u m. g (h m))
behind_from (Goes u m) h g = refl
behind_from (Stops f out) h g = refl
behind_from (Reaches out) h g = refl

module _ (n k : ℕ) (more : n ≤ k) (here : Location) (x : ℕ) (spent spent' : State → List Moment) (body body' : State → Done)
    (b : (m : State) → m.count ≤ n → IsRun n k m (spent m) (spent' m) (body m) (body' m)) where
  -- a turn, and behind it those from the next number on
  for_turn : (j : ℕ) (a : ℤ) (m : State) → m.count ≤ n →
      ((m : State) → m.count ≤ n → IsRun n k m (for_turns_moments n here j x (a +ℤ pos 1) spent body m)
      (for_turns_moments k here j x (a +ℤ pos 1) spent' body' m) (for_turns n j x (a +ℤ pos 1) body m)
      (for_turns k j x (a +ℤ pos 1) body' m)) →
      IsRun n k m (for_turns_moments n here (suc j) x a spent body m) (for_turns_moments k here (suc j) x a spent' body' m)
      (for_turns n (suc j) x a body m) (for_turns k (suc j) x a body' m)
  for_turn j a m low later =
      subst (λ ms. IsRun n k m (setting_moment n here x a m ++ ms) (for_turns_moments k here (suc j) x a spent' body' m)
      (for_turns n (suc j) x a body m) (for_turns k (suc j) x a body' m)) (behind_from (counted n m) set told)
      (subst (λ ms. IsRun n k m (setting_moment n here x a m ++ behind (first n) (λ u. told)) (setting_moment k here x a m ++ ms)
      (for_turns n (suc j) x a body m) (for_turns k (suc j) x a body' m)) (behind_from (counted k m) set told')
      (subst (λ c. IsRun n k m (setting_moment n here x a m ++ behind (first n) (λ u. told))
      (setting_moment k here x a m ++ behind (first k) (λ u. told')) c (for_turns k (suc j) x a body' m))
      (then_from (counted n m) set does)
      (subst (λ c. IsRun n k m (setting_moment n here x a m ++ behind (first n) (λ u. told))
      (setting_moment k here x a m ++ behind (first k) (λ u. told')) (then_do (first n) (λ u. does)) c)
      (then_from (counted k m) set does') by_turn)))
    where
      set : State → State
      set = with_uniform x a

      told : State → List Moment
      told m = closing (spent m) ++ behind (body m) (λ u. for_turns_moments n here j x (a +ℤ pos 1) spent body)

      told' : State → List Moment
      told' m = closing (spent' m) ++ behind (body' m) (λ u. for_turns_moments k here j x (a +ℤ pos 1) spent' body')

      does : State → Done
      does m = then_do (body m) (λ u. for_turns n j x (a +ℤ pos 1) body)

      does' : State → Done
      does' m = then_do (body' m) (λ u. for_turns k j x (a +ℤ pos 1) body')

      first : ℕ → Done
      first n = then_do (counted n m) (λ u m. Goes done (set m))

      by_turn : IsRun n k m (setting_moment n here x a m ++ behind (first n) (λ u. told))
          (setting_moment k here x a m ++ behind (first k) (λ u. told')) (then_do (first n) (λ u. does)) (then_do (first k) (λ u. does'))
      by_turn = run_then n k m (setting_moment n here x a m) (setting_moment k here x a m) (first n) (first k) (λ u. told) (λ u. told')
          (λ u. does) (λ u. does') (setting_run here x a n k m more low)
          (λ u new e c. run_then n k new (closing (spent new)) (closing (spent' new)) (body new) (body' new)
          (λ u. for_turns_moments n here j x (a +ℤ pos 1) spent body) (λ u. for_turns_moments k here j x (a +ℤ pos 1) spent' body')
          (λ u. for_turns n j x (a +ℤ pos 1) body) (λ u. for_turns k j x (a +ℤ pos 1) body')
          (run_closing n k new (spent new) (spent' new) (body new) (body' new) (b new c)) (λ u last e c. later last c))

  for_run : (j : ℕ) (a : ℤ) (m : State) → m.count ≤ n →
      IsRun n k m (for_turns_moments n here j x a spent body m) (for_turns_moments k here j x a spent' body' m)
      (for_turns n j x a body m) (for_turns k j x a body' m)
  for_run zero a m low = run_none n k done m low
  for_run (suc j) a m low = for_turn j a m low (λ last c. for_run j (a +ℤ pos 1) last c)

-- ---- all statements

module _ (p : Checked) (n k : ℕ) (more : n ≤ k) where
  tested_run : (here : Location) (act : Action) (e : Expression) (m : State) → m.count ≤ n →
      IsRun n k m (test_moment p n here act e m) (test_moment p k here act e m) (tested p n here.line e m) (tested p k here.line e m)
  tested_run here act e m low =
      run_map n k m (test_moment p n here act e m) (test_moment p k here act e m) (found p n here.line e m) (found p k here.line e m)
      (λ v m. is_nonzero v) (λ m. m) same_store (λ m. refl)
      (value_run here act nowhere (λ m. attempt (seen p m) e []) n k m more low)

  tested_moves : (here : Location) (e : Expression) (m : State) → Moves m (tested p n here.line e m)
  tested_moves here e m =
      moves_map m (found p n here.line e m) is_nonzero (begun_moves n m (λ m. alone here.line (attempt (seen p m) e [])))

  pardo_run : (locals : ℕ) (body : List Step) (a : ℤ) (j : ℕ) (m : State) → m.count ≤ n →
      IsRun n k m (inner_list_moments p n body (numbers 0 j) (with_team a j locals m))
      (inner_list_moments p k body (numbers 0 j) (with_team a j locals m)) (pardo_done p n locals body a j m)
      (pardo_done p k locals body a j m)
  pardo_run locals body a j m low =
      let start = with_team a j locals m in
      let ms = inner_list_moments p n body (numbers 0 j) start in
      let ns = inner_list_moments p k body (numbers 0 j) start in
      run_from n k m start ms ns (pardo_done p n locals body a j m) (pardo_done p k locals body a j m)
      (record { output = refl; uniforms = refl; cells = refl }) refl
      (run_map n k start ms ns (perform_list_on p n body (numbers 0 j) start) (perform_list_on p k body (numbers 0 j) start) (λ u m. done)
      without_team (λ m. record { output = refl; uniforms = refl; cells = refl }) (λ m. refl)
      (inner_list_run p n k more body (numbers 0 j) start low))

  mutual
    run : (s : Statement) (m : State) → m.count ≤ n → IsRun n k m (moments p n s m) (moments p k s m) (perform p n s m) (perform p k s m)
    run (Assign here x e) m low =
        alone_run here (Assigns x e) goes_to (assigned x) (λ g. done) (λ m. attempt_assign (seen p m) x e) (assigned_left x) n k m more low
    run (Print here e) m low =
        alone_run here (Prints e) nowhere printed (λ v. done) (λ m. attempt (seen p m) e []) printed_left n k m more low
    run (While' here e q body) m low =
        turns_run n k more (n + 1) (k + 1) (test_moment p n here (Turns e) e) (test_moment p k here (Turns e) e) (tested p n here.line e)
        (tested p k here.line e) (row_moments p n body) (row_moments p k body) (perform_row p n body) (perform_row p k body)
        (λ m g. tested_run here (Turns e) e m g) (λ m. tested_moves here e m) (λ m g. row_run body m g) m low (omega arith) (omega arith)
    run (If' here e q a r b) m low =
        run_then n k m (test_moment p n here (Chooses e) e m) (test_moment p k here (Chooses e) e m) (tested p n here.line e m)
        (tested p k here.line e m)
        (λ z m. closing (if z then row_moments p n a m else row_moments p n b m))
        (λ z m. closing (if z then row_moments p k a m else row_moments p k b m))
        (λ z m. if z then perform_row p n a m else perform_row p n b m)
        (λ z m. if z then perform_row p k a m else perform_row p k b m)
        (tested_run here (Chooses e) e m low)
        (λ z m i g. run_closing n k m (if z then row_moments p n a m else row_moments p n b m)
        (if z then row_moments p k a m else row_moments p k b m)
        (if z then perform_row p n a m else perform_row p n b m) (if z then perform_row p k a m else perform_row p k b m)
        (run_either n k m z (row_moments p n a m) (row_moments p k a m) (row_moments p n b m) (row_moments p k b m) (perform_row p n a m)
        (perform_row p k a m) (perform_row p n b m) (perform_row p k b m) (row_run a m g) (row_run b m g)))
    run (For' here x e f q body) m low =
        run_then n k m (bounds_moment p n here e f m) (bounds_moment p k here e f m)
        (evaluated n here.line (λ m. attempt_bounds (seen p m) e f) m) (evaluated k here.line (λ m. attempt_bounds (seen p m) e f) m)
        (λ r. for_turns_moments n here (width r.0 r.1) x r.0 (row_moments p n body) (perform_row p n body))
        (λ r. for_turns_moments k here (width r.0 r.1) x r.0 (row_moments p k body) (perform_row p k body))
        (λ r. for_turns n (width r.0 r.1) x r.0 (perform_row p n body)) (λ r. for_turns k (width r.0 r.1) x r.0 (perform_row p k body))
        (value_run here (Bounds e f) nowhere (λ m. attempt_bounds (seen p m) e f) n k m more low)
        (λ r m i g. for_run n k more here x (row_moments p n body) (row_moments p k body) (perform_row p n body) (perform_row p k body)
        (λ m g. row_run body m g) (width r.0 r.1) r.0 m g)
    run (Pardo here e f locals body) m low =
        run_then n k m (range_moment p n here e f m) (range_moment p k here e f m)
        (evaluated n here.line (λ m. attempt_range p.procs (seen p m) e f) m)
        (evaluated k here.line (λ m. attempt_range p.procs (seen p m) e f) m)
        (λ r m. inner_list_moments p n body.items (numbers 0 r.1) (with_team r.0 r.1 locals m))
        (λ r m. inner_list_moments p k body.items (numbers 0 r.1) (with_team r.0 r.1 locals m))
        (λ r. pardo_done p n locals body.items r.0 r.1) (λ r. pardo_done p k locals body.items r.0 r.1)
        (value_run here (Ranges e f) nowhere (λ m. attempt_range p.procs (seen p m) e f) n k m more low)
        (λ r m i g. pardo_run locals body.items r.0 r.1 m g)

    row_run : {q : _} (ss : Row_of-Statement q) (m : State) → m.count ≤ n →
        IsRun n k m (row_moments p n ss m) (row_moments p k ss m) (perform_row p n ss m) (perform_row p k ss m)
    row_run end_of-Statement m low = run_none n k done m low
    row_run (more_of-Statement s ss) m low =
        run_then n k m (moments p n s m) (moments p k s m) (perform p n s m) (perform p k s m) (λ u. row_moments p n ss)
        (λ u. row_moments p k ss) (λ u. perform_row p n ss) (λ u. perform_row p k ss) (run s m low) (λ u m i g. row_run ss m g)

  pub list_run : (ss : List Statement) (m : State) → m.count ≤ n →
      IsRun n k m (list_moments p n ss m) (list_moments p k ss m) (perform_list p n ss m) (perform_list p k ss m)
  list_run [] m low = run_none n k done m low
  list_run (s ∷ ss) m low =
      run_then n k m (moments p n s m) (moments p k s m) (perform p n s m) (perform p k s m) (λ u. list_moments p n ss)
      (λ u. list_moments p k ss) (λ u. perform_list p n ss) (λ u. perform_list p k ss) (run s m low) (λ u m i g. list_run ss m g)
