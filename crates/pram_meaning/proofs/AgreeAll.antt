-- Every statement's bounded meaning agrees with the relation.
use Rattle.std.proofs.Common.{◌≡◌, ℕ, zero, suc, ◌+◌, ◌≤◌, ◌<◌, List, [], ◌∷◌, Bool, true, false, Result, ℤ, pos, ◌+ℤ◌, if◌then◌else◌, refl}
use Rattle.std.proofs.Common.{arith, Option, Some, None}
use Rattle.pram_meaning.specs.Meaning as relation
use Rattle.pram_names.specs.declared.body.Step as step
use Rattle.pram_names.specs.declared.body.StepTarget.TheVariants as step_target
use Rattle.pram_names.specs.declared.body.Target.TheVariants as target
use Rattle.pram_check.specs.Checked.{Checked}
use Rattle.pram_names.specs.declared.body.Expression.{Expression}
use Rattle.pram_names.specs.declared.body.Statement.{Assign, For', If', Pardo, Print, Row_of-Statement, Statement, While', end_of-Statement}
use Rattle.pram_names.specs.declared.body.Statement.{more_of-Statement}
use Rattle.pram_names.specs.declared.body.Step.{Row_of-Step, Step, end_of-Step, more_of-Step}
use Rattle.pram_names.specs.declared.body.StepTarget.{StepTarget}
use Rattle.pram_names.specs.declared.body.Target.{Target}
use Rattle.pram_meaning.specs.Attempt.{Attempt, Effect, attempt, attempt_assign, attempt_bounds, attempt_range, attempt_step, attempt_value}
use Rattle.pram_meaning.specs.Bounded.{Behaviour, Done, Goes, attempted_on, counted, evaluated, for_turns, found, pardo_done, perform}
use Rattle.pram_meaning.specs.Bounded.{perform_list, perform_list_on, perform_on, perform_row, perform_row_on, tested, then_do, turns_on}
use Rattle.pram_meaning.specs.Bounded.{unless_none, valued}
use Rattle.pram_meaning.specs.Conflict.{Part}
use Rattle.pram_meaning.specs.Meaning.{AttemptedOn, Begins, Does, Either, Ends, Evaluated, Fate, Fates, ForTurns, IsEnd, Means, MeansList}
use Rattle.pram_meaning.specs.Meaning.{MeansListOn, MeansOn, MeansRow, MeansRowOn, PardoDone, Tested, Then, TurnsOn, UnlessNone, Yields}
use Rattle.pram_meaning.specs.Meaning.{at_fault, at_start, begins, on}
use Rattle.pram_meaning.specs.Store.{State, View, numbers, printed, seen, with_team, with_uniform, without_team}
use Rattle.pram_meaning.specs.Together.{after_write, alone, assigned, assigned_by, parts, those, together}
use Rattle.pram_model.specs.Layout.{width}
use Rattle.pram_values.specs.Truth.{is_nonzero}
use Rattle.write_rules.specs.declared.fault.Fault.{Fault}
use Rattle.pram_meaning.proofs.Agree.{Agree, Comes, Grows, Shows, agree_counted, agree_either, agree_end, agree_evaluated, agree_loop}
use Rattle.pram_meaning.proofs.Agree.{agree_tested, agree_then, agree_valued, comes_then, count_of, end_comes, end_grows, end_shows}
use Rattle.pram_meaning.proofs.Agree.{grows_then, shows_map, shows_then}

-- after a change of the store
agree_after : {A : Type 0} (n : ℕ) (g : State → State) → ((m : State) → (g m).count ≡ m.count) → (M : State → Fates A)
    (b : State → Behaviour A) → Agree A n M b → Agree A n (λ m. M (g m)) (λ m. b (g m))
agree_after n g same M b a = record {
  shows = λ m h. let e = same m in a.shows (g m) (omega arith);
  comes = λ m h. let e = same m in a.comes (g m) (omega arith);
  grows = λ m f r. let e = same m in let i = a.grows (g m) f r in omega arith;
}

pub write_count : (c : Option ℕ) (v : ℤ) (m : State) → (after_write c v m).count ≡ m.count
write_count None v m = refl
write_count (Some c) v m = refl

pub assigned_count : (x : Target) (g : Effect) (m : State) → (assigned x g m).count ≡ m.count
assigned_count (target.Uniform x) g m = refl
assigned_count (target.Cell c) g m = write_count g.cell g.value m
assigned_count (target.Element a e) g m = write_count g.cell g.value m

pub set_count : (w : Checked) (x : StepTarget) (xs : List Part) (m : State) → (assigned_by w x xs m).count ≡ m.count
set_count w (step_target.Local x) xs m = refl
set_count w (step_target.Cell c) xs m = refl
set_count w (step_target.Element a e) xs m = refl

agree_for : (n k x : ℕ) (a : ℤ) (B : State → Does) (b : State → Done) → Agree (Unit {0}) n B b → Agree (Unit {0}) n (ForTurns k x a B)
    (for_turns n k x a b)
agree_for n zero x a B b r = agree_end n (λ m. tt) (λ m. m) (λ m. refl)
agree_for n (suc k) x a B b r =
    agree_then n Begins (λ u m. Then (Unit {0}) (Unit {0}) (B (with_uniform x a m)) (λ u. ForTurns k x (a +ℤ pos 1) B)) (counted n)
    (λ u m. then_do (b (with_uniform x a m)) (λ u. for_turns n k x (a +ℤ pos 1) b)) (agree_counted n)
    (λ u. agree_then n (λ m. B (with_uniform x a m)) (λ u. ForTurns k x (a +ℤ pos 1) B) (λ m. b (with_uniform x a m))
    (λ u. for_turns n k x (a +ℤ pos 1) b) (agree_after n (with_uniform x a) (λ m. refl) B b r)
    (λ u. agree_for n k x (a +ℤ pos 1) B b r))

agree_attempted : (w : Checked) (n line : ℕ) (a : View → Attempt Effect) (vs : List ℕ) → Agree (List Part) n (AttemptedOn w line a vs)
    (attempted_on w n line a vs)
agree_attempted w n line a vs =
    agree_then n Begins (λ u m. Yields (List Part) m (together w line (parts w m a vs))) (counted n)
    (λ u m. valued (together w line (parts w m a vs)) m) (agree_counted n) (λ u. agree_valued n (λ m. together w line (parts w m a vs)))

agree_unless : (n : ℕ) (us : List ℕ) (P Q : State → Does) (b c : State → Done) → Agree (Unit {0}) n P b → Agree (Unit {0}) n Q c →
    Agree (Unit {0}) n (λ m. UnlessNone us (P m) (Q m)) (λ m. unless_none us (b m) (c m))
agree_unless n [] P Q b c p q = p
agree_unless n (v ∷ vs) P Q b c p q = q

-- ---- a loop on a set

abbrev LoopOn : (List ℕ → State → Fates (List Part)) → (List ℕ → State → Does) → List ℕ → State → Does
LoopOn T B vs m f = (j : ℕ) × TurnsOn j T B vs m f

abbrev TurnOn : (List ℕ → State → Fates (List Part)) → (List ℕ → State → Does) → (List ℕ → State → Does) → List ℕ → State → Does
TurnOn T B L vs m = Then (List Part) (Unit {0}) (T vs m)
    (λ xs m. UnlessNone (those true xs) (IsEnd tt m) (Then (Unit {0}) (Unit {0}) (B (those true xs) m) (λ u. L (those true xs))))

fold_on : (T : List ℕ → State → Fates (List Part)) (B : List ℕ → State → Does) (us : List ℕ) (k : State) (f : Fate (Unit {0})) →
    UnlessNone us (IsEnd tt k) (Then (Unit {0}) (Unit {0}) (B us k) (λ u. LoopOn T B us)) f → (j : ℕ) × UnlessNone us (IsEnd tt k)
    (Then (Unit {0}) (Unit {0}) (B us k) (λ u. TurnsOn j T B us)) f
fold_on T B [] k f q = (zero, q)
fold_on T B (v ∷ vs) k f (on q r) = (r.0, on q r.1)
fold_on T B (v ∷ vs) k f (at_fault q) = (zero, at_fault q)
fold_on T B (v ∷ vs) k f (at_start q) = (zero, at_start q)

fold_loop_on : (T : List ℕ → State → Fates (List Part)) (B : List ℕ → State → Does) (vs : List ℕ) (m : State) (f : Fate (Unit {0})) →
    TurnOn T B (LoopOn T B) vs m f → LoopOn T B vs m f
fold_loop_on T B vs m f (on {a = xs} {m = k} p q) = let g = fold_on T B (those true xs) k f q in (suc g.0, on p g.1)
fold_loop_on T B vs m f (at_fault p) = (suc zero, at_fault p)
fold_loop_on T B vs m f (at_start p) = (suc zero, at_start p)

unless_shows : (n : ℕ) (us : List ℕ) (P Q : Does) (b c : Done) → Shows n P b → Shows n Q c → Shows n (UnlessNone us P Q)
    (unless_none us b c)
unless_shows n [] P Q b c p q = p
unless_shows n (v ∷ vs) P Q b c p q = q

unless_comes : (n : ℕ) (us : List ℕ) (P Q : Does) (b c : Done) (f : Fate (Unit {0})) → (P f → Comes n b f) → (Q f → Comes n c f) →
    UnlessNone us P Q f → Comes n (unless_none us b c) f
unless_comes n [] P Q b c f p q r = p r
unless_comes n (v ∷ vs) P Q b c f p q r = q r

unless_grows : (k : State) (us : List ℕ) (P Q : Does) (f : Fate (Unit {0})) → (P f → k.count ≤ count_of f) → (Q f → k.count ≤ count_of f) →
    UnlessNone us P Q f → k.count ≤ count_of f
unless_grows k [] P Q f p q r = p r
unless_grows k (v ∷ vs) P Q f p q r = q r

abbrev CountsOn : (List ℕ → State → Fates (List Part)) → Type 0
CountsOn T = (vs : List ℕ) (m k : State) (xs : List Part) → T vs m (Ends xs k) → m.count < k.count

module _ (n : ℕ) (T : List ℕ → State → Fates (List Part)) (B : List ℕ → State → Does) (t : List ℕ → State → Behaviour (List Part))
    (b : List ℕ → State → Done)
    (at : (vs : List ℕ) → Agree (List Part) n (T vs) (t vs)) (ab : (vs : List ℕ) → Agree (Unit {0}) n (B vs) (b vs)) (ct : CountsOn T) where
  grows_on : (i : ℕ) (vs : List ℕ) → Grows (TurnsOn i T B vs)
  grows_on zero vs m f r = absurd r
  grows_on (suc i) vs m f r =
      grows_then m (T vs m) (λ xs m.
      UnlessNone (those true xs) (IsEnd tt m) (Then (Unit {0}) (Unit {0}) (B (those true xs) m) (λ u. TurnsOn i T B (those true xs))))
      ((at vs).grows m)
      (λ xs k f. unless_grows k (those true xs) (IsEnd tt k)
      (Then (Unit {0}) (Unit {0}) (B (those true xs) k) (λ u. TurnsOn i T B (those true xs))) f (end_grows tt k f)
      (grows_then k (B (those true xs) k) (λ u. TurnsOn i T B (those true xs)) ((ab (those true xs)).grows k)
      (λ u. grows_on i (those true xs)) f))
      f r

  shows_loop : (j : ℕ) (vs : List ℕ) (m : State) → n < j + m.count → m.count ≤ n → Shows n (LoopOn T B vs m) (turns_on j t b vs m)
  shows_loop zero vs m e h = absurd (omega arith)
  shows_loop (suc j) vs m e h =
      shows_map n (TurnOn T B (LoopOn T B) vs m) (LoopOn T B vs m) (turns_on (suc j) t b vs m) (fold_loop_on T B vs m)
      (shows_then n (T vs m) (λ xs m.
      UnlessNone (those true xs) (IsEnd tt m) (Then (Unit {0}) (Unit {0}) (B (those true xs) m) (λ u. LoopOn T B (those true xs))))
      (t vs m) (λ xs m. unless_none (those true xs) (Goes tt m) (then_do (b (those true xs) m) (λ u. turns_on j t b (those true xs))))
      ((at vs).shows m h)
      (λ xs k p hk. unless_shows n (those true xs) (IsEnd tt k)
      (Then (Unit {0}) (Unit {0}) (B (those true xs) k) (λ u. LoopOn T B (those true xs))) (Goes tt k)
      (then_do (b (those true xs) k) (λ u. turns_on j t b (those true xs)))
      (end_shows n tt k hk)
      (shows_then n (B (those true xs) k) (λ u. LoopOn T B (those true xs)) (b (those true xs) k) (λ u. turns_on j t b (those true xs))
      ((ab (those true xs)).shows k hk)
      (λ u l q hl. let c : m.count < k.count = ct vs m k xs p in let d : k.count ≤ l.count = (ab (those true xs)).grows k (Ends u l) q in
      shows_loop j (those true xs) l (omega arith) hl))))

  comes_loop : (i j : ℕ) (vs : List ℕ) (m : State) → n < j + m.count → m.count ≤ n → (f : Fate (Unit {0})) → TurnsOn i T B vs m f →
      Comes n (turns_on j t b vs m) f
  comes_loop zero j vs m e h f r = absurd r
  comes_loop (suc i) zero vs m e h f r = absurd (omega arith)
  comes_loop (suc i) (suc j) vs m e h f r =
      comes_then n (T vs m) (λ xs m.
      UnlessNone (those true xs) (IsEnd tt m) (Then (Unit {0}) (Unit {0}) (B (those true xs) m) (λ u. TurnsOn i T B (those true xs))))
      (t vs m) (λ xs m. unless_none (those true xs) (Goes tt m) (then_do (b (those true xs) m) (λ u. turns_on j t b (those true xs))))
      ((at vs).comes m h)
      (λ xs k f. unless_grows k (those true xs) (IsEnd tt k)
      (Then (Unit {0}) (Unit {0}) (B (those true xs) k) (λ u. TurnsOn i T B (those true xs))) f (end_grows tt k f)
      (grows_then k (B (those true xs) k) (λ u. TurnsOn i T B (those true xs)) ((ab (those true xs)).grows k)
      (λ u. grows_on i (those true xs)) f))
      (λ xs k p hk f. unless_comes n (those true xs) (IsEnd tt k)
      (Then (Unit {0}) (Unit {0}) (B (those true xs) k) (λ u. TurnsOn i T B (those true xs))) (Goes tt k)
      (then_do (b (those true xs) k) (λ u. turns_on j t b (those true xs))) f
      (end_comes n tt k f)
      (comes_then n (B (those true xs) k) (λ u. TurnsOn i T B (those true xs)) (b (those true xs) k) (λ u. turns_on j t b (those true xs))
      ((ab (those true xs)).comes k hk) (λ u. grows_on i (those true xs))
      (λ u l q hl. let c : m.count < k.count = ct vs m k xs p in let d : k.count ≤ l.count = (ab (those true xs)).grows k (Ends u l) q in
      comes_loop i j (those true xs) l (omega arith) hl) f))
      f r

  agree_loop_on : (vs : List ℕ) → Agree (Unit {0}) n (LoopOn T B vs) (turns_on (n + 1) t b vs)
  agree_loop_on vs = record {
    shows = λ m h. shows_loop (n + 1) vs m (omega arith) h;
    comes = λ m h f r. comes_loop r.0 (n + 1) vs m (omega arith) h f r.1;
    grows = λ m f r. grows_on r.0 vs m f r.1;
  }

-- a statement that comes to its end has counted
abbrev IsEnds : {A : Type 0} → Fate A → Type 0
IsEnds (Ends a m) = Unit {0}
IsEnds (relation.Stops k c out) = ⊥
IsEnds (relation.Reaches c out) = ⊥

begins_counts : {A : Type 0} (m : State) (R : State → Result A Fault) (f : Fate A) → Then (Unit {0}) A (Begins m)
    (λ u m. Yields A m (R m)) f → IsEnds f → m.count < count_of f
begins_counts {A} m R f (on begins q) is = let N : State → Fates A = λ m. Yields A m (R m) in let h : m.count + 1 ≤ count_of f =
    (agree_valued 0 R).grows (record m { count = m.count + 1 }) f q in omega arith
begins_counts m R f (at_fault p) is = absurd is
begins_counts m R f (at_start p) is = absurd is

evaluated_counts : {A : Type 0} (line : ℕ) (a : State → Attempt A) (m k : State) (v : A) → Evaluated line a m (Ends v k) → m.count < k.count
evaluated_counts line a m k v r = begins_counts m (λ m. alone line (a m)) (Ends v k) r tt

attempted_counts : (w : Checked) (line : ℕ) (a : View → Attempt Effect) → CountsOn (AttemptedOn w line a)
attempted_counts w line a vs m k xs r = begins_counts m (λ m. together w line (parts w m a vs)) (Ends xs k) r tt

tested_at : (w : Checked) (line : ℕ) (e : Expression) (m : State) (f : Fate Bool) → Tested w line e m f → IsEnds f → m.count < count_of f
tested_at w line e m f (on {a = v} {m = k} p q) is =
    let h : m.count < k.count = evaluated_counts line (λ m. attempt (seen w m) e []) m k v p in
    let i : k.count ≤ count_of f = end_grows (is_nonzero v) k f q in omega arith
tested_at w line e m f (at_fault p) is = absurd is
tested_at w line e m f (at_start p) is = absurd is

tested_counts : (w : Checked) (line : ℕ) (e : Expression) (m k : State) (z : Bool) → Tested w line e m (Ends z k) → m.count < k.count
tested_counts w line e m k z r = tested_at w line e m (Ends z k) r tt

-- ---- all statements

mutual
  agree_on : (w : Checked) (n : ℕ) (s : Step) (vs : List ℕ) → Agree (Unit {0}) n (MeansOn w s vs) (perform_on w n s vs)
  agree_on w n (step.Assign here x e) vs =
      agree_then n (AttemptedOn w here.line (λ s. attempt_step s x e) vs) (λ xs m. IsEnd tt (assigned_by w x xs m))
      (attempted_on w n here.line (λ s. attempt_step s x e) vs) (λ xs m. Goes tt (assigned_by w x xs m))
      (agree_attempted w n here.line (λ s. attempt_step s x e) vs) (λ xs. agree_end n (λ m. tt) (assigned_by w x xs) (set_count w x xs))
  agree_on w n (step.If' here e q a r b) vs =
      agree_then n (AttemptedOn w here.line (λ s. attempt_value s e) vs)
      (λ xs m. Then (Unit {0}) (Unit {0}) (MeansRowOn w a (those true xs) m)
      (λ u. MeansRowOn w b (those false xs)))
      (attempted_on w n here.line (λ s. attempt_value s e) vs)
      (λ xs m. then_do (perform_row_on w n a (those true xs) m) (λ u. perform_row_on w n b (those false xs)))
      (agree_attempted w n here.line (λ s. attempt_value s e) vs)
      (λ xs. agree_then n (MeansRowOn w a (those true xs)) (λ u. MeansRowOn w b (those false xs)) (perform_row_on w n a (those true xs))
      (λ u. perform_row_on w n b (those false xs)) (agree_row_on w n a (those true xs)) (λ u. agree_row_on w n b (those false xs)))
  agree_on w n (step.While' here e q body) vs =
      agree_loop_on n (AttemptedOn w here.line (λ s. attempt_value s e)) (MeansRowOn w body)
      (attempted_on w n here.line (λ s. attempt_value s e))
      (perform_row_on w n body)
      (agree_attempted w n here.line (λ s. attempt_value s e)) (agree_row_on w n body)
      (attempted_counts w here.line (λ s. attempt_value s e)) vs

  agree_row_on : (w : Checked) (n : ℕ) {k : _} (ss : Row_of-Step k) (vs : List ℕ) → Agree (Unit {0}) n (MeansRowOn w ss vs)
      (perform_row_on w n ss vs)
  agree_row_on w n end_of-Step vs = agree_end n (λ m. tt) (λ m. m) (λ m. refl)
  agree_row_on w n (more_of-Step s ss) vs =
      agree_then n (MeansOn w s vs) (λ u. MeansRowOn w ss vs) (perform_on w n s vs) (λ u. perform_row_on w n ss vs) (agree_on w n s vs)
      (λ u. agree_row_on w n ss vs)

agree_list_on : (w : Checked) (n : ℕ) (ss : List Step) (vs : List ℕ) → Agree (Unit {0}) n (MeansListOn w ss vs) (perform_list_on w n ss vs)
agree_list_on w n [] vs = agree_end n (λ m. tt) (λ m. m) (λ m. refl)
agree_list_on w n (s ∷ ss) vs =
    agree_then n (MeansOn w s vs) (λ u. MeansListOn w ss vs) (perform_on w n s vs) (λ u. perform_list_on w n ss vs) (agree_on w n s vs)
    (λ u. agree_list_on w n ss vs)

agree_pardo : (w : Checked) (n locals : ℕ) (body : List Step) (a : ℤ) (k : ℕ) → Agree (Unit {0}) n (PardoDone w locals body a k)
    (pardo_done w n locals body a k)
agree_pardo w n locals body a k =
    agree_then n (λ m. MeansListOn w body (numbers 0 k) (with_team a k locals m)) (λ u m. IsEnd tt (without_team m))
    (λ m. perform_list_on w n body (numbers 0 k) (with_team a k locals m)) (λ u m. Goes tt (without_team m))
    (agree_after n (with_team a k locals) (λ m. refl) (MeansListOn w body (numbers 0 k)) (perform_list_on w n body (numbers 0 k))
    (agree_list_on w n body (numbers 0 k)))
    (λ u. agree_end n (λ m. tt) without_team (λ m. refl))

mutual
  agree : (w : Checked) (n : ℕ) (s : Statement) → Agree (Unit {0}) n (Means w s) (perform w n s)
  agree w n (Assign here x e) =
      agree_then n (Evaluated here.line (λ m. attempt_assign (seen w m) x e)) (λ g m. IsEnd tt (assigned x g m))
      (evaluated n here.line (λ m. attempt_assign (seen w m) x e)) (λ g m. Goes tt (assigned x g m))
      (agree_evaluated n here.line (λ m. attempt_assign (seen w m) x e)) (λ g. agree_end n (λ m. tt) (assigned x g) (assigned_count x g))
  agree w n (Print here e) =
      agree_then n (Evaluated here.line (λ m. attempt (seen w m) e [])) (λ v m. IsEnd tt (printed v m)) (found w n here.line e)
      (λ v m. Goes tt (printed v m))
      (agree_evaluated n here.line (λ m. attempt (seen w m) e [])) (λ v. agree_end n (λ m. tt) (printed v) (λ m. refl))
  agree w n (While' here e q body) =
      agree_loop n (Tested w here.line e) (MeansRow w body) (tested w n here.line e) (perform_row w n body) (agree_tested w n here.line e)
      (agree_row w n body) (tested_counts w here.line e)
  agree w n (If' here e q a r b) =
      agree_then n (Tested w here.line e) (λ z m. Either z (MeansRow w a m) (MeansRow w b m)) (tested w n here.line e)
      (λ z m. if z then perform_row w n a m else perform_row w n b m)
      (agree_tested w n here.line e) (λ z. agree_either n z (MeansRow w a) (MeansRow w b) (perform_row w n a) (perform_row w n b)
      (agree_row w n a) (agree_row w n b))
  agree w n (For' here x e g q body) =
      agree_then n (Evaluated here.line (λ m. attempt_bounds (seen w m) e g)) (λ r. ForTurns (width r.0 r.1) x r.0 (MeansRow w body))
      (evaluated n here.line (λ m. attempt_bounds (seen w m) e g)) (λ r. for_turns n (width r.0 r.1) x r.0 (perform_row w n body))
      (agree_evaluated n here.line (λ m. attempt_bounds (seen w m) e g))
      (λ r. agree_for n (width r.0 r.1) x r.0 (MeansRow w body) (perform_row w n body) (agree_row w n body))
  agree w n (Pardo here e g locals body) =
      agree_then n (Evaluated here.line (λ m. attempt_range w.procs (seen w m) e g)) (λ r. PardoDone w locals body.items r.0 r.1)
      (evaluated n here.line (λ m. attempt_range w.procs (seen w m) e g)) (λ r. pardo_done w n locals body.items r.0 r.1)
      (agree_evaluated n here.line (λ m. attempt_range w.procs (seen w m) e g)) (λ r. agree_pardo w n locals body.items r.0 r.1)

  agree_row : (w : Checked) (n : ℕ) {k : _} (ss : Row_of-Statement k) → Agree (Unit {0}) n (MeansRow w ss) (perform_row w n ss)
  agree_row w n end_of-Statement = agree_end n (λ m. tt) (λ m. m) (λ m. refl)
  agree_row w n (more_of-Statement s ss) =
      agree_then n (Means w s) (λ u. MeansRow w ss) (perform w n s) (λ u. perform_row w n ss) (agree w n s) (λ u. agree_row w n ss)

pub agree_list : (w : Checked) (n : ℕ) (ss : List Statement) → Agree (Unit {0}) n (MeansList w ss) (perform_list w n ss)
agree_list w n [] = agree_end n (λ m. tt) (λ m. m) (λ m. refl)
agree_list w n (s ∷ ss) = agree_then n (Means w s) (λ u. MeansList w ss) (perform w n s) (λ u. perform_list w n ss) (agree w n s)
    (λ u. agree_list w n ss)
