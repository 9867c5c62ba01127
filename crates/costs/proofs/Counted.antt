-- In a run that doesn't fault what the events take is what the reads and writes take: by one recursion over statements.
use Rattle.std.proofs.Common.{◌≡◌, ℕ, zero, suc, ◌+◌, ℤ, pos, ◌+ℤ◌, List, [], ◌∷◌, ◌++◌, Bool, true, false, if◌then◌else◌, nat_lt}
use Rattle.std.proofs.Common.{Option, Some, None, refl, sym, subst}
use Rattle.std.specs.List.{AllByRecursion}
use Rattle.pram_tokens.specs.declared.token.Location.{Location}
use Rattle.pram_model.specs.Layout.{width}
use Rattle.pram_check.specs.Checked.{Checked}
use Rattle.pram_names.specs.declared.body.Expression.{Expression}
use Rattle.pram_names.specs.declared.body.Statement.{Statement, Assign, Print, While', If', For', Pardo, Row_of-Statement, end_of-Statement}
use Rattle.pram_names.specs.declared.body.Statement.{more_of-Statement}
use Rattle.pram_names.specs.declared.body.Step as step
use Rattle.pram_names.specs.declared.body.Step.{Step, Row_of-Step, end_of-Step, more_of-Step}
use Rattle.pram_values.specs.Truth.{is_nonzero}
use Rattle.pram_meaning.specs.declared.key.Key.{Key}
use Rattle.pram_meaning.specs.Attempt.{Attempt, Effect, Gives, Fails, Trail, attempt, attempt_assign, attempt_bounds, attempt_range}
use Rattle.pram_meaning.specs.Attempt.{attempt_step, attempt_value}
use Rattle.pram_meaning.specs.Bounded.{Behaviour, Done, Goes, Reaches, Stops, attempted_on, counted, evaluated, for_turns, found}
use Rattle.pram_meaning.specs.Bounded.{pardo_done}
use Rattle.pram_meaning.specs.Bounded.{perform, perform_list, perform_list_on, perform_on, perform_row, perform_row_on, tested, tested_on}
use Rattle.pram_meaning.specs.Bounded.{then_do, turns, turns_on, unless_none, valued}
use Rattle.pram_meaning.specs.Conflict.{Part, keys, least}
use Rattle.pram_meaning.specs.Moments.{Action, Alone, Assigns, AssignsOn, Bounds, Chooses, ChoosesOn, Closed, Moment, Prints, Ranges, Sets}
use Rattle.pram_meaning.specs.Moments.{StepAction, Turns, TurnsOn, alone_moment, behind, by_set, closing, for_turns_moments, goes_to}
use Rattle.pram_meaning.specs.Moments.{if_any, inner_list_moments, inner_moments, inner_row_moments, left_by, list_moments, moments}
use Rattle.pram_meaning.specs.Moments.{nowhere, print_moment, assign_moment, range_moment, bounds_moment, row_moments}
use Rattle.pram_meaning.specs.Moments.{set_moment, set_test_moment, set_assign_moment, setting_moment, test_moment, turns_moments}
use Rattle.pram_meaning.specs.Moments.{turns_on_moments, unchanged, writing}
use Rattle.pram_meaning.specs.Store.{State, View, numbers, printed, seen, with_team, with_uniform, without_team}
use Rattle.pram_meaning.specs.Together.{alone, assigned, assigned_by, on_key, parts, those, together}
use Rattle.costs.specs.Steps.{reads_on, writes_to}
use Rattle.costs.proofs.AttemptReads.{Reads, Makes, assign_makes, step_makes, value_makes, test_reads, bounds_reads, range_reads}
use Rattle.costs.proofs.EvenMoments.{IsEven, alone_even, set_even, closed_even, action_reads, action_writes, step_reads, step_writes}

module _ (workers write : ℕ) where
  abbrev Even : List Moment → Type 0
  Even = AllByRecursion (IsEven workers write)

  even_join : (xs ys : List Moment) → Even xs → Even ys → Even (xs ++ ys)
  even_join [] ys a b = b
  even_join (x ∷ xs) ys a b = (a.0, even_join xs ys a.1 b)

  -- a part of a run that doesn't fault
  abbrev pub Counts : {A : Type 0} → List Moment → Behaviour A → Type 0
  Counts ms (Goes a m) = Even ms
  Counts ms (Stops k out) = Unit {0}
  Counts ms (Reaches out) = Even ms

  joined : {B : Type 0} (ms ns : List Moment) (b : Behaviour B) → Even ms → Counts ns b → Counts (ms ++ ns) b
  joined ms ns (Goes a m) x y = even_join ms ns x y
  joined ms ns (Stops k out) x y = tt
  joined ms ns (Reaches out) x y = even_join ms ns x y

  counted_then : {A B : Type 0} (ms : List Moment) (b : Behaviour A) (h : A → State → List Moment) (g : A → State → Behaviour B) →
      Counts ms b → ((a : A) (m : State) → Counts (h a m) (g a m)) → Counts (ms ++ behind b h) (then_do b g)
  counted_then ms (Goes a m) h g c u = joined ms (h a m) (g a m) c (u a m)
  counted_then ms (Stops k out) h g c u = tt
  counted_then ms (Reaches out) h g c u = even_join ms [] c tt

  counted_map : {A B : Type 0} (ms : List Moment) (b : Behaviour A) (f : A → State → B) (h : A → State → State) → Counts ms b →
      Counts ms (then_do b (λ a m. Goes (f a m) (h a m)))
  counted_map ms (Goes a m) f h c = c
  counted_map ms (Stops k out) f h c = tt
  counted_map ms (Reaches out) f h c = c

  counted_closing : {A : Type 0} (ms : List Moment) (b : Behaviour A) → Counts ms b → Counts (closing ms) b
  counted_closing ms (Goes a m) c = even_join ms (Closed ∷ []) c (closed_even workers write, tt)
  counted_closing ms (Stops k out) c = tt
  counted_closing ms (Reaches out) c = even_join ms (Closed ∷ []) c (closed_even workers write, tt)

  counted_either : {A : Type 0} (b : Bool) (ms ns : List Moment) (d e : Behaviour A) → Counts ms d → Counts ns e →
      Counts (if b then ms else ns) (if b then d else e)
  counted_either true ms ns d e x y = x
  counted_either false ms ns d e x y = y

  counted_any : (vs : List ℕ) (ms : List Moment) (m : State) (d : Done) → Counts ms d → Counts (if_any vs ms) (unless_none vs (Goes tt m) d)
  counted_any [] ms m d c = tt
  counted_any (v ∷ vs) ms m d c = c

  -- ---- one statement

  alone_counts : {A : Type 0} (n : ℕ) (here : Location) (act : Action) (wrote : A → Option ℕ) (left : A → State → State)
      (a : State → Attempt A) → ((m : State) (t : Trail) (x : A) → a m ≡ Gives t x →
      (reads_on t ≡ action_reads act) × (writes_to (wrote x) ≡ action_writes act)) → (m : State) →
      Counts (alone_moment n here act wrote left a m) (evaluated n here.line a m)
  alone_counts n here act wrote left a h m = by (nat_lt m.count n)
    where
      next : State
      next = record m { count = m.count + 1 }

      come : (x : Attempt _) → a next ≡ x →
          Counts (Alone here act next (writing wrote x) (left_by left x next) ∷ []) (valued (alone here.line x) next)
      come (Gives t x) e =
          let k = h next t x e in (alone_even workers write here act next (left x next) t (wrote x) k.0 k.1, tt)
      come (Fails t k) e = tt

      by : (b : Bool) → Counts
          (behind {A = Unit {0}} (if b then Goes tt next else Reaches m.output)
          (λ u m. Alone here act m (writing wrote (a m)) (left_by left (a m) m) ∷ []))
          (then_do {A = Unit {0}} (if b then Goes tt next else Reaches m.output) (λ u m. valued (alone here.line (a m)) m))
      by true = come (a next) refl
      by false = tt

  -- of an attempt with so many reads that writes no cell
  value_counts : {A : Type 0} (n : ℕ) (here : Location) (act : Action) (left : A → State → State) (a : State → Attempt A) →
      action_writes act ≡ 0 → ((m : State) → Reads (action_reads act) (a m)) → (m : State) →
      Counts (alone_moment n here act nowhere left a m) (evaluated n here.line a m)
  value_counts n here act left a none h m =
      alone_counts n here act nowhere left a
      (λ m t x e. (let k : Reads (action_reads act) (Gives t x) = subst (Reads (action_reads act)) e (h m) in k, sym none)) m

  set_counts : (p : Checked) (n : ℕ) (here : Location) (act : StepAction) (left : List Part → State → State) (a : View → Attempt Effect) →
      ((s : View) → Makes (step_reads act) (step_writes act) (a s)) → (vs : List ℕ) (m : State) →
      Counts (set_moment p n here act left a vs m) (attempted_on p n here.line a vs m)
  set_counts p n here act left a makes vs m = by (nat_lt m.count n)
    where
      next : State
      next = record m { count = m.count + 1 }

      xs : List Part
      xs = parts p next a vs

      come : (k : Option Key) → least (keys p.rule xs) ≡ k →
          Counts (by_set here act left next xs k ∷ []) (valued (on_key here.line k xs) next)
      come None e = (set_even workers write p here act next next (left xs next) a makes vs e, tt)
      come (Some k) e = tt

      by : (b : Bool) → Counts
          (behind {A = Unit {0}} (if b then Goes tt next else Reaches m.output)
          (λ u m. by_set here act left m (parts p m a vs) (least (keys p.rule (parts p m a vs))) ∷ []))
          (then_do {A = Unit {0}} (if b then Goes tt next else Reaches m.output)
          (λ u m. valued (together p here.line (parts p m a vs)) m))
      by true = come (least (keys p.rule xs)) refl
      by false = tt

  -- ---- inside pardo

  turns_on_count : (k : ℕ) (head : List ℕ → State → List Moment) (test : List ℕ → State → Behaviour (List Part))
      (told : List ℕ → State → List Moment) (body : List ℕ → State → Done) →
      ((vs : List ℕ) (m : State) → Counts (head vs m) (test vs m)) → ((vs : List ℕ) (m : State) → Counts (told vs m) (body vs m)) →
      (vs : List ℕ) (m : State) → Counts (turns_on_moments k head test told body vs m) (turns_on k test body vs m)
  turns_on_count zero head test told body h i vs m = tt
  turns_on_count (suc k) head test told body h i vs m =
      counted_then (head vs m) (test vs m)
      (λ xs m. if_any (those true xs) (told (those true xs) m
      ++ behind (body (those true xs) m) (λ u. turns_on_moments k head test told body (those true xs))))
      (λ xs m. unless_none (those true xs) (Goes tt m) (then_do (body (those true xs) m) (λ u. turns_on k test body (those true xs))))
      (h vs m)
      (λ xs m. counted_any (those true xs)
      (told (those true xs) m ++ behind (body (those true xs) m) (λ u. turns_on_moments k head test told body (those true xs))) m
      (then_do (body (those true xs) m) (λ u. turns_on k test body (those true xs)))
      (counted_then (told (those true xs) m) (body (those true xs) m) (λ u. turns_on_moments k head test told body (those true xs))
      (λ u. turns_on k test body (those true xs)) (i (those true xs) m)
      (λ u m. turns_on_count k head test told body h i (those true xs) m)))

  module _ (p : Checked) (n : ℕ) where
    test_on_counts : (here : Location) (act : StepAction) (e : Expression) →
        ((s : View) → Makes (step_reads act) (step_writes act) (attempt_value s e)) → (vs : List ℕ) (m : State) →
        Counts (set_test_moment p n here act e vs m) (tested_on p n here.line e vs m)
    test_on_counts here act e makes vs m = set_counts p n here act unchanged (λ s. attempt_value s e) makes vs m

    mutual
      inner_counts : (s : Step) (vs : List ℕ) (m : State) → Counts (inner_moments p n s vs m) (perform_on p n s vs m)
      inner_counts (step.Assign here x e) vs m =
          counted_map (set_assign_moment p n here x e vs m) (attempted_on p n here.line (λ s. attempt_step s x e) vs m) (λ xs m. tt)
          (λ xs m. assigned_by p x xs m)
          (set_counts p n here (AssignsOn x e) (assigned_by p x) (λ s. attempt_step s x e) (λ s. step_makes s x e) vs m)
      inner_counts (step.If' here e q a r b) vs m =
          counted_then (set_test_moment p n here (ChoosesOn e) e vs m) (tested_on p n here.line e vs m)
          (λ xs m. inner_row_moments p n a (those true xs) m
          ++ behind (perform_row_on p n a (those true xs) m) (λ u. inner_row_moments p n b (those false xs)))
          (λ xs m. then_do (perform_row_on p n a (those true xs) m) (λ u. perform_row_on p n b (those false xs)))
          (test_on_counts here (ChoosesOn e) e (λ s. value_makes s e (step_reads (ChoosesOn e)) refl) vs m)
          (λ xs m. counted_then (inner_row_moments p n a (those true xs) m) (perform_row_on p n a (those true xs) m)
          (λ u. inner_row_moments p n b (those false xs)) (λ u. perform_row_on p n b (those false xs))
          (inner_row_counts a (those true xs) m) (λ u m. inner_row_counts b (those false xs) m))
      inner_counts (step.While' here e q body) vs m =
          turns_on_count (n + 1) (set_test_moment p n here (TurnsOn e) e) (tested_on p n here.line e) (inner_row_moments p n body)
          (perform_row_on p n body)
          (λ vs m. test_on_counts here (TurnsOn e) e (λ s. value_makes s e (step_reads (TurnsOn e)) refl) vs m)
          (λ vs m. inner_row_counts body vs m) vs m

      inner_row_counts : {k : _} (ss : Row_of-Step k) (vs : List ℕ) (m : State) →
          Counts (inner_row_moments p n ss vs m) (perform_row_on p n ss vs m)
      inner_row_counts end_of-Step vs m = tt
      inner_row_counts (more_of-Step s ss) vs m =
          counted_then (inner_moments p n s vs m) (perform_on p n s vs m) (λ u. inner_row_moments p n ss vs)
          (λ u. perform_row_on p n ss vs) (inner_counts s vs m) (λ u m. inner_row_counts ss vs m)

    inner_list_counts : (ss : List Step) (vs : List ℕ) (m : State) →
        Counts (inner_list_moments p n ss vs m) (perform_list_on p n ss vs m)
    inner_list_counts [] vs m = tt
    inner_list_counts (s ∷ ss) vs m =
        counted_then (inner_moments p n s vs m) (perform_on p n s vs m) (λ u. inner_list_moments p n ss vs)
        (λ u. perform_list_on p n ss vs) (inner_counts s vs m) (λ u m. inner_list_counts ss vs m)

  -- ---- outside pardo

  turns_count : (k : ℕ) (head : State → List Moment) (test : State → Behaviour Bool) (told : State → List Moment) (body : State → Done) →
      ((m : State) → Counts (head m) (test m)) → ((m : State) → Counts (told m) (body m)) → (m : State) →
      Counts (turns_moments k head test told body m) (turns k test body m)
  turns_count zero head test told body h i m = tt
  turns_count (suc k) head test told body h i m =
      counted_then (head m) (test m)
      (λ b m. if b then told m ++ behind (body m) (λ u. turns_moments k head test told body) else [])
      (λ b m. if b then then_do (body m) (λ u. turns k test body) else Goes tt m) (h m)
      (λ b m. counted_either b (told m ++ behind (body m) (λ u. turns_moments k head test told body)) []
      (then_do (body m) (λ u. turns k test body)) (Goes tt m)
      (counted_then (told m) (body m) (λ u. turns_moments k head test told body) (λ u. turns k test body) (i m)
      (λ u m. turns_count k head test told body h i m)) tt)

  setting_counts : (n : ℕ) (here : Location) (x : ℕ) (a : ℤ) (m : State) → Counts (setting_moment n here x a m) (counted n m)
  setting_counts n here x a m = by (nat_lt m.count n)
    where
      next : State
      next = record m { count = m.count + 1 }

      by : (b : Bool) → Counts
          (behind {A = Unit {0}} (if b then Goes tt next else Reaches m.output)
          (λ u m. Alone here (Sets x) m (Gives [] None) (with_uniform x a m) ∷ []))
          (let d : Done = if b then Goes tt next else Reaches m.output in d)
      by true = (alone_even workers write here (Sets x) next (with_uniform x a next) [] None refl refl, tt)
      by false = tt

  for_count : (n : ℕ) (here : Location) (k x : ℕ) (a : ℤ) (told : State → List Moment) (body : State → Done) →
      ((m : State) → Counts (told m) (body m)) → (m : State) →
      Counts (for_turns_moments n here k x a told body m) (for_turns n k x a body m)
  for_count n here zero x a told body i m = tt
  for_count n here (suc k) x a told body i m =
      counted_then (setting_moment n here x a m) (counted n m)
      (λ u m. closing (told (with_uniform x a m))
      ++ behind (body (with_uniform x a m)) (λ u. for_turns_moments n here k x (a +ℤ pos 1) told body))
      (λ u m. then_do (body (with_uniform x a m)) (λ u. for_turns n k x (a +ℤ pos 1) body)) (setting_counts n here x a m)
      (λ u m. counted_then (closing (told (with_uniform x a m))) (body (with_uniform x a m))
      (λ u. for_turns_moments n here k x (a +ℤ pos 1) told body) (λ u. for_turns n k x (a +ℤ pos 1) body)
      (counted_closing (told (with_uniform x a m)) (body (with_uniform x a m)) (i (with_uniform x a m)))
      (λ u m. for_count n here k x (a +ℤ pos 1) told body i m))

  module _ (p : Checked) (n : ℕ) where
    tested_counts : (here : Location) (act : Action) (e : Expression) → action_writes act ≡ 0 →
        ((m : State) → Reads (action_reads act) (attempt (seen p m) e [])) → (m : State) →
        Counts (test_moment p n here act e m) (tested p n here.line e m)
    tested_counts here act e none h m =
        counted_map (test_moment p n here act e m) (found p n here.line e m) (λ v m. is_nonzero v) (λ v m. m)
        (value_counts n here act unchanged (λ m. attempt (seen p m) e []) none h m)

    assign_counts : (here : Location) (x : _) (e : Expression) (m : State) →
        Counts (assign_moment p n here x e m) (evaluated n here.line (λ m. attempt_assign (seen p m) x e) m)
    assign_counts here x e m =
        alone_counts n here (Assigns x e) goes_to (assigned x) (λ m. attempt_assign (seen p m) x e)
        (λ m t g is. subst (Makes (action_reads (Assigns x e)) (action_writes (Assigns x e))) is (assign_makes (seen p m) x e)) m

    mutual
      statement_counts : (s : Statement) (m : State) → Counts (moments p n s m) (perform p n s m)
      statement_counts (Assign here x e) m =
          counted_map (assign_moment p n here x e m) (evaluated n here.line (λ m. attempt_assign (seen p m) x e) m) (λ g m. tt)
          (λ g m. assigned x g m) (assign_counts here x e m)
      statement_counts (Print here e) m =
          counted_map (print_moment p n here e m) (found p n here.line e m) (λ v m. tt) (λ v m. printed v m)
          (value_counts n here (Prints e) printed (λ m. attempt (seen p m) e []) refl (λ m. test_reads (seen p m) e) m)
      statement_counts (While' here e q body) m =
          turns_count (n + 1) (test_moment p n here (Turns e) e) (tested p n here.line e) (row_moments p n body) (perform_row p n body)
          (λ m. tested_counts here (Turns e) e refl (λ m. test_reads (seen p m) e) m) (λ m. row_counts body m) m
      statement_counts (If' here e q a r b) m =
          counted_then (test_moment p n here (Chooses e) e m) (tested p n here.line e m)
          (λ z m. closing (if z then row_moments p n a m else row_moments p n b m))
          (λ z m. if z then perform_row p n a m else perform_row p n b m)
          (tested_counts here (Chooses e) e refl (λ m. test_reads (seen p m) e) m)
          (λ z m. counted_closing (if z then row_moments p n a m else row_moments p n b m)
          (if z then perform_row p n a m else perform_row p n b m)
          (counted_either z (row_moments p n a m) (row_moments p n b m) (perform_row p n a m) (perform_row p n b m) (row_counts a m)
          (row_counts b m)))
      statement_counts (For' here x e f q body) m =
          counted_then (bounds_moment p n here e f m) (evaluated n here.line (λ m. attempt_bounds (seen p m) e f) m)
          (λ r. for_turns_moments n here (width r.0 r.1) x r.0 (row_moments p n body) (perform_row p n body))
          (λ r. for_turns n (width r.0 r.1) x r.0 (perform_row p n body))
          (value_counts n here (Bounds e f) unchanged (λ m. attempt_bounds (seen p m) e f) refl (λ m. bounds_reads (seen p m) e f) m)
          (λ r m. for_count n here (width r.0 r.1) x r.0 (row_moments p n body) (perform_row p n body) (λ m. row_counts body m) m)
      statement_counts (Pardo here e f locals body) m =
          counted_then (range_moment p n here e f m) (evaluated n here.line (λ m. attempt_range p.procs (seen p m) e f) m)
          (λ r m. inner_list_moments p n body.items (numbers 0 r.1) (with_team r.0 r.1 locals m))
          (λ r m. pardo_done p n locals body.items r.0 r.1 m)
          (value_counts n here (Ranges e f) unchanged (λ m. attempt_range p.procs (seen p m) e f) refl
          (λ m. range_reads (seen p m) p.procs e f) m)
          (λ r m. counted_map (inner_list_moments p n body.items (numbers 0 r.1) (with_team r.0 r.1 locals m))
          (perform_list_on p n body.items (numbers 0 r.1) (with_team r.0 r.1 locals m)) (λ u m. tt) (λ u m. without_team m)
          (inner_list_counts p n body.items (numbers 0 r.1) (with_team r.0 r.1 locals m)))

      row_counts : {k : _} (ss : Row_of-Statement k) (m : State) → Counts (row_moments p n ss m) (perform_row p n ss m)
      row_counts end_of-Statement m = tt
      row_counts (more_of-Statement s ss) m =
          counted_then (moments p n s m) (perform p n s m) (λ u. row_moments p n ss) (λ u. perform_row p n ss) (statement_counts s m)
          (λ u m. row_counts ss m)

    pub list_counts : (ss : List Statement) (m : State) → Counts (list_moments p n ss m) (perform_list p n ss m)
    list_counts [] m = tt
    list_counts (s ∷ ss) m =
        counted_then (moments p n s m) (perform p n s m) (λ u. list_moments p n ss) (λ u. perform_list p n ss) (statement_counts s m)
        (λ u m. list_counts ss m)
