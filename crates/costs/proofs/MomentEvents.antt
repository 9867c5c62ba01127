-- The events of a run are those of its moments: by one recursion over statements.
use Rattle.std.proofs.Common.{◌≡◌, ℕ, zero, suc, ◌+◌, ℤ, pos, ◌+ℤ◌, List, [], ◌∷◌, ◌++◌, Bool, true, false, if◌then◌else◌, nat_lt}
use Rattle.std.proofs.Common.{Option, Some, None, length, refl, ap, sym, ◌∙◌, append_assoc, append-nil}
use Rattle.std.proofs.lemmas.Grind.{flat_map-append}
use Rattle.std.proofs.lemmas.List.{length-map}
use Rattle.std.specs.List.{flat_map}
use Rattle.pram_tokens.specs.declared.token.Location.{Location}
use Rattle.pram_model.specs.Layout.{width}
use Rattle.pram_check.specs.Checked.{Checked}
use Rattle.pram_names.specs.declared.body.Statement.{Statement, Assign, Print, While', If', For', Pardo, Row_of-Statement, end_of-Statement}
use Rattle.pram_names.specs.declared.body.Statement.{more_of-Statement}
use Rattle.pram_names.specs.declared.body.Step as step
use Rattle.pram_names.specs.declared.body.Step.{Step, Row_of-Step, end_of-Step, more_of-Step}
use Rattle.pram_meaning.specs.declared.key.Key.{Key}
use Rattle.pram_meaning.specs.Attempt.{Attempt, Effect, Gives, attempt, attempt_assign, attempt_bounds, attempt_range, attempt_step}
use Rattle.pram_meaning.specs.Attempt.{attempt_value}
use Rattle.pram_meaning.specs.Bounded.{Behaviour, Done, Goes, Reaches, Stops, counted, evaluated, perform, perform_on, perform_row}
use Rattle.pram_meaning.specs.Bounded.{perform_row_on, tested, tested_on}
use Rattle.pram_meaning.specs.Conflict.{Part, keys, least}
use Rattle.pram_meaning.specs.Moments.{Action, Alone, Assigns, AssignsOn, Bounds, Chooses, ChoosesOn, Closed, Moment, Prints, Ranges, Sets}
use Rattle.pram_meaning.specs.Moments.{StepAction, Turns, TurnsOn, alone_moment, begun, behind, by_set, closing, for_turns_moments, goes_to}
use Rattle.pram_meaning.specs.Moments.{if_any, inner_list_moments, inner_moments, inner_row_moments, left_by, list_moments, moments}
use Rattle.pram_meaning.specs.Moments.{bounds_moment, nowhere, range_moment, row_moments, run_moments}
use Rattle.pram_meaning.specs.Moments.{set_moment, set_test_moment, setting_moment, test_moment, turns_moments, turns_on_moments, unchanged}
use Rattle.pram_meaning.specs.Moments.{writing}
use Rattle.pram_meaning.specs.Outcome.{opening}
use Rattle.pram_meaning.specs.Store.{State, View, numbers, printed, seen, with_team, with_uniform}
use Rattle.pram_meaning.specs.Together.{assigned, assigned_by, part_of, parts, those}
use Rattle.exchange_bound.specs.Events.{Cut, Event, Runs, events, events_of, for_events, levels, list_events, row_events, step_events}
use Rattle.exchange_bound.specs.Events.{step_row_events, steps_events, turns_events, turns_on_events}
use Rattle.exchange_bound.specs.Events as event
use Rattle.costs.specs.MomentEvents.{alone_events, events_at, set_events}

abbrev met : List Moment → List Event
met = flat_map events_at

-- ---- parts of a run

-- a statement that the bound lets begin
begun_met : (n : ℕ) (m : State) (f : State → Moment) (es : List Event) → ((m : State) → events_at (f m) ≡ es) →
    event.begun n m es ≡ met (begun n m f)
begun_met n m f es h = by (nat_lt m.count n) where
  by : (b : Bool) → (if b then es else [])
      ≡ met (behind {A = Unit {0}} (if b then Goes tt (record m { count = m.count + 1 }) else Reaches m.output) (λ u m. f m ∷ []))
  by true = sym (append-nil es) ∙ ap (λ es. es ++ []) (sym (h (record m { count = m.count + 1 })))
  by false = refl

behind_met : {A : Type 0} (b : Behaviour A) (f : A → State → List Event) (g : A → State → List Moment) →
    ((a : A) (m : State) → f a m ≡ met (g a m)) → event.behind b f ≡ met (behind b g)
behind_met (Goes a m) f g h = h a m
behind_met (Stops k out) f g h = refl
behind_met (Reaches out) f g h = refl

then_met : {A : Type 0} (es : List Event) (ms : List Moment) (b : Behaviour A) (f : A → State → List Event) (g : A → State → List Moment) →
    es ≡ met ms → ((a : A) (m : State) → f a m ≡ met (g a m)) → es ++ event.behind b f ≡ met (ms ++ behind b g)
then_met es ms b f g e h =
    ap (λ es. es ++ event.behind b f) e ∙ ap (λ fs. met ms ++ fs) (behind_met b f g h) ∙ sym (flat_map-append events_at ms (behind b g))

-- a block that closes
closing_met : (es : List Event) (ms : List Moment) → es ≡ met ms → es ++ Cut ∷ [] ≡ met (closing ms)
closing_met es ms e = ap (λ es. es ++ Cut ∷ []) e ∙ sym (flat_map-append events_at ms (Closed ∷ []))

closed_met : {A : Type 0} (es : List Event) (ms : List Moment) (b : Behaviour A) (f : A → State → List Event)
    (g : A → State → List Moment) → es ≡ met ms → ((a : A) (m : State) → f a m ≡ met (g a m)) →
    es ++ Cut ∷ event.behind b f ≡ met (closing ms ++ behind b g)
closed_met es ms b f g e h =
    sym (append_assoc es (Cut ∷ []) (event.behind b f)) ∙ then_met (es ++ Cut ∷ []) (closing ms) b f g (closing_met es ms e) h

either_met : (b : Bool) (es fs : List Event) (ms ns : List Moment) → es ≡ met ms → fs ≡ met ns →
    (if b then es else fs) ≡ met (if b then ms else ns)
either_met true es fs ms ns e f = e
either_met false es fs ms ns e f = f

any_met : (vs : List ℕ) (es : List Event) (ms : List Moment) → es ≡ met ms → event.if_any vs es ≡ met (if_any vs ms)
any_met [] es ms e = refl
any_met (v ∷ vs) es ms e = e

-- ---- one statement

alone_met : {A : Type 0} (n : ℕ) (here : Location) (act : Action) (write : A → Option ℕ) (left : A → State → State) (a : State → Attempt A)
    (m : State) → event.begun n m (alone_events act) ≡ met (alone_moment n here act write left a m)
alone_met n here act write left a m =
    begun_met n m (λ m. Alone here act m (writing write (a m)) (left_by left (a m) m)) (alone_events act) (λ m. refl)

on_key_met : (here : Location) (act : StepAction) (left : List Part → State → State) (m : State) (xs : List Part) (k : Option Key) →
    events_at (by_set here act left m xs k) ≡ set_events (length xs) act
on_key_met here act left m xs None = refl
on_key_met here act left m xs (Some k) = refl

set_met : (p : Checked) (n : ℕ) (here : Location) (act : StepAction) (left : List Part → State → State) (a : View → Attempt Effect)
    (vs : List ℕ)
    (m : State) → event.begun n m (set_events (length vs) act) ≡ met (set_moment p n here act left a vs m)
set_met p n here act left a vs m =
    begun_met n m (λ m. by_set here act left m (parts p m a vs) (least (keys p.rule (parts p m a vs)))) (set_events (length vs) act)
    (λ m. on_key_met here act left m (parts p m a vs) (least (keys p.rule (parts p m a vs)))
    ∙ ap (λ k. set_events k act) (length-map vs (part_of p m a)))

-- ---- inside pardo

turns_on_met : (k : ℕ) (head : List ℕ → State → List Event) (heard : List ℕ → State → List Moment)
    (test : List ℕ → State → Behaviour (List Part))
    (body : List ℕ → State → Done) (inside : List ℕ → State → List Event) (told : List ℕ → State → List Moment) →
    ((vs : List ℕ) (m : State) → head vs m ≡ met (heard vs m)) → ((vs : List ℕ) (m : State) → inside vs m ≡ met (told vs m)) →
    (vs : List ℕ) (m : State) → turns_on_events k head test body inside vs m ≡ met (turns_on_moments k heard test told body vs m)
turns_on_met zero head heard test body inside told h i vs m = refl
turns_on_met (suc k) head heard test body inside told h i vs m =
    then_met (head vs m) (heard vs m) (test vs m)
    (λ xs m. event.if_any (those true xs) (inside (those true xs) m
    ++ event.behind (body (those true xs) m) (λ u. turns_on_events k head test body inside (those true xs))))
    (λ xs m. if_any (those true xs) (told (those true xs) m
    ++ behind (body (those true xs) m) (λ u. turns_on_moments k heard test told body (those true xs))))
    (h vs m)
    (λ xs m. any_met (those true xs)
    (inside (those true xs) m
    ++ event.behind (body (those true xs) m) (λ u. turns_on_events k head test body inside (those true xs)))
    (told (those true xs) m ++ behind (body (those true xs) m) (λ u. turns_on_moments k heard test told body (those true xs)))
    (then_met (inside (those true xs) m) (told (those true xs) m) (body (those true xs) m)
    (λ u. turns_on_events k head test body inside (those true xs)) (λ u. turns_on_moments k heard test told body (those true xs))
    (i (those true xs) m) (λ u m. turns_on_met k head heard test body inside told h i (those true xs) m)))

module _ (p : Checked) (n : ℕ) where
  mutual
    inner_met : (s : Step) (vs : List ℕ) (m : State) → step_events p n s vs m ≡ met (inner_moments p n s vs m)
    inner_met (step.Assign here x e) vs m = set_met p n here (AssignsOn x e) (assigned_by p x) (λ s. attempt_step s x e) vs m
    inner_met (step.If' here e q a r b) vs m =
        then_met (event.begun n m (set_events (length vs) (ChoosesOn e))) (set_test_moment p n here (ChoosesOn e) e vs m)
        (tested_on p n here.line e vs m)
        (λ xs m. step_row_events p n a (those true xs) m
        ++ event.behind (perform_row_on p n a (those true xs) m) (λ u. step_row_events p n b (those false xs)))
        (λ xs m. inner_row_moments p n a (those true xs) m
        ++ behind (perform_row_on p n a (those true xs) m) (λ u. inner_row_moments p n b (those false xs)))
        (set_met p n here (ChoosesOn e) unchanged (λ s. attempt_value s e) vs m)
        (λ xs m. then_met (step_row_events p n a (those true xs) m) (inner_row_moments p n a (those true xs) m)
        (perform_row_on p n a (those true xs) m) (λ u. step_row_events p n b (those false xs))
        (λ u. inner_row_moments p n b (those false xs)) (inner_row_met a (those true xs) m) (λ u m. inner_row_met b (those false xs) m))
    inner_met (step.While' here e q body) vs m =
        turns_on_met (n + 1) (λ us m. event.begun n m (set_events (length us) (TurnsOn e))) (set_test_moment p n here (TurnsOn e) e)
        (tested_on p n here.line e) (perform_row_on p n body) (step_row_events p n body) (inner_row_moments p n body)
        (λ vs m. set_met p n here (TurnsOn e) unchanged (λ s. attempt_value s e) vs m) (λ vs m. inner_row_met body vs m) vs m

    inner_row_met : {k : _} (ss : Row_of-Step k) (vs : List ℕ) (m : State) →
        step_row_events p n ss vs m ≡ met (inner_row_moments p n ss vs m)
    inner_row_met end_of-Step vs m = refl
    inner_row_met (more_of-Step s ss) vs m =
        then_met (step_events p n s vs m) (inner_moments p n s vs m) (perform_on p n s vs m) (λ u. step_row_events p n ss vs)
        (λ u. inner_row_moments p n ss vs) (inner_met s vs m) (λ u m. inner_row_met ss vs m)

  inner_list_met : (ss : List Step) (vs : List ℕ) (m : State) → steps_events p n ss vs m ≡ met (inner_list_moments p n ss vs m)
  inner_list_met [] vs m = refl
  inner_list_met (s ∷ ss) vs m =
      then_met (step_events p n s vs m) (inner_moments p n s vs m) (perform_on p n s vs m) (λ u. steps_events p n ss vs)
      (λ u. inner_list_moments p n ss vs) (inner_met s vs m) (λ u m. inner_list_met ss vs m)

-- ---- outside pardo

turns_met : (k : ℕ) (head : State → List Event) (heard : State → List Moment) (test : State → Behaviour Bool) (body : State → Done)
    (inside : State → List Event) (told : State → List Moment) → ((m : State) → head m ≡ met (heard m)) →
    ((m : State) → inside m ≡ met (told m)) → (m : State) →
    turns_events k head test body inside m ≡ met (turns_moments k heard test told body m)
turns_met zero head heard test body inside told h i m = refl
turns_met (suc k) head heard test body inside told h i m =
    then_met (head m) (heard m) (test m)
    (λ b m. if b then inside m ++ event.behind (body m) (λ u. turns_events k head test body inside) else [])
    (λ b m. if b then told m ++ behind (body m) (λ u. turns_moments k heard test told body) else [])
    (h m)
    (λ b m. either_met b (inside m ++ event.behind (body m) (λ u. turns_events k head test body inside)) []
    (told m ++ behind (body m) (λ u. turns_moments k heard test told body)) []
    (then_met (inside m) (told m) (body m) (λ u. turns_events k head test body inside) (λ u. turns_moments k heard test told body) (i m)
    (λ u m. turns_met k head heard test body inside told h i m))
    refl)

for_met : (n : ℕ) (here : Location) (k x : ℕ) (a : ℤ) (body : State → Done) (inside : State → List Event) (told : State → List Moment) →
    ((m : State) → inside m ≡ met (told m)) → (m : State) →
    for_events n k x a body inside m ≡ met (for_turns_moments n here k x a told body m)
for_met n here zero x a body inside told i m = refl
for_met n here (suc k) x a body inside told i m =
    then_met (event.begun n m (Runs 0 false None 0 ∷ [])) (setting_moment n here x a m) (counted n m)
    (λ u m. inside (with_uniform x a m)
    ++ Cut ∷ event.behind (body (with_uniform x a m)) (λ u. for_events n k x (a +ℤ pos 1) body inside))
    (λ u m. closing (told (with_uniform x a m))
    ++ behind (body (with_uniform x a m)) (λ u. for_turns_moments n here k x (a +ℤ pos 1) told body))
    (begun_met n m (λ m. Alone here (Sets x) m (Gives [] None) (with_uniform x a m)) (Runs 0 false None 0 ∷ []) (λ m. refl))
    (λ u m. closed_met (inside (with_uniform x a m)) (told (with_uniform x a m)) (body (with_uniform x a m))
    (λ u. for_events n k x (a +ℤ pos 1) body inside) (λ u. for_turns_moments n here k x (a +ℤ pos 1) told body)
    (i (with_uniform x a m)) (λ u m. for_met n here k x (a +ℤ pos 1) body inside told i m))

module _ (p : Checked) (n : ℕ) where
  mutual
    statement_met : (s : Statement) (m : State) → events p n s m ≡ met (moments p n s m)
    statement_met (Assign here x e) m = alone_met n here (Assigns x e) goes_to (assigned x) (λ m. attempt_assign (seen p m) x e) m
    statement_met (Print here e) m = alone_met n here (Prints e) nowhere printed (λ m. attempt (seen p m) e []) m
    statement_met (While' here e q body) m =
        turns_met (n + 1) (λ m. event.begun n m (alone_events (Turns e))) (test_moment p n here (Turns e) e) (tested p n here.line e)
        (perform_row p n body) (row_events p n body) (row_moments p n body)
        (λ m. alone_met n here (Turns e) nowhere unchanged (λ m. attempt (seen p m) e []) m) (λ m. row_met body m) m
    statement_met (If' here e q a r b) m =
        then_met (event.begun n m (alone_events (Chooses e))) (test_moment p n here (Chooses e) e m) (tested p n here.line e m)
        (λ z m. (if z then row_events p n a m else row_events p n b m) ++ Cut ∷ [])
        (λ z m. closing (if z then row_moments p n a m else row_moments p n b m))
        (alone_met n here (Chooses e) nowhere unchanged (λ m. attempt (seen p m) e []) m)
        (λ z m. closing_met (if z then row_events p n a m else row_events p n b m) (if z then row_moments p n a m else row_moments p n b m)
        (either_met z (row_events p n a m) (row_events p n b m) (row_moments p n a m) (row_moments p n b m) (row_met a m) (row_met b m)))
    statement_met (For' here x e f q body) m =
        then_met (event.begun n m (alone_events (Bounds e f))) (bounds_moment p n here e f m)
        (evaluated n here.line (λ m. attempt_bounds (seen p m) e f) m)
        (λ r. for_events n (width r.0 r.1) x r.0 (perform_row p n body) (row_events p n body))
        (λ r. for_turns_moments n here (width r.0 r.1) x r.0 (row_moments p n body) (perform_row p n body))
        (alone_met n here (Bounds e f) nowhere unchanged (λ m. attempt_bounds (seen p m) e f) m)
        (λ r m. for_met n here (width r.0 r.1) x r.0 (perform_row p n body) (row_events p n body) (row_moments p n body)
        (λ m. row_met body m) m)
    statement_met (Pardo here e f locals body) m =
        then_met (event.begun n m (alone_events (Ranges e f))) (range_moment p n here e f m)
        (evaluated n here.line (λ m. attempt_range p.procs (seen p m) e f) m)
        (λ r m. steps_events p n body.items (numbers 0 r.1) (with_team r.0 r.1 locals m))
        (λ r m. inner_list_moments p n body.items (numbers 0 r.1) (with_team r.0 r.1 locals m))
        (alone_met n here (Ranges e f) nowhere unchanged (λ m. attempt_range p.procs (seen p m) e f) m)
        (λ r m. inner_list_met p n body.items (numbers 0 r.1) (with_team r.0 r.1 locals m))

    row_met : {k : _} (ss : Row_of-Statement k) (m : State) → row_events p n ss m ≡ met (row_moments p n ss m)
    row_met end_of-Statement m = refl
    row_met (more_of-Statement s ss) m =
        then_met (events p n s m) (moments p n s m) (perform p n s m) (λ u. row_events p n ss) (λ u. row_moments p n ss)
        (statement_met s m) (λ u m. row_met ss m)

  list_met : (ss : List Statement) (m : State) → list_events p n ss m ≡ met (list_moments p n ss m)
  list_met [] m = refl
  list_met (s ∷ ss) m =
      then_met (events p n s m) (moments p n s m) (perform p n s m) (λ u. list_events p n ss) (λ u. list_moments p n ss)
      (statement_met s m) (λ u m. list_met ss m)

pub events_are_met : (p : Checked) (input : List ℤ) (n : ℕ) → events_of p input n ≡ flat_map events_at (run_moments p input n)
events_are_met p input n = list_met p n p.body (opening p input)
