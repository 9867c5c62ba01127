-- What the events of a moment that doesn't fault take is what its reads and writes take.
use Rattle.std.proofs.Common.{◌≡◌, ℕ, ◌+◌, ◌*◌, ◌≤◌, List, [], ◌∷◌, ◌++◌, length, Option, None, refl, ap}
use Rattle.std.proofs.Common.{sym}
use Rattle.std.proofs.Common.{◌∙◌, subst, arith}
use Rattle.std.specs.List.{AllByRecursion, flat_map, sum_by}
use Rattle.std.proofs.lemmas.List.Sums.{sum_by-cons}
use Rattle.pram_check.proofs.BoundedExpressions.{front_none}
use Rattle.pram_tokens.specs.declared.token.Location.{Location}
use Rattle.pram_check.specs.Checked.{Checked}
use Rattle.pram_model.specs.declared.rule.Rule.{Rule}
use Rattle.pram_meaning.specs.Attempt.{Attempt, Gives, Fails, Trail, Effect}
use Rattle.pram_meaning.specs.Conflict.{Part, fault_of, trail_of, keys, least, IsLeast}
use Rattle.pram_meaning.specs.Moments.{Action, Assigns, Prints, Turns, Chooses, Bounds, Sets, Ranges}
use Rattle.pram_meaning.specs.Moments.{StepAction, AssignsOn, TurnsOn, ChoosesOn, Moment, Alone, Together, Closed}
use Rattle.pram_meaning.specs.Store.{State, View}
use Rattle.pram_meaning.specs.Together.{parts}
use Rattle.pram_meaning.proofs.LeastKey.{least_is_least}
use Rattle.exchange_bound.specs.Accesses.{words}
use Rattle.exchange_bound.specs.Bound.{one_if}
use Rattle.exchange_bound.specs.Events as event
use Rattle.exchange_bound.specs.Events.{target_reads, step_target_reads, is_shared, is_step_shared}
use Rattle.costs.specs.MomentEvents.{alone_events, set_events, events_at}
use Rattle.costs.specs.Steps.{reads_on, writes_to, attempt_writes, part_reads, part_writes, by_one, by_set}
use Rattle.costs.proofs.AttemptReads.{Makes}

-- ---- what statements read and write

abbrev pub action_reads : Action → ℕ
action_reads (Assigns x e) = target_reads x + event.reads e
action_reads (Prints e) = event.reads e
action_reads (Turns e) = event.reads e
action_reads (Chooses e) = event.reads e
action_reads (Bounds e f) = event.reads e + event.reads f
action_reads (Sets x) = 0
action_reads (Ranges e f) = event.reads e + event.reads f

abbrev pub action_writes : Action → ℕ
action_writes (Assigns x e) = one_if (is_shared x)
action_writes act = 0

abbrev pub step_reads : StepAction → ℕ
step_reads (AssignsOn x e) = step_target_reads x + event.reads e
step_reads (TurnsOn e) = event.reads e
step_reads (ChoosesOn e) = event.reads e

abbrev pub step_writes : StepAction → ℕ
step_writes (AssignsOn x e) = one_if (is_step_shared x)
step_writes act = 0

-- ---- sums over parts

sums : (f : Part → ℕ) (n : ℕ) (xs : List Part) → AllByRecursion (λ (x : Part). f x ≡ n) xs → sum_by f xs ≡ length xs * n
sums f n [] h = omega arith
sums f n (x ∷ xs) h =
    let a = sum_by-cons f x xs in
    let b = sums f n xs h.1 in
    let c = h.0 in
    omega (arith, a, b, c)

-- where no part faults each makes its reads and its write
record IsMade (r w : ℕ) (x : Part) : Type 0 where
  reads : part_reads x ≡ r
  writes : part_writes x ≡ w

made : (r w : ℕ) (xs : List Part) → AllByRecursion (λ (x : Part). Makes r w x.attempt) xs →
    flat_map (λ (x : Part). fault_of x.processor x.attempt) xs ≡ [] → AllByRecursion (IsMade r w) xs
made r w [] h none = tt
made r w (x ∷ xs) h none = go x.attempt refl h.0 (made r w xs h.1)
  where
    go : (a : Attempt Effect) → x.attempt ≡ a → Makes r w a →
        (flat_map (λ (x : Part). fault_of x.processor x.attempt) xs ≡ [] → AllByRecursion (IsMade r w) xs) →
        IsMade r w x × AllByRecursion (IsMade r w) xs
    go (Gives t g) e m rest = (
      record {
        reads = ap (λ (a : Attempt Effect). reads_on (trail_of a)) e ∙ m.0;
        writes = ap attempt_writes e ∙ m.1;
      },
      rest (sym (ap (λ (a : Attempt Effect). fault_of x.processor a
          ++ flat_map (λ (x : Part). fault_of x.processor x.attempt) xs) e) ∙ none),
    )
    go (Fails t k) e m rest =
        let z = sym (ap (λ (a : Attempt Effect). fault_of x.processor a
        ++ flat_map (λ (x : Part). fault_of x.processor x.attempt) xs) e) ∙ none in
        absurd (cc)

made_reads : (r w : ℕ) (xs : List Part) → AllByRecursion (IsMade r w) xs → AllByRecursion (λ (x : Part). part_reads x ≡ r) xs
made_reads r w [] h = tt
made_reads r w (x ∷ xs) h = let a = h.0 in (a.reads, made_reads r w xs h.1)

made_writes : (r w : ℕ) (xs : List Part) → AllByRecursion (IsMade r w) xs → AllByRecursion (λ (x : Part). part_writes x ≡ w) xs
made_writes r w [] h = tt
made_writes r w (x ∷ xs) h = let a = h.0 in (a.writes, made_writes r w xs h.1)

-- no key is told, so no part faults
no_faults : (rule : Rule) (xs : List Part) → least (keys rule xs) ≡ None → flat_map (λ (x : Part). fault_of x.processor x.attempt) xs ≡ []
no_faults rule xs e =
    let none : keys rule xs ≡ [] = subst (IsLeast (keys rule xs)) e (least_is_least (keys rule xs)) in
    front_none (flat_map (λ (x : Part). fault_of x.processor x.attempt) xs) _ (front_none _ _ none)

all_parts : (p : Checked) (m : State) (a : View → Attempt Effect) (r w : ℕ) → ((s : View) → Makes r w (a s)) → (vs : List ℕ) →
    AllByRecursion (λ (x : Part). Makes r w x.attempt) (parts p m a vs)
all_parts p m a r w h [] = tt
all_parts p m a r w h (v ∷ vs) = (h _, all_parts p m a r w h vs)

-- ---- moments

module _ (workers write : ℕ) where
  -- what the reads and writes of a moment take
  abbrev pub of_moment : Moment → ℕ
  of_moment (Alone here act before a after) =
      let s = by_one here.line a in 2 * workers * s.reads + write * s.writes
  of_moment (Together here act before xs k after) = let s = by_set here.line xs k in 2 * s.reads + write * s.writes
  of_moment Closed = 0

  abbrev pub IsEven : Moment → Type 0
  IsEven mo = words workers write (events_at mo) ≤ of_moment mo

  alone_words : (act : Action) → words workers write (alone_events act) ≡ 2 * workers * action_reads act + write * action_writes act
  alone_words (Assigns x e) = omega arith
  alone_words (Prints e) = omega arith
  alone_words (Turns e) = omega arith
  alone_words (Chooses e) = omega arith
  alone_words (Bounds e f) = omega arith
  alone_words (Sets x) = omega arith
  alone_words (Ranges e f) = omega arith

  pub alone_even : (here : Location) (act : Action) (before after : State) (t : Trail) (c : Option ℕ) → reads_on t ≡ action_reads act →
      writes_to c ≡ action_writes act → IsEven (Alone here act before (Gives t c) after)
  alone_even here act before after t c r w =
      let a = alone_words act in
      let b : 2 * workers * reads_on t ≡ 2 * workers * action_reads act = ap (λ n. 2 * workers * n) r in
      let d : write * writes_to c ≡ write * action_writes act = ap (λ n. write * n) w in
      omega (arith, a, b, d)

  set_words : (k : ℕ) (act : StepAction) → words workers write (set_events k act) ≡ 2 * k * step_reads act + write * k * step_writes act
  set_words k (AssignsOn x e) = omega arith
  set_words k (TurnsOn e) = omega arith
  set_words k (ChoosesOn e) = omega arith

  pub set_even : (p : Checked) (here : Location) (act : StepAction) (m before after : State) (a : View → Attempt Effect) →
      ((s : View) → Makes (step_reads act) (step_writes act) (a s)) → (vs : List ℕ) → least (keys p.rule (parts p m a vs)) ≡ None →
      IsEven (Together here act before (parts p m a vs) None after)
  set_even p here act m before after a makes vs none =
      let xs = parts p m a vs in
      let r = step_reads act in
      let w = step_writes act in
      let all = made r w xs (all_parts p m a r w makes vs) (no_faults p.rule xs none) in
      let b = sums part_reads r xs (made_reads r w xs all) in
      let c = sums part_writes w xs (made_writes r w xs all) in
      let d = set_words (length xs) act in
      let e : write * sum_by part_writes xs ≡ write * (length xs * w) = ap (λ n. write * n) c in
      omega (arith, b, d, e)

  pub closed_even : IsEven Closed
  closed_even = omega arith
