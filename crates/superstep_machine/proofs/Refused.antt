-- Marks stop all workers, and up to the first one nothing is changed.
use Rattle.std.proofs.Common.{◌≡◌, ℕ, zero, suc, ◌+◌, ◌<◌, List, [], ◌∷◌, map, drop, Bool, true, false, Option, Some, None, ℤ, refl, sym}
use Rattle.std.proofs.Common.{ap, ◌∙◌, arith, ◌≤◌, ◌⊎◌, inl, inr, ⊎_elim, pos}
use Rattle.std.specs.Prelude.{if◌then◌else◌, slice_index_or}
use Rattle.std.specs.List.{range_with_len}
use Rattle.std.proofs.Math.Nat.{eq-or-lt_of_le}
use Rattle.pram_values.proofs.Totals.{total_map, total_same, total_within}
use Rattle.superstep_machine.specs.declared.mark.HeaderMark.{HeaderMark}
use Rattle.superstep_machine.specs.declared.mark.HeaderMark.TheVariants.{Clear, OutOfMemory, OutOfReserve}
use Rattle.superstep_machine.specs.Marks.{worse, mark_among}
use Rattle.superstep_machine.specs.Setting.{Setting, workers, all_cells}
use Rattle.superstep_machine.specs.Words.{Message}
use Rattle.superstep_machine.specs.Worker.{Worker}
use Rattle.superstep_machine.specs.Stretch.{ToSend, ToReply, ToVote, ToClose, Arrival, Nowhere, At}
use Rattle.superstep_machine.specs.Machine.{column, phase, phases, run}
use Rattle.superstep_machine.specs.Run.{Purpose, Sends, Replies, Votes, Closes, Way, On, Ending, Past, Refused, Lost, State, Ready}
use Rattle.superstep_machine.specs.Run.{mark_now, marks_later, stopped, stretch, ready_at, ready_by, ready_with, ready, message_for}
use Rattle.superstep_machine.specs.Run.{message_with, message_of, mark_of, after_with, after, is_over, state_of, verdict_by, bsp, opening}
use Rattle.superstep_machine.specs.Run.{outcome_of}
use Rattle.superstep_machine.specs.Refusals.{with_marks, FirstIsSent, RestIsLeft, mark_of_all, AnyMarkCounts, MemoryGoesFirst}
use Rattle.superstep_machine.specs.Refusals.{MarkIsAWorkers, MarksStopAll, MarkedRunsEnd, opening_with, mark_at, SameBeforeMarks}
use Rattle.superstep_machine.specs.Refusals.{SameOutcomeBefore, AllStopAtAMark, NoOutcomeAtAMark}

pub map_within : {A : Type 0} (f g : ℕ → A) (n k : ℕ) → ((o : ℕ) → o < k + n → f o ≡ g o) →
    map f (range_with_len k n) ≡ map g (range_with_len k n)
map_within f g zero k h = refl
map_within f g (suc n) k h = ap (λ y. y ∷ map f (range_with_len (k + 1) n)) (h k (omega arith))
    ∙ ap (λ t. g k ∷ t) (map_within f g n (k + 1) (λ o l. h o (omega arith)))

here_or_on : (k w : ℕ) → k ≤ w → (k ≡ w) ⊎ (k + 1 ≤ w)
here_or_on k w low = ⊎_elim (λ here. inl here) (λ on. inr (omega (arith, on))) (eq-or-lt_of_le low)

-- ---- marks together

clear_left : (a b : HeaderMark) → worse a b ≡ Clear → a ≡ Clear
clear_left Clear b h = refl
clear_left OutOfMemory b h = h
clear_left OutOfReserve Clear h = h
clear_left OutOfReserve OutOfMemory h = absurd (cc h)
clear_left OutOfReserve OutOfReserve h = h

clear_right : (a b : HeaderMark) → worse a b ≡ Clear → b ≡ Clear
clear_right Clear b h = h
clear_right OutOfMemory b h = absurd (cc h)
clear_right OutOfReserve Clear h = refl
clear_right OutOfReserve OutOfMemory h = h
clear_right OutOfReserve OutOfReserve h = h

memory_left : (b : HeaderMark) → worse OutOfMemory b ≡ OutOfMemory
memory_left b = refl

memory_right : (a : HeaderMark) → worse a OutOfMemory ≡ OutOfMemory
memory_right Clear = refl
memory_right OutOfMemory = refl
memory_right OutOfReserve = refl

-- of two marks together it is one
one_of_two : (a b : HeaderMark) → (worse a b ≡ a) ⊎ (worse a b ≡ b)
one_of_two Clear b = inr refl
one_of_two OutOfMemory b = inl refl
one_of_two OutOfReserve Clear = inl refl
one_of_two OutOfReserve OutOfMemory = inr refl
one_of_two OutOfReserve OutOfReserve = inl refl

abbrev among : (ℕ → HeaderMark) → ℕ → ℕ → HeaderMark
among f k n = mark_among f (range_with_len k n)

any_counts : (f : ℕ → HeaderMark) (w n k : ℕ) → k ≤ w → w < k + n → among f k n ≡ Clear → f w ≡ Clear
any_counts f w zero k low high h = absurd (omega arith)
any_counts f w (suc n) k low high h =
    ⊎_elim
    (λ here. ap f (sym here) ∙ clear_left (f k) (among f (k + 1) n) h)
    (λ on. any_counts f w n (k + 1) on (omega arith) (clear_right (f k) (among f (k + 1) n) h))
    (here_or_on k w low)

memory_counts : (f : ℕ → HeaderMark) (w n k : ℕ) → k ≤ w → w < k + n → f w ≡ OutOfMemory → among f k n ≡ OutOfMemory
memory_counts f w zero k low high h = absurd (omega arith)
memory_counts f w (suc n) k low high h =
    ⊎_elim
    (λ here. ap (λ m. worse m (among f (k + 1) n)) (ap f here ∙ h))
    (λ on. ap (worse (f k)) (memory_counts f w n (k + 1) on (omega arith) h) ∙ memory_right (f k))
    (here_or_on k w low)

of_a_worker : (f : ℕ → HeaderMark) (n k : ℕ) → (among f k n ≡ Clear → ⊥) → (w : ℕ) × (w < k + n) × (f w ≡ among f k n)
of_a_worker f zero k h = absurd (h refl)
of_a_worker f (suc n) k h =
    ⊎_elim
    (λ e. (k, omega arith, sym e))
    (λ e. let r = of_a_worker f n (k + 1) (λ c. h (e ∙ c)) in let l = r.1 in (r.0, omega (arith, l), r.2 ∙ sym e))
    (one_of_two (f k) (among f (k + 1) n))

pub any_mark_counts : AnyMarkCounts
any_mark_counts t ws w l h = any_counts (λ v. mark_now (ws v).refusals) w (workers t) 0 (omega arith) (omega (arith, l)) h

pub memory_goes_first : MemoryGoesFirst
memory_goes_first t ws w l h = memory_counts (λ v. mark_now (ws v).refusals) w (workers t) 0 (omega arith) (omega (arith, l)) h

pub mark_is_a_workers : MarkIsAWorkers
mark_is_a_workers t ws h = let r = of_a_worker (λ v. mark_now (ws v).refusals) (workers t) 0 h in let l = r.1 in
    (r.0, omega (arith, l), r.2)

-- ---- one worker, with other marks to come

module _ (t : Setting) where
  abbrev to : List HeaderMark → Ready → Ready
  to marks r = record r { state = with_marks marks r.state }

  arrives_same : (marks : List HeaderMark) (s : State) (a : Arrival Worker) → ready_at (with_marks marks s) a ≡ to marks (ready_at s a)
  arrives_same marks s Nowhere = refl
  arrives_same marks s (At ToSend place x) = refl
  arrives_same marks s (At ToReply place x) = refl
  arrives_same marks s (At (ToVote d) place x) = refl
  arrives_same marks s (At (ToClose ended) place x) = refl

  by_same : (w : ℕ) (marks : List HeaderMark) (s : State) (way : Way) →
      ready_by t w (with_marks marks s) way ≡ to marks (ready_by t w s way)
  by_same w marks s On = arrives_same marks s (stretch t w s)
  by_same w marks s (Ending ended) = refl
  by_same w marks s (Past key ended) = refl
  by_same w marks s (Refused mark) = refl
  by_same w marks s Lost = refl

  module _ (w : ℕ) (marks : List HeaderMark) (s : State) (clear : mark_now marks ≡ Clear) (none : s.refusals ≡ []) where
    ready_same : ready t w (with_marks marks s) ≡ to marks (ready t w s)
    ready_same = ap (ready_with t w (with_marks marks s)) clear ∙ by_same w marks s s.way
        ∙ ap (λ ms. to marks (ready_with t w s (mark_now ms))) (sym none)

    pub message_same : (j : ℕ) → message_of t w (with_marks marks s) j ≡ message_of t w s j
    message_same j =
        ap (λ r. message_with t r j (mark_now marks)) ready_same
        ∙ ap (message_with t (to marks (ready t w s)) j) clear
        ∙ ap (λ ms. message_with t (ready t w s) j (mark_now ms)) (sym none)

    pub after_same : (messages : List Message) → mark_of messages ≡ Clear →
        after t w (ready t w (with_marks marks s)) messages ≡ with_marks (marks_later marks) (after t w (ready t w s) messages)
    after_same messages h =
        ap (λ r. after t w r messages) ready_same
        ∙ ap (after_with t w (to marks (ready t w s)) messages) h
        ∙ ap (λ m. with_marks (marks_later marks) (after_with t w (ready t w s) messages m)) (sym h)

pub first_is_sent : FirstIsSent
first_is_sent t w s Clear one other j =
    ap (λ r. message_for t r.purpose r.state.worker j) (by_same t w (Clear ∷ one) s s.way ∙ refl)
    ∙ ap (λ r. message_for t r.purpose r.state.worker j) (sym (by_same t w (Clear ∷ other) s s.way))
first_is_sent t w s OutOfMemory one other j = refl
first_is_sent t w s OutOfReserve one other j = refl

pub rest_is_left : RestIsLeft
rest_is_left t w s rest messages h = after_same t w (Clear ∷ rest) (with_marks [] s) refl refl messages h

-- ---- one exchange of all

module _ (t : Setting) where
  -- a message of an exchange has no mark
  pub for_clear : (p : Purpose) (x : Worker) (j : ℕ) → (message_for t p x j).mark ≡ Clear
  for_clear Sends x j = refl
  for_clear Replies x j = refl
  for_clear (Votes d) x j = refl
  for_clear Closes x j = refl

  -- the mark of a message is the one that it is given
  pub with_mark : (r : Ready) (j : ℕ) (mark : HeaderMark) → (message_with t r j mark).mark ≡ mark
  with_mark r j Clear = for_clear r.purpose r.state.worker j
  with_mark r j OutOfMemory = refl
  with_mark r j OutOfReserve = refl

  module _ (ws : ℕ → State) where
    abbrev to_worker : ℕ → List Message
    to_worker w = column (bsp t) (workers t) ws w

    -- a column has the marks of all workers
    pub marks_are : (w : ℕ) → mark_of (to_worker w) ≡ mark_of_all t ws
    marks_are w =
        total_map Clear worse (λ (m : Message). m.mark) (λ i. message_of t i (ws i) w) (range_with_len 0 (workers t))
        ∙ total_same Clear worse (λ i. (message_of t i (ws i) w).mark) (λ i. mark_now (ws i).refusals)
        (λ i. with_mark (ready t i (ws i)) w (mark_now (ws i).refusals)) (range_with_len 0 (workers t))

    -- a mark stops, whatever came
    by_a_mark : (w : ℕ) (r : Ready) (messages : List Message) (mark : HeaderMark) → (mark ≡ Clear → ⊥) →
        after_with t w r messages mark ≡ stopped mark
    by_a_mark w r messages Clear h = absurd (h refl)
    by_a_mark w r messages OutOfMemory h = refl
    by_a_mark w r messages OutOfReserve h = refl

    pub all_stop : (mark_of_all t ws ≡ Clear → ⊥) → (w : ℕ) → phase (bsp t) (workers t) ws w ≡ stopped (mark_of_all t ws)
    all_stop h w = ap (after_with t w (ready t w (ws w)) (to_worker w)) (marks_are w)
        ∙ by_a_mark w (ready t w (ws w)) (to_worker w) (mark_of_all t ws) h

  -- where all have stopped there is no outcome
  no_outcome : (p : ℕ) (us : ℕ → State) (mark : HeaderMark) → ((w : ℕ) → us w ≡ stopped mark) →
      outcome_of t (map us (range_with_len 0 p)) ≡ None
  no_outcome zero us mark h = refl
  no_outcome (suc p) us mark h = ap (λ s. outcome_of t (s ∷ map us (range_with_len 1 p))) (h 0)

  -- and the run is over
  ends : (us : ℕ → State) (mark : HeaderMark) → ((w : ℕ) → us w ≡ stopped mark) → (n : ℕ) → run (bsp t) (workers t) (suc n) us ≡ Some None
  ends us mark h n =
      ap (λ (s : State). if is_over s.way then Some (outcome_of t (map us (range_with_len 0 (workers t)))) else run (bsp t) (workers t) n
      (phase (bsp t) (workers t) us)) (h 0)
      ∙ ap (λ o. Some o) (no_outcome (workers t) us mark h)

pub marks_stop_all : MarksStopAll
marks_stop_all t ws h = all_stop t ws h

pub marked_runs_end : MarkedRunsEnd
marked_runs_end t ws h going n =
    ap (λ b. if b then Some (outcome_of t (map ws (range_with_len 0 (workers t)))) else run (bsp t) (workers t) (suc n)
    (phase (bsp t) (workers t) ws)) going
    ∙ ends t (phase (bsp t) (workers t) ws) (mark_of_all t ws) (all_stop t ws h) n

-- ---- whole runs

drop_later : (n : ℕ) (ms : List HeaderMark) → drop n (marks_later ms) ≡ drop (suc n) ms
drop_later zero [] = refl
drop_later (suc n) [] = refl
drop_later n (m ∷ ms) = refl

nothing : (xs : List ℕ) → mark_among (λ w. Clear) xs ≡ Clear
nothing [] = refl
nothing (x ∷ xs) = nothing xs

module _ (t : Setting) where
  -- workers with these marks to come, and the same without any
  abbrev AreSame : (ℕ → List HeaderMark) → (ℕ → State) → (ℕ → State) → Type 0
  AreSame marks us ws = (w : ℕ) → w < workers t → (us w ≡ with_marks (marks w) (ws w)) × ((ws w).refusals ≡ [])

  all_clear : (ws : ℕ → State) → ((w : ℕ) → w < workers t → (ws w).refusals ≡ []) → mark_of_all t ws ≡ Clear
  all_clear ws h =
      total_within Clear worse (λ w. mark_now (ws w).refusals) (λ w. Clear) (workers t) 0 (λ w l. ap mark_now (h w (omega (arith, l))))
      ∙ nothing (range_with_len 0 (workers t))

  marks_then : (marks : ℕ → List HeaderMark) (us ws : ℕ → State) → AreSame marks us ws →
      mark_of_all t us ≡ mark_among (λ w. mark_now (marks w)) (range_with_len 0 (workers t))
  marks_then marks us ws h =
      total_within Clear worse (λ w. mark_now (us w).refusals) (λ w. mark_now (marks w)) (workers t) 0
      (λ w l. ap (λ (s : State). mark_now s.refusals) (h w (omega (arith, l))).0)

  module _ (marks : ℕ → List HeaderMark) (us ws : ℕ → State) (h : AreSame marks us ws)
      (clear : (w : ℕ) → w < workers t → mark_now (marks w) ≡ Clear) where
    columns_same : (w : ℕ) → column (bsp t) (workers t) us w ≡ column (bsp t) (workers t) ws w
    columns_same w =
        map_within (λ i. message_of t i (us i) w) (λ i. message_of t i (ws i) w) (workers t) 0
        (λ i l. let k : i < workers t = omega (arith, l) in ap (λ s. message_of t i s w) (h i k).0
        ∙ message_same t i (marks i) (ws i) (clear i k) (h i k).1 w)

    column_clear : (w : ℕ) → mark_of (column (bsp t) (workers t) ws w) ≡ Clear
    column_clear w = marks_are t ws w ∙ all_clear ws (λ v l. (h v l).1)

    step_same : AreSame (λ w. marks_later (marks w)) (phase (bsp t) (workers t) us) (phase (bsp t) (workers t) ws)
    step_same w l = (
      ap (after t w (ready t w (us w))) (columns_same w)
          ∙ ap (λ s. after t w (ready t w s) (column (bsp t) (workers t) ws w)) (h w l).0
          ∙ after_same t w (marks w) (ws w) (clear w l) (h w l).1 (column (bsp t) (workers t) ws w) (column_clear w),
      ap (λ (s : State). s.refusals)
          (ap (λ ms. after t w (ready t w (with_marks ms (ws w))) (column (bsp t) (workers t) ws w)) (h w l).1
          ∙ after_same t w [] (ws w) refl (h w l).1 (column (bsp t) (workers t) ws w) (column_clear w)),
    )

  -- in the first n stretches nothing befalls them
  abbrev IsClear : (ℕ → List HeaderMark) → ℕ → Type 0
  IsClear marks n = (k w : ℕ) → k < n → w < workers t → mark_now (drop k (marks w)) ≡ Clear

  later_clear : (marks : ℕ → List HeaderMark) (n : ℕ) → IsClear marks (suc n) → IsClear (λ w. marks_later (marks w)) n
  later_clear marks n c k w l m = ap mark_now (drop_later k (marks w)) ∙ c (suc k) w (omega (arith, l)) m

  phases_same : (n : ℕ) (marks : ℕ → List HeaderMark) (us ws : ℕ → State) → AreSame marks us ws → IsClear marks n →
      AreSame (λ w. drop n (marks w)) (phases (bsp t) (workers t) n us) (phases (bsp t) (workers t) n ws)
  phases_same zero marks us ws h c = h
  phases_same (suc n) marks us ws h c =
      let r = phases_same n (λ w. marks_later (marks w)) (phase (bsp t) (workers t) us) (phase (bsp t) (workers t) ws)
      (step_same marks us ws h (λ w. c 0 w (omega arith))) (later_clear marks n c) in
      λ w l. (
        (r w l).0 ∙ ap (λ ms. with_marks ms (phases (bsp t) (workers t) n (phase (bsp t) (workers t) ws) w)) (drop_later n (marks w)),
        (r w l).1,
      )

  phases_last : (n : ℕ) (us : ℕ → State) → phases (bsp t) (workers t) (suc n) us ≡ phase (bsp t) (workers t)
      (phases (bsp t) (workers t) n us)
  phases_last zero us = refl
  phases_last (suc n) us = phases_last n (phase (bsp t) (workers t) us)

  -- ---- the outcome

  abbrev bare : State → State
  bare s = with_marks [] s

  bare_same : (f g : ℕ → State) (n k w : ℕ) → ((v : ℕ) → v < k + n → bare (f v) ≡ bare (g v)) →
      bare (state_of (map f (range_with_len k n)) w) ≡ bare (state_of (map g (range_with_len k n)) w)
  bare_same f g zero k w h = refl
  bare_same f g (suc n) k zero h = h k (omega arith)
  bare_same f g (suc n) k (suc w) h = bare_same f g n (k + 1) w (λ v l. h v (omega (arith, l)))

  outcome_same : (marks : ℕ → List HeaderMark) (us ws : ℕ → State) → AreSame marks us ws →
      outcome_of t (map us (range_with_len 0 (workers t))) ≡ outcome_of t (map ws (range_with_len 0 (workers t)))
  outcome_same marks us ws h =
      let e : (w : ℕ) → bare (state_of (map us (range_with_len 0 (workers t))) w) ≡ bare
      (state_of (map ws (range_with_len 0 (workers t))) w) =
      λ w. bare_same us ws (workers t) 0 w (λ v l. ap bare (h v (omega (arith, l))).0) in
      ap (λ (at : ℕ → State). verdict_by (at 0).way (at 0).worker.uniform.output
      (map (λ c. slice_index_or (at (t.map.part c)).worker.cells (t.map.offset c) (pos 0)) (all_cells t))) (λ i w. e w i)

  module _ (some : 0 < workers t) where
    over_same : (marks : ℕ → List HeaderMark) (us ws : ℕ → State) → AreSame marks us ws → is_over (us 0).way ≡ is_over (ws 0).way
    over_same marks us ws h = ap (λ (s : State). is_over s.way) (h 0 some).0

    run_same : (n : ℕ) (marks : ℕ → List HeaderMark) (us ws : ℕ → State) → AreSame marks us ws → IsClear marks n → run (bsp t) (workers t)
        (suc n) us ≡ run (bsp t) (workers t) (suc n) ws
    run_same zero marks us ws h c = λ i. if over_same marks us ws h i then Some (outcome_same marks us ws h i) else None
    run_same (suc n) marks us ws h c =
        λ i. if over_same marks us ws h i then Some (outcome_same marks us ws h i)
        else run_same n (λ w. marks_later (marks w)) (phase (bsp t) (workers t) us) (phase (bsp t) (workers t) ws)
        (step_same marks us ws h (λ w. c 0 w (omega arith))) (later_clear marks n c) i

    -- what isn't over goes on
    going : {A : Type 0} (b : Bool) (x : A) (y : Option A) → (if b then Some x else y) ≡ None → (b ≡ false) × (y ≡ None)
    going true x y e = absurd (cc e)
    going false x y e = (refl, e)

    no_end : (n m : ℕ) → n + 2 ≤ m → (marks : ℕ → List HeaderMark) (us ws : ℕ → State) → AreSame marks us ws → IsClear marks n →
        (mark_at t marks n ≡ Clear → ⊥) → run (bsp t) (workers t) (suc n) ws ≡ None → run (bsp t) (workers t) m us ≡ Some None
    no_end n zero l marks us ws h c bad e = absurd (omega arith)
    no_end zero (suc zero) l marks us ws h c bad e = absurd (omega arith)
    no_end zero (suc (suc m)) l marks us ws h c bad e =
        marked_runs_end t us (λ k. bad (sym (marks_then marks us ws h) ∙ k)) (over_same marks us ws h
        ∙ (going (is_over (ws 0).way) _ None e).0) m
    no_end (suc n) (suc m) l marks us ws h c bad e =
        let g = going (is_over (ws 0).way) _ (run (bsp t) (workers t) (suc n) (phase (bsp t) (workers t) ws)) e in
        ap (λ b. if b then Some (outcome_of t (map us (range_with_len 0 (workers t)))) else run (bsp t) (workers t) m
        (phase (bsp t) (workers t) us)) (over_same marks us ws h ∙ g.0)
        ∙ no_end n m (omega (arith, l)) (λ w. marks_later (marks w)) (phase (bsp t) (workers t) us) (phase (bsp t) (workers t) ws)
        (step_same marks us ws h (λ w. c 0 w (omega arith))) (later_clear marks n c)
        (λ k. bad (ap (λ (f : ℕ → List HeaderMark). mark_among (λ w. mark_now (f w)) (range_with_len 0 (workers t)))
        (sym (λ i w. drop_later n (marks w) i)) ∙ k)) g.1

  opens : (input : List ℤ) (marks : ℕ → List HeaderMark) → AreSame marks (opening_with t input marks) (opening t input)
  opens input marks w l = (refl, refl)

pub same_before_marks : SameBeforeMarks
same_before_marks t input marks n c w l =
    (phases_same t n marks (opening_with t input marks) (opening t input) (opens t input marks) c w l).0

pub same_outcome_before : SameOutcomeBefore
same_outcome_before t input marks n some c outcome e =
    run_same t some n marks (opening_with t input marks) (opening t input) (opens t input marks) c ∙ e

pub all_stop_at_a_mark : AllStopAtAMark
all_stop_at_a_mark t input marks n c bad w =
    let us = opening_with t input marks in
    let e : mark_of_all t (phases (bsp t) (workers t) n us) ≡ mark_at t marks n =
    marks_then t (λ v. drop n (marks v)) (phases (bsp t) (workers t) n us) (phases (bsp t) (workers t) n (opening t input))
    (phases_same t n marks us (opening t input) (opens t input marks) c) in
    ap (λ (f : ℕ → State). f w) (phases_last t n us) ∙ all_stop t (phases (bsp t) (workers t) n us) (λ k. bad (sym e ∙ k)) w ∙ ap stopped e

pub no_outcome_at_a_mark : NoOutcomeAtAMark
no_outcome_at_a_mark t input marks n c bad e m l =
    let r = of_a_worker (λ w. mark_now (drop n (marks w))) (workers t) 0 bad in
    let below = r.1 in
    no_end t (omega (arith, below)) n m l marks (opening_with t input marks) (opening t input) (opens t input marks) c bad e
