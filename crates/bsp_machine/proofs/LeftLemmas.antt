-- What is still to come for worker 0, and that all workers go on together.
use Rattle.std.proofs.Common.{◌≡◌, ℕ, suc, ◌<◌, List, [], ◌∷◌, length, Bool, true, false}
use Rattle.std.proofs.Common.{Some, ℤ, refl, sym, ap, ◌∙◌}
use Rattle.std.proofs.Common.{arith, ⊎_elim}
use Rattle.std.specs.Prelude.{slice_get}
use Rattle.std.proofs.Math.Nat.{eq-or-lt_of_le}
use Rattle.address_map.specs.Lawful.{Shape}
use Rattle.superstep_instructions.specs.Code.{SuperstepCode}
use Rattle.superstep_machine.specs.Run.{is_over, setting}
use Rattle.bsp_verify.specs.Runs.{worker_after}
use Rattle.flat_machine.specs.Flatness.{IsMapFor}
use Rattle.flat_machine.proofs.Laws.{one_control_after}
use Rattle.worker_exchange.specs.declared.way.Way.{Way}
use Rattle.worker_exchange.specs.declared.way.Way.TheVariants as ways
use Rattle.worker_exchange.specs.Reached.{most_instructions}
use Rattle.worker_exchange.specs.Shown.{way_is, is_stopped}
use Rattle.worker_exchange.specs.Equipped.{left, left_by}
use Rattle.bsp_machine.specs.declared.counted.CountedWorker.{CountedWorker}
use Rattle.bsp_machine.specs.Workers.{MayAllGoOn}
use Rattle.bsp_machine.specs.Ended.{left_first, AreRunning}
use Rattle.std.proofs.lemmas.Option.{slice_get_within}
use Rattle.bsp_machine.proofs.MarkLemmas.{going_on}

pub left_first_at : (code : SuperstepCode) (bound : ℕ) (workers : List CountedWorker) (x : CountedWorker) → slice_get workers 0 ≡ Some x →
    left_first code bound workers ≡ left code bound x.local
left_first_at code bound [] x e = cc
left_first_at code bound (y ∷ workers) x e = ap (λ (z : CountedWorker). left code bound z.local) (unsome y x e)
  where
    unsome : (a b : CountedWorker) → Some a ≡ Some b → a ≡ b
    unsome a b e = cc

pub none_left : (way : Way) (rank : ℕ) → is_over (way_is way) ≡ true → left_by way rank ≡ 0
none_left ways.On rank h = absurd (cc h)
none_left (ways.Ending ended) rank h = absurd (cc h)
none_left (ways.Past key ended) rank h = refl
none_left (ways.Stopped mark) rank h = refl

pub some_left : (way : Way) (rank : ℕ) → is_over (way_is way) ≡ false → 0 < left_by way rank
some_left ways.On rank h = omega arith
some_left (ways.Ending ended) rank h = omega arith
some_left (ways.Past key ended) rank h = absurd (cc h)
some_left (ways.Stopped mark) rank h = absurd (cc h)

pub either_way : {P : Type 0} (b : Bool) → (b ≡ true → P) → (b ≡ false → P) → P
either_way true held failed = held refl
either_way false held failed = failed refl

module _ (code : SuperstepCode) (m : Shape) (bound : ℕ) (map_for : IsMapFor code m) (input : List ℤ) (workers : List CountedWorker)
    (many : length workers ≡ m.parts) (run : AreRunning code m bound input workers) (first : CountedWorker)
    (here : slice_get workers 0 ≡ Some first) where
  -- worker w is over exactly where worker 0 is, unless they have stopped
  way_shown : (w : ℕ) (x : CountedWorker) → slice_get workers w ≡ Some x → is_stopped x.local.way ≡ false → (n : ℕ) →
      most_instructions code bound < n → (worker_after (setting code m bound n) input run.exchanges w).way ≡ way_is x.local.way
  way_shown w x at alive n low = ((run.behind w x at).shown alive n low).way

  pub all_go_on : is_over (way_is first.local.way) ≡ false → MayAllGoOn code m bound workers
  all_go_on on w x at =
      let n = suc (most_instructions code bound) in
      let low : most_instructions code bound < n = omega arith in
      let t = setting code m bound n in
      let alive = going_on first.local.way on in
      let too : is_stopped x.local.way ≡ false = run.together w 0 x first at here ∙ alive in
      let l = slice_get_within workers w x at in
      let f = slice_get_within workers 0 first here in
      let same = (one_control_after t map_for input run.exchanges w 0 (omega (arith, l, many)) (omega (arith, f, many))).way in
      (run.behind w x at).going
      (ap is_over (sym (way_shown w x at too n low) ∙ same ∙ way_shown 0 first here alive n low) ∙ on)

  -- worker 0's run isn't over behind one exchange more than before
  pub still_on : is_over (way_is first.local.way) ≡ false → (n : ℕ) → most_instructions code bound < n → (i : ℕ) → i < suc run.exchanges →
      is_over (worker_after (setting code m bound n) input i 0).way ≡ false
  still_on on n low i below =
      ⊎_elim
      (λ (same : i ≡ run.exchanges).
      ap (λ j. is_over (worker_after (setting code m bound n) input j 0).way) same
      ∙ ap is_over (way_shown 0 first here (going_on first.local.way on) n low) ∙ on)
      (λ (less : i < run.exchanges). run.before n low i less) (eq-or-lt_of_le (omega (arith, below)))
