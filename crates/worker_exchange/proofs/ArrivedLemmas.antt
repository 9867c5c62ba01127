-- A worker comes to an exchange.
use Rattle.std.proofs.Common.{◌≡◌, ℕ, ◌+◌, ◌-◌, ◌*◌, ◌<◌, ◌≤◌, [], length, map, Bool, true, false, Some, refl, sym, ap, subst, ◌∙◌, arith}
use Rattle.std.specs.Prelude.{slice_get, slice_index_or, if◌then◌else◌}
use Rattle.std.proofs.lemmas.Nat.{mul-le}
use Rattle.address_map.specs.Lawful.{Shape}
use Rattle.superstep_instructions.specs.Limits.{IsCode}
use Rattle.superstep_instructions.specs.Code.{SuperstepCode}
use Rattle.superstep_machine.specs.Setting.{Setting}
use Rattle.superstep_machine.specs.Parts.{UniformPart}
use Rattle.superstep_machine.specs.Worker.{Worker}
use Rattle.superstep_machine.specs.Stretch.{At}
use Rattle.superstep_machine.specs.Run as machine
use Rattle.superstep_machine.specs.Run.{setting, is_held}
use Rattle.instruction_steps.specs.Views.{put_is}
use Rattle.bsp_verify.specs.Judging.{is_mark}
use Rattle.bsp_verify.proofs.PathLemmas.{paths_sound}
use Rattle.worker_bank.specs.Bank.{IsSameBank}
use Rattle.combining.specs.Adding.{unanswered}
use Rattle.worker_steps.specs.declared.stretch_end.StretchEnd.{StretchEnd}
use Rattle.worker_steps.specs.declared.stretch_end.StretchEnd.TheVariants as ends
use Rattle.worker_steps.specs.declared.worker.WorkerState.{WorkerState}
use Rattle.worker_steps.specs.Fitted.{IsFitted}
use Rattle.worker_steps.specs.Met.{IsVerifiedAt}
use Rattle.worker_steps.specs.Stretch.{stop_is, rank, stretch_by, ArrivesAt, StandsAt}
use Rattle.superstep_machine.specs.declared.purpose.Purpose.TheVariants as purposes
use Rattle.worker_exchange.specs.declared.way.Way.{Way}
use Rattle.worker_exchange.specs.declared.way.Way.TheVariants as ways
use Rattle.worker_exchange.specs.declared.local.Local.{Local}
use Rattle.worker_exchange.specs.Reached.{IsReached, most_instructions}
use Rattle.superstep_machine.specs.Purposes.{purpose_is}
use Rattle.worker_exchange.specs.Shown.{way_is, place_behind, ShowsWorker, IsShown, IsAtExchange}
use Rattle.worker_exchange.specs.Equipped.{IsEquipped, MayGoOn, GoesWith, instr_of, left_by, left_at_by}
use Rattle.worker_exchange.specs.Arrived.{purpose_at, way_at, stopped_at, HasArrived}
use Rattle.worker_exchange.proofs.AwaitedLemmas.{awaits}

-- ---- the definition's worker

-- what is shown of where it stands
pub record IsAtReady (t : Setting) (w : ℕ) (x : Local) (r : machine.Ready) : Type 0 where
  pub purpose : r.purpose ≡ purpose_is x.purpose
  pub way : r.state.way ≡ way_is x.way
  pub place : r.state.place ≡ place_behind x.way x.steps.place
  pub worker : ShowsWorker t w x r.state.worker

module _ (t : Setting) (w : ℕ) (s : machine.State) (clear : s.refusals ≡ []) where
  pub ready_is : machine.ready t w s ≡ machine.ready_by t w s s.way
  ready_is = ap (λ ms. machine.ready_with t w s (machine.mark_now ms)) clear

  pub at_exchange : (x : Local) (n : ℕ) → IsReached t w n s → (r : machine.Ready) → machine.ready t w s ≡ r → IsAtReady t w x r →
      IsAtExchange t w x s
  at_exchange x n reached r e at = record {
    exchanges = n;
    reached = reached;
    purpose = ap (λ (q : machine.Ready). q.purpose) e ∙ at.purpose;
    way = ap (λ (q : machine.Ready). q.state.way) e ∙ at.way;
    place = ap (λ (q : machine.Ready). q.state.place) e ∙ at.place;
    clear = clear;
    worker = subst (λ (q : machine.Ready). ShowsWorker t w x q.state.worker) (sym e) at.worker;
  }

-- ---- the number of instructions

tail_most : (b : Bool) (n k : ℕ) → (if b then 0 else n - k) ≤ n
tail_most true n k = omega arith
tail_most false n k = omega arith

pub rank_most : (code : SuperstepCode) (bound : ℕ) (x : WorkerState) → rank code bound x ≤ most_instructions code bound
rank_most code bound x =
    let n = length code.instructions in
    let a = tail_most (is_mark (slice_get code.instructions x.place)) n x.place in
    let b : (bound - x.uniform.count) * (n + 1) ≤ bound * (n + 1) = mul-le (bound - x.uniform.count) (n + 1) bound (n + 1) (omega arith)
    (omega arith) in
    omega (arith, a, b)

-- ---- where its code stops

close_is : (held : Bool) → (if held then machine.Sends else machine.Closes) ≡ purpose_is (if held then purposes.Send else purposes.Close)
close_is true = refl
close_is false = refl

still_going : (stop : StretchEnd) (way : Way) → machine.is_over (way_is way) ≡ false → machine.is_over (way_is (way_at stop way)) ≡ false
still_going (ends.Close ended) way h = refl
still_going stop way h = h

fewer : (stop : StretchEnd) (way : Way) (held : Bool) → way ≡ ways.On → (n k : ℕ) → n ≤ k →
    left_at_by (way_at stop way) (purpose_at stop held) n ≤ left_by way k
fewer (ends.Close ended) way true e n k h = subst (λ v. 2 ≤ left_by v k) (sym e) (omega arith)
fewer (ends.Close ended) way false e n k h = subst (λ v. 1 ≤ left_by v k) (sym e) (omega arith)
fewer ends.Send way held e n k h = subst (λ v. left_at_by v purposes.Send n ≤ left_by v k) (sym e) (omega (arith, h))
fewer ends.Reply way held e n k h = subst (λ v. left_at_by v purposes.Reply n ≤ left_by v k) (sym e) (omega (arith, h))
fewer (ends.Vote d) way held e n k h = subst (λ v. left_at_by v (purposes.Vote d) n ≤ left_by v k) (sym e) (omega (arith, h))

goes_at : (stop : StretchEnd) (way : Way) (held : Bool) → way ≡ ways.On → GoesWith (way_at stop way) (purpose_at stop held)
goes_at ends.Send way held e = subst (λ v. GoesWith v purposes.Send) (sym e) tt
goes_at ends.Reply way held e = subst (λ v. GoesWith v purposes.Reply) (sym e) tt
goes_at (ends.Vote d) way held e = subst (λ v. GoesWith v (purposes.Vote d)) (sym e) tt
goes_at (ends.Close ended) way true e = tt
goes_at (ends.Close ended) way false e = tt

module _ (code : SuperstepCode) (m : Shape) (bound : ℕ) (is_code : IsCode code) (a : Local) (y : WorkerState) (on : a.way ≡ ways.On)
    (go : MayGoOn code m bound a) where
  abbrev moved : Local
  moved = record a { steps = y }

  stands_at : (stop : StretchEnd) → StandsAt code bound (stop_is stop) y → way_at stop a.way ≡ ways.On →
      slice_get code.instructions y.place ≡ Some (instr_of (purpose_at stop (is_held (put_is y.uniform.put))))
  stands_at ends.Send h e = h
  stands_at ends.Reply h e = h
  stands_at (ends.Vote d) h e = h
  stands_at (ends.Close ended) h e = absurd (cc e)

  equipped_still : IsFitted code y → IsSameBank a.steps.bank y.bank → IsEquipped code m moved
  equipped_still fitted same =
      let e = go.equipped in record {
        fitted = fitted;
        workers = same.workers ∙ e.workers;
        sent = (let n = same.most in let k = e.sent in omega (arith, n, k));
        cells = e.cells ∙ ap m.width (sym same.worker);
        asked = e.asked;
        few = e.few;
        buffers = e.buffers;
        values = e.values ∙ sym same.most;
        below = e.below;
      }

  module _ (t : Setting) (s : machine.State) (place : ℕ) (z : Worker) (way : s.way ≡ way_is a.way)
      (worker : ShowsWorker t a.steps.bank.worker moved z) where
    at_ready : (stop : StretchEnd) → IsAtReady t a.steps.bank.worker (stopped_at stop moved)
        (machine.ready_at s (At (stop_is stop) y.place z))
    at_ready ends.Send = record {
      purpose = refl;
      way = way;
      place = ap (λ v. place_behind v y.place) (sym on);
      worker = record { shows = worker.shows; cells = worker.cells; sent = worker.sent; taken = worker.taken };
    }
    at_ready ends.Reply = record {
      purpose = refl;
      way = way;
      place = ap (λ v. place_behind v y.place) (sym on);
      worker = record { shows = worker.shows; cells = worker.cells; sent = worker.sent; taken = worker.taken };
    }
    at_ready (ends.Vote d) = record {
      purpose = refl;
      way = way;
      place = ap (λ v. place_behind v y.place) (sym on);
      worker = record { shows = worker.shows; cells = worker.cells; sent = worker.sent; taken = worker.taken };
    }
    at_ready (ends.Close ended) = record {
      purpose = ap (λ (u : UniformPart). if is_held u.put then machine.Sends else machine.Closes) worker.shows.uniform
          ∙ close_is (is_held (put_is y.uniform.put));
      way = refl;
      place = refl;
      worker = record { shows = worker.shows; cells = worker.cells; sent = worker.sent; taken = worker.taken };
    }

  -- at most eight reads are held on a path
  few_held : IsVerifiedAt code y → length y.uniform.asks.items ≤ 8
  few_held v =
      let within = (paths_sound code go.runnable.formed v.steps v.point v.comes).within.asks in
      let held = v.describes.asks in
      omega (arith, within, held)

  -- the state at the exchange
  at_next : (stop : StretchEnd) → ArrivesAt code bound (stop_is stop) a.steps y → IsSameBank a.steps.bank y.bank → (n : ℕ)
      (s : machine.State) →
      most_instructions code bound < n → IsShown (setting code m bound n) a.steps.bank.worker a s →
      IsAtExchange (setting code m bound n) a.steps.bank.worker (stopped_at stop moved) s
  at_next stop arrives same n s enough sh =
      let t = setting code m bound n in
      let lt : rank code bound a.steps < n = (let r = rank_most code bound a.steps in omega (arith, r, enough)) in
      let k = arrives t s.worker n (record {
        code_is = refl;
        bound_is = refl;
        as_many = sym go.equipped.workers;
        shows = sh.worker.shows;
      }) lt in
      let at : machine.stretch t a.steps.bank.worker s ≡ At (stop_is stop) y.place k.worker =
      ap (λ p. stretch_by t a.steps.bank.worker n p s.worker) sh.place ∙ k.at in
      let is : machine.ready t a.steps.bank.worker s ≡ machine.ready_at s (At (stop_is stop) y.place k.worker) =
      ready_is t a.steps.bank.worker s sh.clear
      ∙ ap (machine.ready_by t a.steps.bank.worker s) (sh.way ∙ ap way_is on)
      ∙ ap (machine.ready_at s) at in
      at_exchange t a.steps.bank.worker s sh.clear (stopped_at stop moved) sh.exchanges sh.reached
      (machine.ready_at s (At (stop_is stop) y.place k.worker)) is
      (at_ready t s y.place k.worker sh.way
      (record {
        shows = k.shows;
        cells = k.carried.cells ∙ sh.worker.cells;
        sent = sh.worker.sent ∙ ap (map unanswered) (sym k.carried.wanted);
        taken = λ j. ap (λ l. slice_index_or l j []) k.carried.taken ∙ sh.worker.taken j;
      }) stop)

  pub arrived : (stop : StretchEnd) → ArrivesAt code bound (stop_is stop) a.steps y → StandsAt code bound (stop_is stop) y →
      IsFitted code y →
      IsVerifiedAt code y → y.uniform.count ≤ bound → IsSameBank a.steps.bank y.bank →
      rank code bound y ≤ rank code bound a.steps →
      HasArrived code m bound a (stopped_at stop moved)
  arrived stop arrives stands fitted verified count same falls =
      let e = equipped_still fitted same in
      let comes = at_next stop arrives same in
      record {
        at = record {
          equipped = record {
            fitted = e.fitted;
            workers = e.workers;
            sent = e.sent;
            cells = e.cells;
            asked = e.asked;
            few = e.few;
            buffers = e.buffers;
            values = e.values;
            below = e.below;
          };
          going = still_going stop a.way go.going;
          count = count;
          verified = λ h. verified;
          stands = stands_at stop stands;
          goes = goes_at stop a.way (is_held (put_is y.uniform.put)) on;
          few = λ h. few_held verified;
          awaited = λ h.
              awaits (setting code m bound go.enough) is_code go.runnable.map go.runnable.formed a.steps.bank.worker (stopped_at stop moved)
              go.state (comes go.enough go.state go.is_enough go.shown) fitted.registers fitted.places h;
        };
        shown = comes;
        worker = same.worker;
        falls = fewer stop a.way (is_held (put_is y.uniform.put)) on (rank code bound y) (rank code bound a.steps) falls;
      }

-- ---- a run that ends

pub ended : (code : SuperstepCode) (m : Shape) (bound : ℕ) (a : Local) → MayGoOn code m bound a → (a.way ≡ ways.On → ⊥) →
    HasArrived code m bound a (record a { purpose = purposes.Close })
ended code m bound a go off =
    let e = go.equipped in record {
      at = record {
        equipped = record {
          fitted = e.fitted;
          workers = e.workers;
          sent = e.sent;
          cells = e.cells;
          asked = e.asked;
          few = e.few;
          buffers = e.buffers;
          values = e.values;
          below = e.below;
        };
        going = go.going;
        count = go.count;
        verified = go.verified;
        stands = λ h. absurd (off h);
        goes = closing a.way off go.going;
        few = λ h. cc;
        awaited = λ h. cc;
      };
      shown = λ n s enough sh.
          let t = setting code m bound n in
          at_exchange t a.steps.bank.worker s sh.clear (record a { purpose = purposes.Close }) sh.exchanges sh.reached
          (record { purpose = machine.Closes; state = s }) (ready_is t a.steps.bank.worker s sh.clear ∙ closes t s a.way sh.way off)
          (record {
            purpose = refl;
            way = sh.way;
            place = sh.place ∙ stays a.way off a.steps.place;
            worker = (let q = sh.worker in record { shows = q.shows; cells = q.cells; sent = q.sent; taken = q.taken });
          });
      worker = refl;
      falls = no_more a.way off (rank code bound a.steps);
    }
  where
    closing : (way : Way) → (way ≡ ways.On → ⊥) → machine.is_over (way_is way) ≡ false → GoesWith way purposes.Close
    closing ways.On h k = absurd (h refl)
    closing (ways.Ending ended) h k = tt
    closing (ways.Past key ended) h k = cc
    closing (ways.Stopped mark) h k = cc

    no_more : (way : Way) → (way ≡ ways.On → ⊥) → (n : ℕ) → left_at_by way purposes.Close n ≤ left_by way n
    no_more ways.On h n = absurd (h refl)
    no_more (ways.Ending ended) h n = omega arith
    no_more (ways.Past key ended) h n = omega arith
    no_more (ways.Stopped mark) h n = omega arith

    stays : (way : Way) → (way ≡ ways.On → ⊥) → (place : ℕ) → place ≡ place_behind way place
    stays ways.On h place = absurd (h refl)
    stays way h place = refl

    closes : (t : Setting) (s : machine.State) (way : Way) → s.way ≡ way_is way → (way ≡ ways.On → ⊥) →
        machine.ready_by t a.steps.bank.worker s s.way ≡ record { purpose = machine.Closes; state = s }
    closes t s ways.On e h = absurd (h refl)
    closes t s (ways.Ending ended) e h = ap (machine.ready_by t a.steps.bank.worker s) e
    closes t s (ways.Past key ended) e h = ap (machine.ready_by t a.steps.bank.worker s) e
    closes t s (ways.Stopped mark) e h = ap (machine.ready_by t a.steps.bank.worker s) e
