-- From the seats and workers of a run to its tasks, and back.
use Rattle.std.proofs.Common.{◌≡◌, ℕ, zero, suc, ◌+◌, ◌-◌, ◌*◌, ◌/◌, ◌^◌, ◌≤◌, List, [], ◌∷◌, length, map, Bool, Option, Some, ℤ}
use Rattle.std.proofs.Common.{refl, sym, ap, ◌∙◌, subst, arith}
use Rattle.std.specs.Prelude.{slice_get, zip}
use Rattle.std.specs.List.{AllByRecursion}
use Rattle.std.proofs.lemmas.List.{length-map}
use Rattle.address_map.specs.Lawful.{Shape}
use Rattle.superstep_instructions.specs.Code.{SuperstepCode}
use Rattle.superstep_instructions.specs.Limits.{IsCode}
use Rattle.superstep_machine.specs.Run.{opening, setting}
use Rattle.worker_exchange.specs.Equipped.{most_words}
use Rattle.turnstile.specs.Seats.{RowState, AreSeatsOf}
use Rattle.exchange_counts.specs.Tallies.{is_kept}
use Rattle.bsp_machine.specs.declared.counted.CountedWorker.{CountedWorker}
use Rattle.worker_histories.specs.Shares.{Share}
use Rattle.bsp_machine.specs.Workers.{AreKept, IsBetween}
use Rattle.run_options.specs.declared.reserve.Reserve.{Reserve}
use Rattle.bsp_machine.specs.Reserves.{HaveReserve}
use Rattle.bsp_machine.specs.Opening.{AreFresh}
use Rattle.bsp_machine.proofs.ListLemmas.{one_there}
use Rattle.bsp_machine.proofs.MarkLemmas.{going_on}
use Rattle.bsp_machine.proofs.TallyLemmas.{none_told}
use Rattle.workers.specs.Gathered.{HasEnded, HaveEnded}
use Rattle.workers.specs.Worked.{HasWorked}
use Rattle.workers.specs.Crews.{Pairwise}
use Rattle.workers.specs.Tasks.{RunState, TaskState, tasks_for, IsReady, HasPlayed, CanBegin}
use Rattle.workers.proofs.PairLemmas.{pair_at, pairs_long, mapped_at}

-- ---- two lists as one

module _ {A B : Type 0} where
  zip_at : (xs : List A) (ys : List B) (k : ℕ) (p : A × B) → slice_get (zip xs ys) k ≡ Some p →
      (slice_get xs k ≡ Some p.0) × (slice_get ys k ≡ Some p.1)
  zip_at [] ys k p e = absurd (cc)
  zip_at (x ∷ xs) [] k p e = absurd (cc)
  zip_at (x ∷ xs) (y ∷ ys) zero p e = (let s : Option.Some (x, y) ≡ Some p = e in let q : (x, y) ≡ p = cc in
      (ap (λ z. Some z.0) q, ap (λ z. Some z.1) q))
  zip_at (x ∷ xs) (y ∷ ys) (suc k) p e = zip_at xs ys k p e

  zip_long : (xs : List A) (ys : List B) → length ys ≡ length xs → length (zip xs ys) ≡ length xs
  zip_long [] [] e = refl
  zip_long [] (y ∷ ys) e = absurd (omega (arith, e))
  zip_long (x ∷ xs) [] e = absurd (omega (arith, e))
  zip_long (x ∷ xs) (y ∷ ys) e = ap suc (zip_long xs ys (omega (arith, e)))

all_mapped : {A B : Type 0} (P : B → Type 0) (f : A → B) (xs : List A) → ((k : ℕ) (x : A) → slice_get xs k ≡ Some x → P (f x)) →
    AllByRecursion P (map f xs)
all_mapped P f [] each = tt
all_mapped P f (x ∷ xs) each = (each 0 x refl, all_mapped P f xs (λ k y e. each (suc k) y e))

-- the seats of tasks that were made of them
pub seats_of : {M : Type 0} (run : RunState M) (seats : List RowState) (workers : List CountedWorker) → length workers ≡ length seats →
    map (λ (x : TaskState M). x.seat) (tasks_for run seats workers) ≡ seats
seats_of run [] [] e = refl
seats_of run [] (x ∷ workers) e = refl
seats_of run (r ∷ seats) [] e = absurd (omega (arith, e))
seats_of run (r ∷ seats) (x ∷ workers) e = ap (λ rs. r ∷ rs) (seats_of run seats workers (omega (arith, e)))

module _ {M : Type 0} (shape : M → Shape) (run : RunState M) (seats : List RowState) (workers : List CountedWorker)
    (begin : CanBegin shape run seats workers) where
  abbrev m : Shape
  m = shape run.map

  pub same_count : length workers ≡ length seats
  same_count = begin.many ∙ sym begin.parts ∙ sym begin.all.count

  -- ---- before the first exchange

  abbrev task_of : RowState × CountedWorker → TaskState M
  task_of p = record { run = run; seat = p.0; worker = p.1 }

  pub many_tasks : length (tasks_for run seats workers) ≡ length seats
  many_tasks = length-map (zip seats workers) task_of ∙ zip_long seats workers same_count

  -- a worker as one before the first exchange of a run from some input
  began : (input : List ℤ) → AreFresh run.code m input workers → (k : ℕ) (x : CountedWorker) → slice_get workers k ≡ Some x →
      IsBetween run.code m run.bound (λ n. opening (setting run.code m run.bound n) input k) (λ n. []) k x
  began input fresh k x at =
      let f = fresh k x at in
      record {
        worker = λ alive. f.worker;
        shown = λ alive n low. f.shown run.bound n;
        going = λ on. f.going run.bound;
        counted = λ alive n low. none_told x.counts f.none f.none_made;
        items = λ alive. f.items;
        reserved = λ alive. f.reserved;
      }

  pub all_ready : AllByRecursion (IsReady shape) (tasks_for run seats workers)
  all_ready = all_mapped (IsReady shape) task_of (zip seats workers) (λ k p e.
      let at = zip_at seats workers k p e in
      let fresh = begin.fresh k p.0 at.0 in
      let input = begin.opened.input in
      record {
        own = begin.all.tables k p.0 at.0;
        runnable = begin.runnable;
        seat = record { workers = fresh.workers ∙ begin.parts; room = fresh.room ∙ begin.room };
        fresh = (fresh.sent, fresh.received);
        somewhere = record {
          states = λ n. opening (setting run.code m run.bound n) input k;
          told = λ n. [];
          between = subst
              (λ w. IsBetween run.code m run.bound (λ n. opening (setting run.code m run.bound n) input k) (λ n. []) w p.1)
              (sym (begin.all.order k p.0 at.0)) (began input begin.opened.fresh k p.1 at.1);
        };
        runs = going_on p.1.local.way ((begin.opened.fresh k p.1 at.1).going 0).going;
      })

  -- ---- behind the last one

  module _ (played : List (RowState × CountedWorker))
      (all : Pairwise (λ (x : TaskState M) (y : RowState × CountedWorker). HasPlayed shape x y.0 y.1) (tasks_for run seats workers)
      played) where
    -- what came back from a place was made of the task of this place
    record MadeOf (k : ℕ) (y : RowState × CountedWorker) : Type 0 where
      pub seat : RowState
      pub worker : CountedWorker
      pub seat_at : slice_get seats k ≡ Some seat
      pub worker_at : slice_get workers k ≡ Some worker
      pub made : HasPlayed shape (record { run = run; seat = seat; worker = worker }) y.0 y.1

    made_of : (k : ℕ) (y : RowState × CountedWorker) → slice_get played k ≡ Some y → MadeOf k y
    made_of k y e =
        let t = pair_at (λ x z. HasPlayed shape x z.0 z.1) (tasks_for run seats workers) played k y all e in
        let p = mapped_at task_of (zip seats workers) k t.0 t.1 in
        let at = zip_at seats workers k p.0 p.1 in
        record {
          seat = p.0.0;
          worker = p.0.1;
          seat_at = at.0;
          worker_at = at.1;
          made = subst (λ (x : TaskState M). HasPlayed shape x y.0 y.1) (sym p.2) t.2;
        }

    pub many_played : length played ≡ length seats
    many_played = pairs_long (λ x z. HasPlayed shape x z.0 z.1) (tasks_for run seats workers) played all ∙ many_tasks

    pub seats_back : AreSeatsOf run.turnstile (map (λ (y : RowState × CountedWorker). y.0) played)
    seats_back = record {
      count = length-map played (λ (y : RowState × CountedWorker). y.0) ∙ many_played ∙ begin.all.count;
      tables = λ k r e.
          (let y = mapped_at (λ (z : RowState × CountedWorker). z.0) played k r e in
          let t = made_of k y.0 y.1 in
          ap (λ (z : RowState). z.table) (sym y.2) ∙ t.made.owner.table ∙ begin.all.tables k t.seat t.seat_at);
      order = λ k r e.
          (let y = mapped_at (λ (z : RowState × CountedWorker). z.0) played k r e in
          let t = made_of k y.0 y.1 in
          ap (λ (z : RowState). z.worker) (sym y.2) ∙ t.made.owner.worker ∙ begin.all.order k t.seat t.seat_at);
    }

    pub all_ended : (input : List ℤ) → AreFresh run.code m input workers →
        HaveEnded run.code m run.bound input (map (λ (y : RowState × CountedWorker). y.0) played)
        (map (λ (y : RowState × CountedWorker). y.1) played)
    all_ended input fresh = record {
      seats_are = length-map played (λ (y : RowState × CountedWorker). y.0) ∙ many_played ∙ begin.all.count ∙ begin.parts;
      workers_are = length-map played (λ (y : RowState × CountedWorker). y.1) ∙ many_played ∙ begin.all.count ∙ begin.parts;
      each = λ w r x er ex.
          (let a = mapped_at (λ (z : RowState × CountedWorker). z.0) played w r er in
          let b = mapped_at (λ (z : RowState × CountedWorker). z.1) played w x ex in
          let same = ap (λ (z : RowState × CountedWorker). z.1) (one_there played w a.0 b.0 a.1 b.1) ∙ b.2 in
          subst (λ (z : RowState × CountedWorker). HasEnded run.code m run.bound input w z.0 z.1) (λ i. (a.2 i, same i))
          (one_ended input fresh w a.0 a.1));
    }
      where
        one_ended : (input : List ℤ) → AreFresh run.code m input workers → (w : ℕ) (y : RowState × CountedWorker) →
            slice_get played w ≡ Some y → HasEnded run.code m run.bound input w y.0 y.1
        one_ended input fresh w y e =
            let t = made_of w y e in
            let order = begin.all.order w t.seat t.seat_at in
            let told : ℕ → List Share = λ n. [] in
            record {
              workers = t.made.owner.workers ∙ (begin.fresh w t.seat t.seat_at).workers ∙ begin.parts;
              worked = subst (λ v. HasWorked run.code m run.bound (λ n. opening (setting run.code m run.bound n) input w) told v y.0
                  y.1) order
                  (t.made.worked (λ n. opening (setting run.code m run.bound n) input w) told
                  (subst (λ v. IsBetween run.code m run.bound (λ n. opening (setting run.code m run.bound n) input w) told v t.worker)
                  (sym order) (began input fresh w t.worker t.worker_at)));
              over = t.made.over;
            }

    -- each has the reserve that it began with
    pub same_reserve : (reserve : Option Reserve) → HaveReserve reserve workers →
        HaveReserve reserve (map (λ (y : RowState × CountedWorker). y.1) played)
    same_reserve reserve have k x e =
        let y = mapped_at (λ (z : RowState × CountedWorker). z.1) played k x e in
        let t = made_of k y.0 y.1 in
        ap (λ (z : CountedWorker). z.reserve) (sym y.2) ∙ t.made.reserve ∙ have k t.worker t.worker_at

    -- and keeps what it counts as it did then
    pub same_kept : (kept : Bool) → AreKept kept workers → AreKept kept (map (λ (y : RowState × CountedWorker). y.1) played)
    same_kept kept have k x e =
        let y = mapped_at (λ (z : RowState × CountedWorker). z.1) played k x e in
        let t = made_of k y.0 y.1 in
        ap (λ (z : CountedWorker). is_kept z.counts) (sym y.2) ∙ t.made.kept ∙ have k t.worker t.worker_at

  -- the seats of tasks that nobody began
  pub seats_unused : AreSeatsOf run.turnstile (map (λ (x : TaskState M). x.seat) (tasks_for run seats workers))
  seats_unused = subst (AreSeatsOf run.turnstile) (sym (seats_of run seats workers same_count)) begin.all
