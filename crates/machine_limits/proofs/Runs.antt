-- Stretches and exchanges keep the values of all workers.
use Rattle.std.proofs.Common.{◌≡◌, ℕ, zero, suc, ◌+◌, List, [], ◌∷◌, map, Bool, true, false, eqb, Option, Some, None, Ok, Err, ℤ, pos, refl}
use Rattle.std.proofs.Common.{subst, arith, FitsSigned}
use Rattle.std.specs.Prelude.{if◌then◌else◌, ◌&&◌, slice_get, slice_index_or}
use Rattle.std.specs.List.{AllByRecursion, filter, zip, range_with_len, list_any}
use Rattle.std.specs.Int.{w64}
use Rattle.std.proofs.lemmas.List.{length-map}
use Rattle.pram_model.specs.declared.rule.Rule.{Rule}
use Rattle.pram_model.specs.declared.rule.Rule.TheVariants.{Erew, Crew, Common, Priority, Sum}
use Rattle.pram_values.specs.declared.kind.Kind.TheVariants.{WriteConflict}
use Rattle.pram_values.specs.Value.{Value, checked}
use Rattle.pram_values.specs.Truth.{is_nonzero}
use Rattle.write_rules.specs.declared.entry.Entry.{Entry}
use Rattle.superstep_machine.specs.declared.mark.HeaderMark.{HeaderMark}
use Rattle.superstep_machine.specs.declared.mark.HeaderMark.TheVariants.{Clear, OutOfMemory, OutOfReserve}
use Rattle.superstep_instructions.specs.declared.instr.Instr.{Instr}
use Rattle.superstep_instructions.specs.declared.instr.Instr.TheVariants.{Mark, Send, Reply, Vote, Jump, JumpIfZero, Halt}
use Rattle.superstep_instructions.specs.Limits.{IsCode, IsInstr}
use Rattle.superstep_machine.specs.Setting.{Setting, workers, module_cells}
use Rattle.superstep_machine.specs.Parts.{Read, PrivatePart}
use Rattle.superstep_machine.specs.Words.{CellAsk, Message, blank}
use Rattle.superstep_machine.specs.Worker.{Worker, after_instr}
use Rattle.superstep_machine.specs.Stretch.{Stop, ToSend, ToReply, ToVote, ToClose, Arrival, Nowhere, At, advance, until}
use Rattle.superstep_machine.specs.Machine.{phase, phases, column}
use Rattle.superstep_machine.specs.Sending.{verdict_on, settled, own_sent, entry_came, after_send}
use Rattle.superstep_machine.specs.Answering.{look_up, value_came, destinations, own_answered, after_reply, after_vote}
use Rattle.superstep_machine.specs.Run.{Purpose, Sends, Replies, Votes, Closes, Way, On, Ending, Past, Refused, Lost, State, Ready}
use Rattle.superstep_machine.specs.Run.{mark_now, no_worker, stretch, ready, ready_at, ready_by, ready_with, message_for, message_with}
use Rattle.superstep_machine.specs.Run.{message_of, mark_of, after_exchange, after_with, after, bsp, opening}
use Rattle.superstep_machine.proofs.MachineWords.{all_map, zero_fits, value_fits, values_fit}
use Rattle.bsp_verify.specs.Runs.{worker_after}
use Rattle.bsp_verify.specs.Moments.{walked}
use Rattle.bsp_verify.proofs.WorkerLemmas.{all_made}
use Rattle.flat_machine.specs.Flatness.{IsMapFor}
use Rattle.machine_limits.specs.Within.{AreValues, HaveValues, ValuesFit}
use Rattle.machine_limits.proofs.Values.{Fits, checked_fits, truth_set, answers_fit}
use Rattle.machine_limits.proofs.Keeping.{IsOwnKept, IsKept, instr_kept}

-- ---- stretches

pub all_at : {A : Type 0} (P : A → Type 0) (xs : List A) → AllByRecursion P xs → (k : ℕ) (x : A) → slice_get xs k ≡ Some x → P x
all_at P [] h k x e = cc
all_at P (y ∷ ys) h zero x e = subst P (let d : y ≡ x = cc in d) h.0
all_at P (y ∷ ys) h (suc k) x e = all_at P ys h.1 k x e

pub all_also : {A : Type 0} (P Q : A → Type 0) → ((x : A) → P x → Q x) → (xs : List A) → AllByRecursion P xs → AllByRecursion Q xs
all_also P Q f [] h = tt
all_also P Q f (x ∷ xs) h = (f x h.0, all_also P Q f xs h.1)

-- Whatever the instructions of a code keep, stretches keep.
module _ (t : Setting) (w : ℕ) (P : Instr → Type 0)
    (stands : (place : ℕ) (i : Instr) → slice_get t.code.instructions place ≡ Some i → P i) (K : Worker → Type 0)
    (keeps : (i : Instr) → P i → (x : Worker) → K x → K (after_instr t w i x)) where
  module _ {R : Type 0} (Good : R → Type 0) (nowhere : R) (lost : Good nowhere) (stops : Stop → ℕ → Worker → R)
      (stopping : (stop : Stop) (place : ℕ) (x : Worker) → K x → Good (stops stop place x))
      (next : ℕ → Worker → R) (going : (place : ℕ) (x : Worker) → K x → Good (next place x)) (place : ℕ) (x : Worker) (h : K x) where
    marked : (line : ℕ) → P (Mark line) → (b : Bool) →
        Good (if b then stops (ToClose false) place x else next (place + 1) (after_instr t w (Mark line) x))
    marked line a true = stopping (ToClose false) place x h
    marked line a false = going (place + 1) (after_instr t w (Mark line) x) (keeps (Mark line) a x h)

    forked : (target : ℕ) (b : Bool) → Good (if b then next (place + 1) x else next target x)
    forked target true = going (place + 1) x h
    forked target false = going target x h

    by_instr : (i : Instr) → P i → Good (advance t.bound (λ (y : Worker). y.uniform) (after_instr t w) nowhere stops next (Some i) place x)
    by_instr (Mark line) a = marked line a (eqb x.uniform.count t.bound)
    by_instr Send a = stopping ToSend place x h
    by_instr Reply a = stopping ToReply place x h
    by_instr (Vote d) a = stopping (ToVote d) place x h
    by_instr (Jump target) a = going target x h
    by_instr (JumpIfZero r target) a = forked target (is_nonzero (x.uniform.registers r))
    by_instr Halt a = stopping (ToClose true) place x h
    by_instr i a = going (place + 1) (after_instr t w i x) (keeps i a x h)

    goes : (o : Option Instr) → slice_get t.code.instructions place ≡ o →
        Good (advance t.bound (λ (y : Worker). y.uniform) (after_instr t w) nowhere stops next o place x)
    goes None e = lost
    goes (Some i) e = by_instr i (stands place i e)

  abbrev pub KeepsAt : Arrival Worker → Type 0
  KeepsAt Nowhere = Unit {0}
  KeepsAt (At stop place x) = K x

  pub until_keeps : (n place : ℕ) (x : Worker) → K x →
      KeepsAt (until t.bound (λ (y : Worker). y.uniform) (after_instr t w) t.code.instructions n place x)
  until_keeps zero place x h = tt
  until_keeps (suc n) place x h =
      goes KeepsAt Nowhere tt (λ stop k y. At stop k y) (λ stop k y g. g) (until t.bound (λ (y : Worker). y.uniform) (after_instr t w)
      t.code.instructions n) (until_keeps n) place x h
      (slice_get t.code.instructions place) refl

  abbrev pub KeepsThen : Option (ℕ × Worker) → Type 0
  KeepsThen None = Unit {0}
  KeepsThen (Some (place, x)) = K x

  pub walked_keeps : (n place : ℕ) (x : Worker) → K x →
      KeepsThen (walked t.bound (λ (y : Worker). y.uniform) (after_instr t w) t.code.instructions n place x)
  walked_keeps zero place x h = h
  walked_keeps (suc n) place x h =
      goes KeepsThen None tt (λ stop k y. None) (λ stop k y g. tt) (walked t.bound (λ (y : Worker). y.uniform) (after_instr t w)
      t.code.instructions n) (walked_keeps n) place x h
      (slice_get t.code.instructions place) refl

  -- up to an exchange
  pub ready_keeps : K no_worker → (s : State) → K s.worker → K (ready t w s).state.worker
  ready_keeps none s h = marks (mark_now s.refusals)
    where
      arrived : (a : Arrival Worker) → KeepsAt a → K (ready_at s a).state.worker
      arrived Nowhere g = h
      arrived (At ToSend place x) g = g
      arrived (At ToReply place x) g = g
      arrived (At (ToVote d) place x) g = g
      arrived (At (ToClose ended) place x) g = g

      by_way : (way : Way) → K (ready_by t w s way).state.worker
      by_way On = arrived (stretch t w s) (until_keeps t.enough s.place s.worker h)
      by_way (Ending ended) = h
      by_way (Past key ended) = h
      by_way (Refused mark) = h
      by_way Lost = h

      marks : (mark : HeaderMark) → K (ready_with t w s mark).state.worker
      marks Clear = by_way s.way
      marks OutOfMemory = none
      marks OutOfReserve = none

-- So it is by what is so of every instruction of a code.
module _ (t : Setting) (code : IsCode t.code) (w : ℕ) (K : Worker → Type 0) (keeps : (i : Instr) → IsInstr i → (x : Worker) → K x →
    K (after_instr t w i x)) where
  pub stands_in : (place : ℕ) (i : Instr) → slice_get t.code.instructions place ≡ Some i → IsInstr i
  stands_in place i e = all_at IsInstr t.code.instructions code.instructions place i e

  abbrev pub KeptAt : Arrival Worker → Type 0
  KeptAt = KeepsAt t w IsInstr stands_in K keeps

  pub until_kept : (n place : ℕ) (x : Worker) → K x →
      KeptAt (until t.bound (λ (y : Worker). y.uniform) (after_instr t w) t.code.instructions n place x)
  until_kept = until_keeps t w IsInstr stands_in K keeps

  abbrev pub KeptThen : Option (ℕ × Worker) → Type 0
  KeptThen = KeepsThen t w IsInstr stands_in K keeps

  pub walked_kept : (n place : ℕ) (x : Worker) → K x →
      KeptThen (walked t.bound (λ (y : Worker). y.uniform) (after_instr t w) t.code.instructions n place x)
  walked_kept = walked_keeps t w IsInstr stands_in K keeps

  pub ready_kept : K no_worker → (s : State) → K s.worker → K (ready t w s).state.worker
  ready_kept = ready_keeps t w IsInstr stands_in K keeps

-- ---- exchanges

abbrev pub FitsVerdict : Option Value → Type 0
FitsVerdict None = Unit {0}
FitsVerdict (Some v) = Fits v

unless_fits : (b : Bool) (z : ℤ) → Fits (if b then Err WriteConflict else checked z)
unless_fits true z = tt
unless_fits false z = checked_fits z

-- what writers leave is a value
pub verdict_fits : (rule : Rule) (o : Option Entry) → FitsVerdict (verdict_on rule o)
verdict_fits rule None = tt
verdict_fits Erew (Some e) = unless_fits e.clash e.value
verdict_fits Crew (Some e) = unless_fits e.clash e.value
verdict_fits Common (Some e) = unless_fits e.clash e.value
verdict_fits Priority (Some e) = checked_fits e.value
verdict_fits Sum (Some e) = checked_fits e.value

pub settled_fits : (v : Option Value) (old : ℤ) → FitsVerdict v → FitsSigned w64 old → FitsSigned w64 (settled v old)
settled_fits None old f g = g
settled_fits (Some (Ok x)) old f g = f
settled_fits (Some (Err kind)) old f g = g

all_second : {A : Type 0} (xs : List A) (zs : List ℤ) → AreValues zs → AllByRecursion (λ (x : A × ℤ). FitsSigned w64 x.1) (zip xs zs)
all_second [] zs h = tt
all_second (x ∷ xs) [] h = tt
all_second (x ∷ xs) (z ∷ zs) h = (h.0, all_second xs zs h.1)

look_up_fits : (k c : ℕ) (found : List (CellAsk × ℤ)) → AllByRecursion (λ (x : CellAsk × ℤ). FitsSigned w64 x.1) found →
    FitsSigned w64 (look_up k c found)
look_up_fits k c [] h = zero_fits
look_up_fits k c ((x, value) ∷ rest) h = go (eqb x.read k && eqb x.cell c) (look_up_fits k c rest h.1)
  where
    go : (b : Bool) → FitsSigned w64 (look_up k c rest) → FitsSigned w64 (if b then value else look_up k c rest)
    go true g = h.0
    go false g = g

-- messages with values of 64 bits
abbrev pub AreOfValues : List Message → Type 0
AreOfValues = AllByRecursion (λ (m : Message). AreValues m.values)

message_at : (messages : List Message) (j : ℕ) → AreOfValues messages → AreValues (slice_index_or messages j blank).values
message_at [] j h = tt
message_at (m ∷ ms) zero h = h.0
message_at (m ∷ ms) (suc j) h = message_at ms j h.1

module _ (t : Setting) (w : ℕ) where
  abbrev count : ℕ
  count = t.map.count

  module _ (x : Worker) (h : IsKept t w x) (messages : List Message) (m : AreOfValues messages) where
    came_fits : (k c : ℕ) → FitsSigned w64 (value_came t x messages k c)
    came_fits k c =
        look_up_fits k c _ (all_second (filter (λ (y : CellAsk). eqb (t.map.part y.cell) (t.map.part c)) x.wanted) _
        (message_at messages (t.map.part c) m))

    sent_kept : IsKept t w (after_send t w x messages)
    sent_kept = record {
      uniform = record { values = h.uniform.values; indices = h.uniform.indices; asks = tt; output = h.uniform.output };
      own = all_map (IsOwnKept count) (IsOwnKept count) own_sent (λ y k. record { values = k.values; asks = tt }) x.own h.own;
      cells = all_map (λ (y : ℕ × ℤ). FitsSigned w64 y.1) (FitsSigned w64)
          (λ (y : ℕ × ℤ). settled (verdict_on t.code.rule (entry_came t.code.rule messages (t.map.cell w y.0))) y.1)
          (λ y f. settled_fits (verdict_on t.code.rule (entry_came t.code.rule messages (t.map.cell w y.0))) y.1
          (verdict_fits t.code.rule (entry_came t.code.rule messages (t.map.cell w y.0))) f)
          (zip (range_with_len 0 (t.map.width w)) x.cells) (all_second (range_with_len 0 (t.map.width w)) x.cells h.cells);
      writes = tt;
      few_own = λ l. let a = length-map x.own own_sent in let b = h.few_own l in omega (arith, a, b);
      few_held = λ l. omega arith;
    }

    replied_kept : IsKept t w (after_reply t x messages)
    replied_kept = record {
      uniform = record {
        values = answers_fit (value_came t x messages) came_fits 0 (map (λ (r : Read). (r.destination, r.cell)) x.uniform.awaited)
            x.uniform.registers h.uniform.values;
        indices = h.uniform.indices;
        asks = h.uniform.asks;
        output = h.uniform.output;
      };
      own = all_map (IsOwnKept count) (IsOwnKept count) (own_answered (value_came t x messages) x.uniform.awaited)
          (λ y k. record {
            values = answers_fit (value_came t x messages) came_fits 0 (zip (destinations x.uniform.awaited) y.awaited)
                y.registers k.values;
            asks = k.asks;
          }) x.own h.own;
      cells = h.cells;
      writes = h.writes;
      few_own = λ l. let a = length-map x.own (own_answered (value_came t x messages) x.uniform.awaited) in let b = h.few_own l in
          omega (arith, a, b);
      few_held = h.few_held;
    }

    voted_kept : (d : ℕ) → IsKept t w (after_vote d x messages)
    voted_kept d = record {
      uniform = record {
        values = truth_set d (list_any (λ (y : Message). y.active) messages) x.uniform.registers h.uniform.values;
        indices = h.uniform.indices;
        asks = h.uniform.asks;
        output = h.uniform.output;
      };
      own = h.own;
      cells = h.cells;
      writes = h.writes;
      few_own = h.few_own;
      few_held = h.few_held;
    }

    pub exchange_kept : (p : Purpose) → IsKept t w (after_exchange t w p x messages)
    exchange_kept Sends = sent_kept
    exchange_kept Replies = replied_kept
    exchange_kept (Votes d) = voted_kept d
    exchange_kept Closes = h

  pub none_kept : IsKept t w no_worker
  none_kept = record {
    uniform = record { values = λ r. zero_fits; indices = λ v l. absurd (omega (arith, l)); asks = tt; output = tt };
    own = tt;
    cells = tt;
    writes = tt;
    few_own = λ l. omega arith;
    few_held = λ l. omega arith;
  }

  -- a reply has values of cells, and nothing else has values
  pub message_values : (s : State) (j : ℕ) → IsKept t w (ready t w s).state.worker → AreValues (message_of t w s j).values
  message_values s j h = marks (mark_now s.refusals)
    where
      by_purpose : (p : Purpose) → AreValues (message_for t p (ready t w s).state.worker j).values
      by_purpose Sends = tt
      by_purpose Replies = values_fit _ (λ c. value_fits (ready t w s).state.worker.cells (t.map.offset c) h.cells) _
      by_purpose (Votes d) = tt
      by_purpose Closes = tt

      marks : (mark : HeaderMark) → AreValues (message_with t (ready t w s) j mark).values
      marks Clear = by_purpose (ready t w s).purpose
      marks OutOfMemory = tt
      marks OutOfReserve = tt

-- ---- whole runs

pub input_fits : (input : List ℤ) → AreValues input → (c : ℕ) → FitsSigned w64 (slice_index_or input c (pos 0))
input_fits input h c = value_fits input c h

module _ (t : Setting) (code : IsCode t.code) (room : IsMapFor t.code t.map) where
  abbrev pub keeps : (w : ℕ) (i : Instr) → IsInstr i → (x : Worker) → IsKept t w x → IsKept t w (after_instr t w i x)
  keeps w i a x h = instr_kept t code room w x h i a

  pub readies_kept : (w : ℕ) (s : State) → IsKept t w s.worker → IsKept t w (ready t w s).state.worker
  readies_kept w s h = ready_kept t code w (IsKept t w) (keeps w) (none_kept t w) s h

  pub after_kept : (w : ℕ) (r : Ready) (messages : List Message) → IsKept t w r.state.worker → AreOfValues messages →
      IsKept t w (after t w r messages).worker
  after_kept w r messages h m = marks (mark_of messages)
    where
      marks : (mark : HeaderMark) → IsKept t w (after_with t w r messages mark).worker
      marks Clear = exchange_kept t w r.state.worker h messages m r.purpose
      marks OutOfMemory = none_kept t w
      marks OutOfReserve = none_kept t w

  -- a column of messages of such workers
  pub column_values : (ws : ℕ → State) → ((w : ℕ) → IsKept t w (ws w).worker) → (w : ℕ) → AreOfValues (column (bsp t) (workers t) ws w)
  column_values ws h w =
      all_made (λ (m : Message). AreValues m.values) (λ (i : ℕ). message_of t i (ws i) w)
      (λ i. message_values t i (ws i) w (readies_kept i (ws i) (h i)))
      (range_with_len 0 (workers t))

  pub phase_kept : (ws : ℕ → State) → ((w : ℕ) → IsKept t w (ws w).worker) → (w : ℕ) → IsKept t w (phase (bsp t) (workers t) ws w).worker
  phase_kept ws h w = after_kept w (ready t w (ws w)) (column (bsp t) (workers t) ws w) (readies_kept w (ws w) (h w)) (column_values ws h w)

  phases_kept : (n : ℕ) (ws : ℕ → State) → ((w : ℕ) → IsKept t w (ws w).worker) → (w : ℕ) →
      IsKept t w (phases (bsp t) (workers t) n ws w).worker
  phases_kept zero ws h w = h w
  phases_kept (suc n) ws h w = phases_kept n (phase (bsp t) (workers t) ws) (phase_kept ws h) w

  module _ (input : List ℤ) (values : AreValues input) where
    pub opening_kept : (w : ℕ) → IsKept t w (opening t input w).worker
    opening_kept w =
        let none = none_kept t w in record {
          uniform = none.uniform;
          own = tt;
          cells = values_fit (λ c. slice_index_or input c (pos 0)) (input_fits input values) (module_cells t w);
          writes = tt;
          few_own = none.few_own;
          few_held = none.few_held;
        }

    -- all workers after n exchanges
    pub kept_after : (n w : ℕ) → IsKept t w (worker_after t input n w).worker
    kept_after n w = phases_kept n (opening t input) opening_kept w

pub values_fit_in_runs : ValuesFit
values_fit_in_runs t input g n m w place x e =
    let s = worker_after t input n w in
    let k : IsKept t w x = subst (λ (o : Option (ℕ × Worker)). KeptThen t g.code w (IsKept t w) (keeps t g.code g.room w) o) e
    (walked_kept t g.code w (IsKept t w) (keeps t g.code g.room w) m s.place s.worker (kept_after t g.code g.room input g.values n w)) in
    record {
      uniform = k.uniform.values;
      own = all_also (IsOwnKept t.map.count) (λ (y : PrivatePart). HaveValues y.registers)
          (λ y h. h.values) x.own k.own;
      cells = k.cells;
      output = k.uniform.output;
    }
