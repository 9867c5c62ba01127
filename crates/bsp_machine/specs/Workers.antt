-- The workers of a run, between two exchanges and at one.
use Rattle.std.specs.Prelude.{◌≡◌, ℕ, ◌<◌, ◌≤◌, List, [], map, length, Some, Bool, true, false, ℤ, vec_capacity, slice_get}
use Rattle.std.specs.List.{range_with_len}
use Rattle.address_map.specs.Lawful.{Shape}
use Rattle.superstep_instructions.specs.Code.{SuperstepCode}
use Rattle.superstep_machine.specs.declared.mark.HeaderMark.{HeaderMark}
use Rattle.superstep_machine.specs.Setting.{Setting}
use Rattle.superstep_machine.specs.Machine.{column}
use Rattle.superstep_machine.specs.Run.{State, bsp, after, is_over, message_of, ready, setting}
use Rattle.superstep_machine.specs.Trace.{exchange_of, sum_over, words_between}
use Rattle.bsp_verify.specs.Runs.{worker_after}
use Rattle.worker_exchange.specs.Rows.{WrittenMessage, IsRow, written, message_at, words_in}
use Rattle.superstep_machine.specs.declared.purpose.Purpose.{Purpose}
use Rattle.worker_exchange.specs.declared.way.Way.TheVariants.{Stopped}
use Rattle.worker_exchange.specs.declared.local.Local.{Local}
use Rattle.worker_exchange.specs.Reached.{most_instructions}
use Rattle.superstep_machine.specs.Purposes.{purpose_is}
use Rattle.worker_exchange.specs.Shown.{way_is, is_stopped, marked, IsShown, IsAtExchange}
use Rattle.worker_exchange.specs.Equipped.{MayGoOn, IsAtStep}
use Rattle.worker_exchange.specs.MessagesWritten.{IsWrittenFor}
use Rattle.worker_exchange.specs.Received.{messages_to}
use Rattle.exchange_counts.specs.declared.count.Count.{Count}
use Rattle.exchange_counts.specs.declared.tally.Tally.{Tally}
use Rattle.exchange_counts.specs.Tallies.{is_kept, made_of, room_of, rows_of}
use Rattle.worker_histories.specs.Shares.{Share, share_of}
use Rattle.bsp_machine.specs.declared.counted.CountedWorker.{CountedWorker}
use Rattle.run_options.specs.declared.reserve.Reserve.{Reserve}
use Rattle.bsp_machine.specs.declared.sheet.Sheet.{Sheet}
use Rattle.bsp_machine.specs.Reserves.{is_past, own_mark, IsReserved}
use Rattle.bsp_machine.specs.Sheets.{messages_in, IsSheet}

-- ---- what a worker counts

-- what a worker counts at an exchange at which so many words came to it
abbrev pub count_of : Local → ℕ → Count
count_of x received = record { purpose = x.purpose; sent = x.buffers.sent; received = received }

abbrev pub share_told : Count → Share
share_told c = record { purpose = purpose_is c.purpose; sent = c.sent; received = c.received }

-- the part of a worker at an exchange, from whom this row went and to whom this came
abbrev pub share_at : CountedWorker → List WrittenMessage → List WrittenMessage → Share
share_at x row came = record { purpose = purpose_is x.local.purpose; sent = words_in row; received = words_in came }

-- worker w's parts of the first k exchanges
abbrev pub shares : Setting → List ℤ → ℕ → ℕ → List Share
shares t input w k = map (λ i. share_of w (exchange_of t (worker_after t input i))) (range_with_len 0 k)

-- a worker's tally of these exchanges: as many, and each as it was where they are kept
pub record IsTold (counts : Tally) (told : List Share) : Type 0 where
  pub made : made_of counts ≡ length told
  pub rows : is_kept counts ≡ true → map share_told (rows_of counts) ≡ told

-- ---- one worker

-- there is room for all items of its output
pub record HasItems (x : CountedWorker) : Type 0 where
  pub none : x.items.items ≡ []
  pub room : length x.local.steps.uniform.output.items ≤ vec_capacity x.items

module _ (code : SuperstepCode) (m : Shape) (bound : ℕ) where
  -- Between two exchanges it is worker w, shows this state for each number of instructions that is enough, and has counted this much; if
  -- it hasn't stopped.
  pub record IsBetween (states : ℕ → State) (told : ℕ → List Share) (w : ℕ) (x : CountedWorker) : Type 0 where
    pub worker : is_stopped x.local.way ≡ false → x.local.steps.bank.worker ≡ w
    pub shown : is_stopped x.local.way ≡ false → (n : ℕ) → most_instructions code bound < n →
        IsShown (setting code m bound n) w x.local (states n)
    pub going : is_over (way_is x.local.way) ≡ false → MayGoOn code m bound x.local
    pub counted : is_stopped x.local.way ≡ false → (n : ℕ) → most_instructions code bound < n →
        IsTold x.counts (told n)
    pub items : is_stopped x.local.way ≡ false → HasItems x
    pub reserved : is_stopped x.local.way ≡ false → IsReserved x

  -- At the exchange behind such a state it has a row of the messages of worker w, with a mark if it has stopped. If it was given a reserve,
  -- it has stopped exactly where the state at the exchange is past that.
  pub record IsStanding (states : ℕ → State) (told : ℕ → List Share) (w : ℕ) (x : CountedWorker) (row : List WrittenMessage) : Type 0 where
    pub worker : is_stopped x.local.way ≡ false → x.local.steps.bank.worker ≡ w
    pub shown : is_stopped x.local.way ≡ false → (n : ℕ) → most_instructions code bound < n →
        IsAtExchange (setting code m bound n) w x.local (states n)
    pub filled : (n : ℕ) → most_instructions code bound < n →
        IsRow m.parts (λ j. written code.rule (message_of (setting code m bound n) w (marked x.local.way (states n)) j)) row
    pub read : (n j : ℕ) → most_instructions code bound < n → j < m.parts →
        IsWrittenFor code.rule m j (purpose_is x.local.purpose)
        (message_of (setting code m bound n) w (marked x.local.way (states n)) j) (message_at row j)
    pub refused : (mark : HeaderMark) → x.local.way ≡ Stopped mark → mark ≡ own_mark x.reserve
    pub past : (r : Reserve) (n : ℕ) → x.reserve ≡ Some r → most_instructions code bound < n → is_stopped x.local.way
        ≡ is_past r (length (ready (setting code m bound n) w (states n)).state.worker.uniform.output) (length (told n))
    pub sent : is_stopped x.local.way ≡ false → x.local.buffers.sent ≡ words_in row
    pub counted : is_stopped x.local.way ≡ false → (n : ℕ) → most_instructions code bound < n →
        IsTold x.counts (told n)
    pub items : is_stopped x.local.way ≡ false → HasItems x
    pub reserved : is_stopped x.local.way ≡ false → IsReserved x

  -- the state behind the exchange at which these words came
  abbrev pub state_behind : ℕ → CountedWorker → List WrittenMessage → State → ℕ → State
  state_behind w x came s n =
      after (setting code m bound n) w (ready (setting code m bound n) w s)
      (messages_to code.rule m w (purpose_is x.local.purpose) came)

  -- ---- one worker of the run from an input

  -- behind k exchanges
  abbrev pub IsBehind : List ℤ → ℕ → ℕ → CountedWorker → Type 0
  IsBehind input k w x =
      IsBetween (λ n. worker_after (setting code m bound n) input k w) (λ n. shares (setting code m bound n) input w k) w x

  -- at the exchange behind them
  abbrev pub IsAt : List ℤ → ℕ → ℕ → CountedWorker → List WrittenMessage → Type 0
  IsAt input k w x row =
      IsStanding (λ n. worker_after (setting code m bound n) input k w) (λ n. shares (setting code m bound n) input w k) w x row

  -- If it hasn't stopped it stands at an exchange, with room to count it.
  pub record IsReady (x : CountedWorker) : Type 0 where
    pub purpose : is_stopped x.local.way ≡ false → IsAtStep code m bound x.local
    pub room : is_stopped x.local.way ≡ false → made_of x.counts < room_of x.counts

  -- What came to worker w in the exchange behind k is what the machine's workers send to it.
  pub record HasCome (input : List ℤ) (k w : ℕ) (purpose : Purpose) (came : List WrittenMessage) : Type 0 where
    pub messages : (n : ℕ) → most_instructions code bound < n →
        messages_to code.rule m w (purpose_is purpose) came ≡ column (bsp (setting code m bound n)) m.parts
        (worker_after (setting code m bound n) input k) w
    pub words : (n : ℕ) → most_instructions code bound < n →
        words_in came ≡ sum_over (setting code m bound n)
        (λ i. words_between (setting code m bound n) (worker_after (setting code m bound n) input k) i w)

  -- ---- all workers

  abbrev pub AreBehind : List ℤ → ℕ → List CountedWorker → Type 0
  AreBehind input k workers = (w : ℕ) (x : CountedWorker) → slice_get workers w ≡ Some x → IsBehind input k w x

  abbrev pub AreAt : List ℤ → ℕ → List CountedWorker → List Sheet → Type 0
  AreAt input k workers rows = (w : ℕ) (x : CountedWorker) (row : Sheet) → slice_get workers w ≡ Some x → slice_get rows w ≡ Some row →
      IsAt input k w x (messages_in row)

  abbrev pub AreReady : List CountedWorker → Type 0
  AreReady workers = (w : ℕ) (x : CountedWorker) → slice_get workers w ≡ Some x → IsReady x

  abbrev pub MayAllGoOn : List CountedWorker → Type 0
  MayAllGoOn workers = (w : ℕ) (x : CountedWorker) → slice_get workers w ≡ Some x → MayGoOn code m bound x.local

-- all have stopped, or none
abbrev pub AreTogether : List CountedWorker → Type 0
AreTogether workers = (w v : ℕ) (x y : CountedWorker) → slice_get workers w ≡ Some x → slice_get workers v ≡ Some y →
    is_stopped x.local.way ≡ is_stopped y.local.way

-- each keeps what it counts, or none does
abbrev pub AreKept : Bool → List CountedWorker → Type 0
AreKept kept workers = (w : ℕ) (x : CountedWorker) → slice_get workers w ≡ Some x → is_kept x.counts ≡ kept

-- a row for each of p workers, to all of them
pub record AreSheets (p most : ℕ) (rows : List Sheet) : Type 0 where
  pub long : length rows ≡ p
  pub each : (w : ℕ) (row : Sheet) → slice_get rows w ≡ Some row → IsSheet p most row
