-- The reserve that a worker may be given, and the mark by which it stops.
use Rattle.std.specs.Prelude.{◌≡◌, ℕ, ◌≤◌, ◌||◌, ◌⊎◌, List, Bool, Option, None, Some, slice_get, vec_capacity, nat_lt, nat_le}
use Rattle.std.specs.List.{AllByRecursion}
use Rattle.superstep_machine.specs.declared.mark.HeaderMark.{HeaderMark}
use Rattle.superstep_machine.specs.declared.mark.HeaderMark.TheVariants.{Clear, OutOfMemory, OutOfReserve}
use Rattle.superstep_machine.specs.HeaderWords.{read_header}
use Rattle.instruction_steps.specs.Views.{HasReserve}
use Rattle.exchange_counts.specs.Tallies.{room_of}
use Rattle.worker_exchange.specs.Rows.{WrittenMessage}
use Rattle.worker_exchange.specs.declared.refusal.RunRefusal.{RunRefusal}
use Rattle.worker_exchange.specs.declared.refusal.RunRefusal.TheVariants as refusals
use Rattle.worker_exchange.specs.declared.way.Way.{Way}
use Rattle.worker_exchange.specs.declared.way.Way.TheVariants.{Stopped}
use Rattle.bsp_machine.specs.declared.counted.CountedWorker.{CountedWorker}
use Rattle.run_options.specs.declared.reserve.Reserve.{Reserve}

-- more items are printed than a reserve has, or so many exchanges made that the next is one too many
abbrev pub is_past : Reserve → ℕ → ℕ → Bool
is_past r items exchanges = nat_lt r.items items || nat_le r.exchanges exchanges

-- if it was given a reserve, there is room for all items of that, and to count its exchanges
abbrev pub IsReserved : CountedWorker → Type 0
IsReserved x = (r : Reserve) → x.reserve ≡ Some r →
    (HasReserve r.items x.local.steps.uniform) × (r.items ≤ vec_capacity x.items) × (r.exchanges ≤ room_of x.counts)

-- by which mark a worker stops by itself: by that of refused memory, or by that of its reserve
abbrev pub own_mark : Option Reserve → HeaderMark
own_mark None = OutOfMemory
own_mark (Some r) = OutOfReserve

-- no mark, or this one
abbrev pub IsMark : HeaderMark → HeaderMark → Type 0
IsMark own mark = (mark ≡ Clear) ⊎ (mark ≡ own)

-- no message has another one
abbrev pub AreMarked : HeaderMark → List WrittenMessage → Type 0
AreMarked own = AllByRecursion (λ (x : WrittenMessage). IsMark own (read_header x.header).mark)

-- It was given this reserve, or none; and if it has stopped, it was stopped by the mark for that.
pub record IsGiven (reserve : Option Reserve) (x : CountedWorker) : Type 0 where
  pub given : x.reserve ≡ reserve
  pub stopped : (mark : HeaderMark) → x.local.way ≡ Stopped mark → mark ≡ own_mark reserve

-- all of them
abbrev pub HaveReserve : Option Reserve → List CountedWorker → Type 0
HaveReserve reserve workers = (w : ℕ) (x : CountedWorker) → slice_get workers w ≡ Some x → x.reserve ≡ reserve

abbrev pub AreGiven : Option Reserve → List CountedWorker → Type 0
AreGiven reserve workers = (w : ℕ) (x : CountedWorker) → slice_get workers w ≡ Some x → IsGiven reserve x

-- ---- why a run is refused whose workers have stopped

-- as the mark says that has stopped them
abbrev pub refusal_by : Way → RunRefusal
refusal_by (Stopped OutOfReserve) = refusals.OutOfReserve
refusal_by way = refusals.OutOfMemory

-- for workers that were given this reserve, or none
abbrev pub refusal_for : Option Reserve → RunRefusal
refusal_for None = refusals.OutOfMemory
refusal_for (Some r) = refusals.OutOfReserve
