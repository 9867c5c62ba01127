-- Workers before the first instruction.
use Rattle.std.specs.Prelude.{◌≡◌, ℕ, ◌≤◌, List, [], Some, ℤ, slice_get, vec_capacity}
use Rattle.pram_model.specs.Layout.{total_size}
use Rattle.address_map.specs.Lawful.{Shape}
use Rattle.superstep_instructions.specs.Code.{SuperstepCode}
use Rattle.superstep_machine.specs.Run.{opening, setting}
use Rattle.worker_exchange.specs.Shown.{IsShown}
use Rattle.worker_exchange.specs.Equipped.{MayGoOn}
use Rattle.exchange_counts.specs.Tallies.{made_of, rows_of}
use Rattle.bsp_machine.specs.declared.counted.CountedWorker.{CountedWorker}
use Rattle.bsp_machine.specs.declared.end_room.EndRoom.{EndRoom}
use Rattle.bsp_machine.specs.Reserves.{IsReserved}
use Rattle.bsp_machine.specs.Workers.{HasItems}

-- Worker w before the first instruction, within any bound.
pub record IsFresh (code : SuperstepCode) (m : Shape) (input : List ℤ) (w : ℕ) (x : CountedWorker) : Type 0 where
  pub worker : x.local.steps.bank.worker ≡ w
  pub shown : (bound n : ℕ) → IsShown (setting code m bound n) w x.local (opening (setting code m bound n) input w)
  pub going : (bound : ℕ) → MayGoOn code m bound x.local
  pub none : rows_of x.counts ≡ []
  pub none_made : made_of x.counts ≡ 0
  pub items : HasItems x
  pub reserved : IsReserved x

abbrev pub AreFresh : SuperstepCode → Shape → List ℤ → List CountedWorker → Type 0
AreFresh code m input workers = (w : ℕ) (x : CountedWorker) → slice_get workers w ≡ Some x → IsFresh code m input w x

-- from some input
pub record AreOpened (code : SuperstepCode) (m : Shape) (workers : List CountedWorker) : Type 0 where
  pub input : List ℤ
  pub fresh : AreFresh code m input workers

-- room for the values of all cells and for what each worker counts
pub record IsRoom (code : SuperstepCode) (m : Shape) (room : EndRoom) : Type 0 where
  pub no_values : room.memory.items ≡ []
  pub values : total_size code.layout ≤ vec_capacity room.memory
  pub no_columns : room.columns.items ≡ []
  pub columns : m.parts ≤ vec_capacity room.columns
