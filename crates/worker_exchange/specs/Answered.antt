-- What a reply leaves of a worker between two exchanges.
use Rattle.std.specs.Prelude.{◌≡◌, ℕ, ◌<◌, ◌^◌, List, [], length, map, ℤ}
use Rattle.std.specs.List.{zip}
use Rattle.superstep_machine.specs.Answering.{answers, destinations, uniform_answered}
use Rattle.instruction_steps.specs.declared.uniform.UniformState.{UniformState}
use Rattle.instruction_steps.specs.Views.{read_is, uniform_of, KeepsReserve}
use Rattle.combining.specs.Asked.{HeldAsk, value_for}
use Rattle.worker_bank.specs.Bank.{registers_at, IsBank, IsSameBank}
use Rattle.worker_steps.specs.declared.worker.WorkerState.{WorkerState}
use Rattle.worker_steps.specs.Shown.{cells_at}

-- with the asks came these values, by read and cell
abbrev pub Gives : List HeldAsk → (ℕ → ℕ → ℤ) → Type 0
Gives held value = (read cell : ℕ) → cell < 2 ^ 20 → value_for read cell held ≡ value read cell

-- Each awaited read of the uniform part got the value that came; nothing is awaited; and all else is as it was.
pub record IsAnsweredPart (held : List HeldAsk) (u v : UniformState) : Type 0 where
  pub shown : (value : ℕ → ℕ → ℤ) → Gives held value → uniform_of v ≡ uniform_answered value (uniform_of u)
  pub none : v.awaited.items ≡ []
  pub asks : v.asks ≡ u.asks
  pub put : v.put ≡ u.put
  pub count : v.count ≡ u.count
  pub width : v.width ≡ u.width
  pub output : v.output ≡ u.output
  pub reserve : KeepsReserve u v

-- Each processor got them too, and all else of the worker is as it was.
pub record IsAnswered (held : List HeldAsk) (x y : WorkerState) : Type 0 where
  pub part : IsAnsweredPart held x.uniform y.uniform
  pub own : (value : ℕ → ℕ → ℤ) (j : ℕ) → Gives held value → j < x.bank.masks.many → registers_at y.bank j
      ≡ answers value 0
      (zip (destinations (map read_is x.uniform.awaited.items)) (cells_at (length x.uniform.awaited.items) x.awaited.items j))
      (registers_at x.bank j)
  pub bank : IsBank y.bank
  pub masks : y.bank.masks ≡ x.bank.masks
  pub same : IsSameBank x.bank y.bank
  pub rest : y ≡ record x { uniform = y.uniform; bank = y.bank }
