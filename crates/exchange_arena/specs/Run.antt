-- Where a run of words lies, and what stands in it.
use Rattle.std.specs.Prelude.{◌≡◌, ℕ, List}
use denote.RawPtr.{Ptr}
use Rattle.exchange_arena.specs.declared.run.Run.{Run}

-- the run begins s words into the block at b, and has room for n words, the first of which are xs
pub record IsRun (run : Run) (b : Ptr) (s n : ℕ) (xs : List ℕ) : Type 0 where
  pub base : run.base ≡ b
  pub start : run.start ≡ s
  pub room : run.room ≡ n
  pub items : run.items ≡ xs
