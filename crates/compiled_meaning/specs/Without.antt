-- Outside pardo: a run between two statements shows the state of the program.
use Rattle.std.specs.Prelude.{ℕ, Bool}
use Rattle.pram_check.specs.Checked.{Checked}
use Rattle.pram_meaning.specs.Store.{State}
use Rattle.pram_meaning.specs.Values.{HasValues}
use Rattle.flat_machine.specs.Flat.{Flat}
use Rattle.flat_stretches.specs.Applied.{applied}
use Rattle.flat_stretches.specs.Along.{Run}
use Rattle.compiled_formulas.specs.Outside.{ShowsOutside}
use Rattle.compiled_meaning.specs.Between.{IsBetween, HasSizes}

-- the registers and the memory show it, seen with the held write applied; and each of its values has 64 bits
pub record IsWithout (p : Checked) (t : Run) (held : Bool) (m : State) (place spent : ℕ) (f : Flat) : Type 0 where
  pub between : IsBetween t held m place spent f
  pub shows : ShowsOutside p m (applied t.code f)
  pub sizes : HasSizes p m
  pub values : HasValues m
