-- Inside pardo: a run between two statements shows the state of the program, and the set of processors that are active is the frame's.
use Rattle.std.specs.Prelude.{◌≡◌, ℕ, Bool, length}
use Rattle.std.specs.List.{AllByRecursion}
use Rattle.pram_check.specs.Checked.{Checked}
use Rattle.pram_meaning.specs.Store.{State, Member}
use Rattle.pram_meaning.specs.Values.{HasValues}
use Rattle.flat_machine.specs.Flat.{Flat}
use Rattle.flat_stretches.specs.Applied.{applied}
use Rattle.flat_stretches.specs.Along.{Run}
use Rattle.flat_stretches.specs.Frames.{Frame, StandsIn}
use Rattle.plain_form.specs.Registers.{behind_locals}
use Rattle.compiled_formulas.specs.Inside.{ShowsInside}
use Rattle.compiled_meaning.specs.Between.{IsBetween, HasSizes}

-- The registers of processors from `base` on are free; those between the locals and `base` are the flags of open loops.
pub record IsWithin (p : Checked) (t : Run) (locals base : ℕ) (fr : Frame) (held : Bool) (m : State) (place spent : ℕ) (f : Flat) : Type 0
  where
    pub between : IsBetween t held m place spent f
    pub shows : ShowsInside p locals m (applied t.code f)
    pub stands : StandsIn (behind_locals locals) base fr (applied t.code f)
    pub sizes : HasSizes p m
    pub locals_of : AllByRecursion (λ (g : Member). length g.locals ≡ locals) m.team
    pub values : HasValues m
