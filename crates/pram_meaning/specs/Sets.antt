-- What the interpreter keeps inside pardo.
use Rattle.std.specs.Prelude.{◌≡◌, List, Result, Ok, Err, map, ⊤}
use Rattle.std.specs.declared.vec.Vec.{Vec}
use Rattle.std.specs.declared.alloc.Global.{Global}
use Rattle.pram_meaning.specs.declared.part as part
use Rattle.pram_meaning.specs.declared.team as team
use Rattle.pram_meaning.specs.declared.run.Halt.{Halt}
use Rattle.pram_meaning.specs.declared.run.Halt.TheVariants as halt
use Rattle.pram_meaning.specs.declared.run.Run.{Run}
use Rattle.pram_meaning.specs.Store.{Member, State}
use Rattle.pram_meaning.specs.Conflict.{Part}
use Rattle.pram_meaning.specs.Bounded.{Behaviour, Goes, Stops, Reaches}
use Rattle.pram_meaning.specs.Runs.{state_of}
use Rattle.pram_meaning.specs.Judging.{part_is}

abbrev pub member_is : team.Member.Member → Member
member_is g = record { index = g.index; locals = g.locals.items }

-- a run inside pardo, as a state
abbrev pub state_in : Run → List team.Member.Member → State
state_in r team = record (state_of r) { team = map member_is team }

-- how an answer tells of the parts of a set
abbrev pub IsParts : Result (Vec part.Part.Part Global) Halt → State → Behaviour (List Part) → Type 0
IsParts (Ok xs) m b = b ≡ Goes (map part_is xs.items) m
IsParts (Err (halt.Fault k)) m b = b ≡ Stops k m.output
IsParts (Err halt.Bound) m b = b ≡ Reaches m.output
IsParts (Err halt.OutOfMemory) m b = ⊤
