use Rattle.std.proofs.Common.{◌≡◌, drop, map}
use Rattle.journal.specs.Entries.{act_is}
use Rattle.pictures.specs.Flows.Marks.{carries}
use Rattle.pictures.proofs.flows.links.carries.Given as goal

abbrev pub invariant-loop-act : goal.invariant-loop-act
invariant-loop-act l = carries (map act_is (drop l.act-index l.acts)) l.from l.to ≡ carries (map act_is l.acts) l.from l.to
