use Rattle.std.proofs.Common.{◌≡◌, drop, map}
use Rattle.journal.specs.Entries.{act_is}
use Rattle.pictures.specs.Flows.Marks.{writes}
use Rattle.pictures.proofs.flows.links.writes.Given as goal

abbrev pub invariant-loop-act : goal.invariant-loop-act
invariant-loop-act l = writes (map act_is (drop l.act-index l.acts)) l.cell ≡ writes (map act_is l.acts) l.cell
