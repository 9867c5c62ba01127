use Rattle.std.proofs.Common.{◌≡◌, drop, map}
use Rattle.journal.specs.Entries.{act_is}
use Rattle.pictures.specs.Flows.Marks.{values}
use Rattle.pictures.proofs.flows.links.values.Given as goal

abbrev pub invariant-loop-act : goal.invariant-loop-act
invariant-loop-act l = values l.aside (map act_is (drop l.act-index l.acts)) l.from l.to ≡ values l.aside (map act_is l.acts) l.from l.to
