use Rattle.std.proofs.Common.{◌≡◌, drop}
use Rattle.pictures.specs.Flows.Marks.{has_read}
use Rattle.pictures.proofs.flows.links.has_read.Given as goal

abbrev pub invariant-loop-read : goal.invariant-loop-read
invariant-loop-read l = has_read (drop l.read-index l.reads) l.cell ≡ has_read l.reads l.cell
