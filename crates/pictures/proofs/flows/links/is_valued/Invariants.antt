use Rattle.std.proofs.Common.{◌≡◌, drop}
use Rattle.pictures.specs.Flows.Marks.{valued_from}
use Rattle.pictures.proofs.flows.links.is_valued.Given as goal

abbrev pub invariant-reads : goal.invariant-reads
invariant-reads l = record { rest : valued_from l.aside l.k (drop l.k l.reads) l.cell ≡ valued_from l.aside 0 l.reads l.cell }
