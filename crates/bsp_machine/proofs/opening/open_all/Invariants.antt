use Rattle.std.proofs.Common.{◌≡◌, length, None}
use Rattle.bsp_machine.specs.Reserves.{HaveReserve}
use Rattle.bsp_machine.specs.Workers.{AreKept}
use Rattle.bsp_machine.specs.Opening.{AreFresh}
use Rattle.bsp_machine.proofs.opening.open_all.Given as goal

abbrev pub invariant-workers : goal.invariant-workers
invariant-workers g l = record {
  count : length l.all.items ≡ l.worker;
  fresh : AreFresh l.code (g.M.AddressMap.shape l.map) l.input l.all.items;
  none : HaveReserve None l.all.items;
  kept : AreKept l.kept l.all.items;
}
