use Rattle.std.proofs.Common.{◌≡◌, ◌≤◌, length, map, drop}
use Rattle.flat_machine.specs.Flat as flat
use Rattle.instruction_steps.specs.Views.{read_is}
use Rattle.flat_run.specs.Views.{flat_of}
use Rattle.flat_run.proofs.conflict.read_conflicts.Given as goal

abbrev pub invariant-reads : goal.invariant-reads
invariant-reads l =
    (l.k ≤ length l.reads)
    × (l.noted ≡ flat.read_conflicts l.code (flat_of l.machine) l.k (map read_is (drop l.k l.reads)))

abbrev pub decreases-reads : goal.decreases-reads
decreases-reads l = l.k
