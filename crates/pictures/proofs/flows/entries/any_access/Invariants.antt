use Rattle.std.proofs.Common.{◌≡◌, drop, map}
use Rattle.std.specs.List.{list_any}
use Rattle.journal.specs.Entries.{act_is}
use Rattle.pictures.specs.Flows.Choice.{is_access}
use Rattle.pictures.proofs.flows.entries.any_access.Given as goal

abbrev pub invariant-loop-act : goal.invariant-loop-act
invariant-loop-act l = list_any is_access (map act_is (drop l.act-index l.acts)) ≡ list_any is_access (map act_is l.acts)
