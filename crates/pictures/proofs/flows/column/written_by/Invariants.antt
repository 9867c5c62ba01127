use Rattle.std.proofs.Common.{◌≡◌, ◌++◌, drop, map}
use Rattle.journal.specs.Entries.{act_is}
use Rattle.pictures.specs.Flows.Drawing.{written_by}
use Rattle.pictures.specs.Flows.Values.{value_at}
use Rattle.pictures.proofs.flows.column.written_by.Given as goal

-- with those of the acts that are left
abbrev pub invariant-loop-act : goal.invariant-loop-act
invariant-loop-act l = l.written.items ++ written_by (value_at l.values) (map act_is (drop l.act-index l.acts))
    ≡ written_by (value_at l.values) (map act_is l.acts)
