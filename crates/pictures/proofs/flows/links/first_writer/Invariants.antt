use Rattle.std.proofs.Common.{◌≡◌, ◌+◌, ◌-◌, ◌≤◌, Some, drop, length, map}
use Rattle.std.specs.List.{position_or_len}
use Rattle.journal.specs.Entries.{Act, act_is}
use Rattle.pictures.specs.Flows.Marks.{is_written}
use Rattle.pictures.proofs.flows.links.first_writer.Given as goal

abbrev pub invariant-loop-at : goal.invariant-loop-at
invariant-loop-at l = record {
  is : l.at + position_or_len (λ (a : Act). is_written a.write (Some l.cell)) (map act_is (drop l.at l.acts))
      ≡ position_or_len (λ (a : Act). is_written a.write (Some l.cell)) (map act_is l.acts);
  within : l.at ≤ length l.acts;
}

abbrev pub decreases-loop-at : goal.decreases-loop-at
decreases-loop-at l = length l.acts - l.at
