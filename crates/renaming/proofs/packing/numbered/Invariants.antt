use Rattle.std.proofs.Common.{◌≡◌, take, map}
use Rattle.renaming.specs.Renamed.{renamed, with_names}
use Rattle.renaming.specs.Numbers.{number_of}
use Rattle.renaming.proofs.packing.numbered.Given as goal

abbrev pub invariant-loop-at : goal.invariant-loop-at
invariant-loop-at l = l.left ≡ record (with_names (number_of l.numbers) l.uniform l.private l.code) {
  instructions = map (renamed (number_of l.numbers)) (take l.at l.code.instructions);
}
