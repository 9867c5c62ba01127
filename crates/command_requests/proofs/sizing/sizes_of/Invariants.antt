use Rattle.std.proofs.Common.{take}
use Rattle.std.specs.HashSet.{contains_by}
use Rattle.std.specs.Str.{bytes_eq}
use Rattle.command_requests.specs.Given.{AreNamesOf, AreSizesOf}
use Rattle.command_requests.proofs.sizing.sizes_of.Given as goal

-- the sizes so far are those of the words so far, and their names are known
abbrev pub invariant-loop-word : goal.invariant-loop-word
invariant-loop-word l = record {
  sizes : AreSizesOf (take l.word-index l.words) l.sizes.items;
  names : AreNamesOf (λ q. contains_by (λ k. bytes_eq q k.now) l.names) l.sizes.items;
}
