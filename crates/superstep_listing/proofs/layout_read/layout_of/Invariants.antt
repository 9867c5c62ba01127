use Rattle.std.proofs.Common.{◌≡◌, ◌++◌, length, map}
use Rattle.std.specs.HashSet.{contains_by}
use Rattle.std.specs.Str.{bytes_eq}
use Rattle.superstep_instructions.specs.Limits.{IsLayout}
use Rattle.superstep_listing.specs.Names.{AreKnown}
use Rattle.superstep_listing.specs.Listing.{ended, entry_line}
use Rattle.superstep_listing.proofs.layout_read.layout_of.Given as goal

abbrev pub invariant-loop-entry : goal.invariant-loop-entry
invariant-loop-entry l = record {
  stands : IsLayout l.layout;
  known : AreKnown (λ q. contains_by (λ k. bytes_eq q k.now) l.names) l.layout;
  whole : l.fn.text ≡ ended (map entry_line l.layout) ++ l.rest;
}

abbrev pub decreases-loop-entry : goal.decreases-loop-entry
decreases-loop-entry l = length l.rest
