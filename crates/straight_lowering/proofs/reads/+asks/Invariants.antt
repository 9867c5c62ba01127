use Rattle.std.proofs.Common.{◌≡◌}
use Rattle.plain_form.specs.Groups as groups
use Rattle.straight_lowering.specs.Cursors.{so_far}
use Rattle.straight_lowering.specs.Depths.{depth_of}
use Rattle.straight_lowering.specs.Written.{added}
use Rattle.straight_lowering.proofs.reads.+asks.Given as goal

-- the asks of the links so far
abbrev pub invariant-loop-link : goal.invariant-loop-link
invariant-loop-link l = record {
  written : l.out
      ≡ added (groups.asks l.side l.level (so_far l.e l.link-items l.link-index) l.fn.at.read l.base l.fn.at.position) l.fn.out;
  depth : l.left ≡ depth_of (so_far l.e l.link-items l.link-index) l.fn.at;
}
