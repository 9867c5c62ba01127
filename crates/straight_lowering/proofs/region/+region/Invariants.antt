use Rattle.std.proofs.Common.{◌≡◌}
use Rattle.plain_form.specs.Regions.{place, region}
use Rattle.straight_lowering.specs.Cursors.{behind, so_far}
use Rattle.straight_lowering.specs.Written.{added}
use Rattle.straight_lowering.proofs.region.+region.Given as goal

-- the code of the links so far
abbrev pub invariant-loop-link : goal.invariant-loop-link
invariant-loop-link l = record {
  written : l.out ≡ added (region l.side (so_far l.e l.link-items l.link-index) l.fn.at.read l.base l.fn.at.position) l.fn.out;
  register : l.left.register ≡ place l.side (so_far l.e l.link-items l.link-index) l.fn.at.read l.base;
  behind : l.left.behind ≡ behind (so_far l.e l.link-items l.link-index) l.fn.at;
}
