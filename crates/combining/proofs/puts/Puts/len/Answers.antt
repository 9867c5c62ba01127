use Rattle.std.proofs.Common.{sym, ◌∙◌}
use Rattle.combining.specs.Compact.{held_at}
use Rattle.combining.proofs.Pairs.{length_paired}
use Rattle.combining.proofs.puts.Puts.len.Goals as goal

pub returns : goal.returns
returns c =
    let x = c.self.inside in
    record {
      length = rw (← c.self.view_is)
          (c.len.ensures.length ∙ sym (length_paired held_at x.index.keys x.entries.items c.self.invariant.1));
    }
