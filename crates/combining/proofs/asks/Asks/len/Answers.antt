use Rattle.std.proofs.Common.{sym, ◌∙◌}
use Rattle.combining.specs.Asked.{ask_at}
use Rattle.combining.proofs.Pairs.{length_paired}
use Rattle.combining.proofs.asks.Asks.len.Goals as goal

pub returns : goal.returns
returns c =
    let x = c.self.inside in
    record {
      length = rw (← c.self.view_is)
          (c.len.ensures.length ∙ sym (length_paired ask_at x.index.keys x.asked.items c.self.invariant.1));
    }
