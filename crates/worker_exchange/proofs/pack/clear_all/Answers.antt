use Rattle.std.proofs.Common.{◌<◌, length, ap, sym, ◌∙◌, arith, vec_capacity}
use Rattle.combining.proofs.AllColumns.{same_of_all}
use Rattle.worker_exchange.proofs.SendLemmas.{one_cleared}
use Rattle.worker_exchange.proofs.pack.clear_all.Goals as goal

pub columns-preserved : goal.columns-preserved
columns-preserved c =
    let row = c.columns.columns in
    let v = c.index-columns-j.result in
    let l : c.columns.j < length row = omega arith in
    record {
      words = one_cleared row c.columns.j c.clear.new.self l c.clear.ensures.items c.columns.invariant.words;
      rooms = same_of_all vec_capacity row c.columns.j v c.clear.new.self c.index-columns-j.is
          (c.clear.ensures.capacity ∙ ap vec_capacity (sym c.index-columns-j.is))
          ∙ c.columns.invariant.rooms;
    }
