use Rattle.std.proofs.Common.{[], sym, ap, ◌∙◌, arith, vec_capacity}
use Rattle.combining.proofs.AllColumns.{same_of_all}
use Rattle.worker_exchange.proofs.PartLemmas.{one_kept}
use Rattle.worker_exchange.proofs.replying.forget.Goals as goal

pub workers-preserved : goal.workers-preserved
workers-preserved c =
    let asked = c.workers.asked in
    let j = c.workers.j in
    record {
      none = one_kept asked j c.clear.new.self (λ i. []) (omega arith) c.clear.ensures.items c.workers.invariant.none;
      rooms = same_of_all vec_capacity asked j c.index-asked-j.result c.clear.new.self c.index-asked-j.is
          (c.clear.ensures.capacity ∙ ap vec_capacity (sym c.index-asked-j.is))
          ∙ c.workers.invariant.rooms;
    }
