use Rattle.std.proofs.Common.{◌<◌, length, ◌∙◌, arith}
use Rattle.exchange_counts.specs.CountedExchanges.{exchange_at}
use Rattle.exchange_counts.proofs.Greatest.{most_more, reached_more, is_greatest, relation_is}
use Rattle.exchange_counts.proofs.counts.Counts.exchange.Goals as goal

pub workers-preserved : goal.workers-preserved
workers-preserved c =
    let e = exchange_at c.args.self.now c.args.k in
    let w = c.workers.w in
    let known = c.workers.invariant in
    let as_many = c.workers-workers.ensures.sent c.args.k c.requires.first c.requires.last in
    let as_many_too = c.workers-workers.ensures.received c.args.k c.requires.first c.requires.last in
    let sent : w < length e.sent = omega (arith, as_many) in
    let received : w < length e.received = omega (arith, as_many_too) in
    record {
      sent_most = most_more e.sent w c.workers.sent known.sent_most known.sent_reached c.sent.result c.max-sent.result c.sent.ensures
          c.max-sent.ensures;
      sent_reached = reached_more e.sent w c.workers.sent known.sent_most known.sent_reached c.sent.result c.max-sent.result c.sent.ensures
          c.max-sent.ensures sent;
      received_most = most_more e.received w c.workers.received known.received_most known.received_reached c.received.result
          c.max-received.result c.received.ensures c.max-received.ensures;
      received_reached = reached_more e.received w c.workers.received known.received_most known.received_reached c.received.result
          c.max-received.result c.received.ensures c.max-received.ensures received;
    }

pub returns-clause-relation : goal.returns-clause-relation
returns-clause-relation c =
    let e = exchange_at c.args.self.now c.args.k in
    let w = c.workers.w in
    let known = c.workers.invariant in
    let as_many = c.workers-workers.ensures.sent c.args.k c.requires.first c.requires.last in
    let as_many_too = c.workers-workers.ensures.received c.args.k c.requires.first c.requires.last in
    c.max.ensures
    ∙ relation_is e c.workers.sent c.workers.received
    (is_greatest e.sent w c.workers.sent known.sent_most known.sent_reached (omega (arith, as_many)))
    (is_greatest e.received w c.workers.received known.received_most known.received_reached (omega (arith, as_many_too)))
