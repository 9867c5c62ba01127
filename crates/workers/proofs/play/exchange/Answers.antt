use Rattle.std.proofs.Common.{◌∙◌}
use Rattle.workers.specs.Seating.{letters}
use Rattle.workers.proofs.HandLemmas.{sent_more, received_more}
use Rattle.workers.proofs.PlayLemmas.{behind_exchange}
use Rattle.workers.proofs.play.exchange.Goals as goal

pub returns-clause-exchanged : goal.returns-clause-exchanged
returns-clause-exchanged g c =
    let code = c.args.code.now in
    let m = g.M.AddressMap.shape c.args.map.now in
    let a = c.args.seat in
    let mid = c.until_exchange.new.row.seat in
    let column = c.of-column.result.seat.column in
    let is = c.of-column.ensures.seat in
    let kept = c.until_exchange.ensures.kept in
    record {
      row = letters mid.row;
      column = letters column;
      sent = sent_more a mid c.cross.result c.of-column.result.seat c.turn.result kept c.cross.ensures.sent is c.turn.ensures.sent;
      received = received_more a mid c.cross.result c.of-column.result.seat c.turn.result kept c.cross.ensures.received is
          c.turn.ensures.received;
      reserve = c.receive.ensures.reserve ∙ c.until_exchange.ensures.reserve;
      kept = c.receive.ensures.kept_rows ∙ c.until_exchange.ensures.kept_rows;
      behind = λ states told b.
          let at = c.until_exchange.ensures.at states told a.worker b in
          behind_exchange code m c.args.bound states told a.worker c.until_exchange.new.self c.receive.new.self (letters mid.row)
          (letters column) at c.receive.ensures.stopped c.receive.ensures.reserve c.receive.ensures.mark
          (c.receive.ensures.behind states told a.worker (letters mid.row) at);
    }
