use Rattle.std.proofs.Common.{◌≡◌, ◌<◌, sym, subst, ap, ◌∙◌, arith}
use Rattle.worker_exchange.specs.Rows.{IsRow, written, message_at}
use Rattle.superstep_machine.specs.Run.{setting, message_of}
use Rattle.instruction_steps.specs.Views.{KeepsReserve}
use Rattle.worker_exchange.specs.declared.local.Local.{Local}
use Rattle.superstep_machine.specs.Purposes.{purpose_is}
use Rattle.worker_exchange.specs.Shown.{marked, IsAtExchange}
use Rattle.worker_exchange.specs.Equipped.{IsAtStep}
use Rattle.worker_exchange.specs.Arrived.{CanTell}
use Rattle.worker_exchange.specs.MessagesWritten.{told, IsWrittenFor}
use Rattle.worker_exchange.proofs.MessagesWrittenLemmas.{told_is, told_back, same_row, can_tell, still_at, still_stands, unmarked}
use Rattle.worker_exchange.proofs.local.Local.until_exchange.Goals as goal

pub tell-requires-clause-can : goal.tell-requires-clause-can
tell-requires-clause-can g c =
    let m = g.M.AddressMap.shape c.args.map.now in
    subst (λ r. CanTell r m (g.W.Row.room c.args.row.now) c.arrive.new.self) (sym c.requires.rule)
    (can_tell c.args.code.now m c.args.bound c.args.self.now c.arrive.new.self (g.W.Row.room c.args.row.now)
    c.instructions-instructions.ensures.stands c.requires.going c.in-Ok.ensures.arrived c.requires.room)

pub returns-in-Ok-clause-shown : goal.returns-in-Ok-clause-shown
returns-in-Ok-clause-shown g c = λ going n s enough shown.
    let t = setting c.args.code.now (g.M.AddressMap.shape c.args.map.now) c.args.bound n in
    let w = c.args.self.now.steps.bank.worker in
    let b = c.arrive.new.self in
    subst (λ (x : Local). IsAtExchange t w x s) (sym c.tell.ensures.same)
    (still_at b c.tell.new.self.buffers t w s (c.in-Ok.ensures.arrived.shown n s enough shown))

pub returns-in-Ok-clause-at : goal.returns-in-Ok-clause-at
returns-in-Ok-clause-at g c = λ going.
    let code = c.args.code.now in
    let m = g.M.AddressMap.shape c.args.map.now in
    let at = c.in-Ok.ensures.arrived.at in
    subst (λ (x : Local). IsAtStep code m c.args.bound x) (sym c.tell.ensures.same)
    (still_stands c.arrive.new.self c.tell.new.self.buffers code m c.args.bound at
    (c.tell.ensures.buffers _ at.equipped.buffers))

pub returns-in-Ok-clause-row : goal.returns-in-Ok-clause-row
returns-in-Ok-clause-row g c = λ n s enough shown.
    let code = c.args.code.now in
    let m = g.M.AddressMap.shape c.args.map.now in
    let t = setting code m c.args.bound n in
    let w = c.args.self.now.steps.bank.worker in
    let b = c.arrive.new.self in
    let run = c.requires.going.runnable in
    let at = c.in-Ok.ensures.arrived.at in
    let below = at.equipped.fitted.worker in
    let many = at.equipped.workers in
    let same = c.in-Ok.ensures.arrived.worker in
    let row = g.W.Row.filled c.tell.new.row in
    let clear : marked c.tell.new.self.way s ≡ s =
    ap (λ (x : Local). marked x.way s) c.tell.ensures.same ∙ unmarked b.way s at.going in
    subst (λ q. IsRow m.parts (λ j. written code.rule (message_of t w q j)) row) (sym clear)
    (same_row m.parts (told code.rule m b) (λ j. written code.rule (message_of t w s j)) row
    (told_is t c.instructions-instructions.ensures.stands run.map run.formed w (omega (arith, below, many, same)) b s
    (c.in-Ok.ensures.arrived.shown n s enough shown) same)
    (subst (λ r. IsRow m.parts (told r m b) row) c.requires.rule c.tell.ensures.filled))

pub returns-in-Ok-clause-read : goal.returns-in-Ok-clause-read
returns-in-Ok-clause-read g c = λ n s j enough low shown.
    let code = c.args.code.now in
    let m = g.M.AddressMap.shape c.args.map.now in
    let t = setting code m c.args.bound n in
    let w = c.args.self.now.steps.bank.worker in
    let b = c.arrive.new.self in
    let run = c.requires.going.runnable in
    let at = c.in-Ok.ensures.arrived.at in
    let below = at.equipped.fitted.worker in
    let many = at.equipped.workers in
    let same = c.in-Ok.ensures.arrived.worker in
    let stands = c.instructions-instructions.ensures.stands in
    let row = g.W.Row.filled c.tell.new.row in
    let lt : w < m.parts = omega (arith, below, many, same) in
    let shows = c.in-Ok.ensures.arrived.shown n s enough shown in
    let clear : marked c.tell.new.self.way s ≡ s =
    ap (λ (x : Local). marked x.way s) c.tell.ensures.same ∙ unmarked b.way s at.going in
    let is : message_at row j ≡ written code.rule (message_of t w s j) =
    (subst (λ r. IsRow m.parts (told r m b) row) c.requires.rule c.tell.ensures.filled).each j low
    ∙ told_is t stands run.map run.formed w lt b s shows same j in
    subst (λ (x : Local). IsWrittenFor code.rule m j (purpose_is x.purpose) (message_of t w (marked c.tell.new.self.way s) j)
    (message_at row j))
    (sym c.tell.ensures.same)
    (subst (λ q. IsWrittenFor code.rule m j (purpose_is b.purpose) (message_of t w q j) (message_at row j)) (sym clear)
    (subst (λ x. IsWrittenFor code.rule m j (purpose_is b.purpose) (message_of t w s j) x) (sym is)
    (told_back t stands run.map run.formed w lt b s shows same c.tell.ensures.keys j)))

pub returns-in-Ok-clause-reserve : goal.returns-in-Ok-clause-reserve
returns-in-Ok-clause-reserve g c = λ going.
    subst (λ (x : Local). KeepsReserve c.args.self.now.steps.uniform x.steps.uniform) (sym c.tell.ensures.same) c.in-Ok.ensures.reserve
