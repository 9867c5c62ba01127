use Rattle.std.proofs.Common.{◌≡◌, ℕ, ◌<◌, ◌*◌, length, map, vec_capacity, refl, sym, ap, ◌∙◌, arith, Vec}
use Rattle.std.specs.Vec.{with_items}
use Rattle.std.specs.Global.{Global}
use Rattle.std.proofs.lemmas.List.{with_items_is, length-map}
use Rattle.superstep_machine.specs.HeaderWords.{read_header}
use Rattle.superstep_machine.specs.WordReading.{put_length, ask_part}
use Rattle.superstep_machine.specs.Run.{setting, Sends}
use Rattle.combining.specs.AllModules.{column}
use Rattle.combining.specs.Asked.{HeldAsks}
use Rattle.worker_bank.specs.declared.bank.Bank.{Bank}
use Rattle.worker_exchange.specs.Rows.{message_at}
use Rattle.worker_exchange.specs.Sends.{words_of}
use Rattle.worker_exchange.specs.declared.local.Local.{Local}
use Rattle.instruction_steps.specs.Views.{uniform_of}
use Rattle.worker_exchange.specs.Shown.{cells_asked}
use Rattle.worker_exchange.specs.Equipped.{most_words}
use Rattle.worker_exchange.specs.Received.{messages_to}
use Rattle.worker_exchange.proofs.SentLemmas.{taken_are, sent_shown}
use Rattle.worker_exchange.proofs.FittedLemmas.{verified_sent, drop_short, few_kept, settled_long, equipped_sent}
use Rattle.worker_exchange.proofs.taking.take_send.Goals as goal

pub returns-clause-shows : goal.returns-clause-shows
returns-clause-shows g c = λ code bound n y is shows asks.
    let m = g.M.AddressMap.shape c.args.map.now in
    let t = setting code m bound n in
    let x = c.args.local.now in
    let w = x.steps.bank.worker in
    let came = g.C.Column.came c.args.column.now in
    let new = c.keep_asks.new.asked in
    let z : Local = record x {
      steps = c.send_worker.new.steps;
      cells = c.settle-noted.new.cells;
      sent = c.send_worker.new.sent;
      asked = with_items x.asked new;
    } in
    let same = c.keep_asks.auto.asked in
    let slice = c.as_mut_slice.ensures.len in
    let value = ap length c.as_mut_slice.ensures.value in
    let items : (with_items x.asked new).items ≡ new = with_items_is x.asked new (same ∙ slice) in
    let count = length-map new (λ (v : Vec ℕ Global). v.items) in
    let asked = c.requires.asked in
    let many = c.requires.column in
    sent_shown t w x z y (messages_to code.rule m w Sends came) c.settle-noted.result shows asks c.send_worker.ensures.steps
    (c.settle-noted.ensures code bound n is) (ap (λ (a : HeldAsks). a.held) c.send_worker.ensures.sent)
    (λ j. taken_are code.rule m w came (words_of new) (omega (arith, same, value, count, asked, many))
    (λ i l. c.keep_asks.ensures.words i (omega (arith, l, value, asked, many))
    ∙ ap (λ r. ask_part r (read_header (message_at came i).header) (message_at came i).words) is) j
    ∙ ap (λ xs. cells_asked m w (column (words_of xs) j)) (sym items))

pub returns-clause-equipped : goal.returns-clause-equipped
returns-clause-equipped g c = λ code is below e.
    let m = g.M.AddressMap.shape c.args.map.now in
    let x = c.args.local.now in
    let w = x.steps.bank.worker in
    let came = g.C.Column.came c.args.column.now in
    let new = c.keep_asks.new.asked in
    let z : Local = record x {
      steps = c.send_worker.new.steps;
      cells = c.settle-noted.new.cells;
      sent = c.send_worker.new.sent;
      asked = with_items x.asked new;
    } in
    let same = c.keep_asks.auto.asked in
    let slice = c.as_mut_slice.ensures.len in
    let value = c.as_mut_slice.ensures.value in
    let long = ap length value in
    let items : (with_items x.asked new).items ≡ new = with_items_is x.asked new (same ∙ slice) in
    let count = length-map new (λ (v : Vec ℕ Global). v.items) in
    let asked = c.requires.asked in
    equipped_sent code m x z c.settle-noted.result c.send_worker.ensures.steps c.send_worker.ensures.room c.send_worker.ensures.sent
    (settled_long (setting code m 0 0) w (uniform_of x.steps.uniform) (messages_to code.rule m w Sends came) x.cells
    c.settle-noted.new.cells c.settle-noted.result (c.settle-noted.ensures code 0 0 is) c.requires.cells)
    (ap (map vec_capacity) items ∙ c.keep_asks.ensures.rooms ∙ ap (map vec_capacity) value)
    (λ j. few_kept (words_of (with_items x.asked new).items) (most_words code m)
    (λ i l.
    let n : i < m.parts = (let q = ap length items in let k = length-map (with_items x.asked new).items (λ (v : Vec ℕ Global). v.items) in
    omega (arith, l, k, q, same, long, asked)) in
    let is_part = ap (λ xs. length (column (words_of xs) i)) items
    ∙ ap length (c.keep_asks.ensures.words i (omega (arith, n, long, asked))) in
    let short = drop_short ((read_header (message_at came i).header).puts * put_length (g.R.WriteRule.rule c.args.rule.now))
    (message_at came i).words in
    let within = c.requires.room i n in
    let most = e.asked.room i n in
    omega (arith, is_part, short, within, most)) j)
    refl refl below e

pub returns-clause-verified : goal.returns-clause-verified
returns-clause-verified g c = λ code formed v there.
    verified_sent code c.args.local.now.steps c.send_worker.new.steps c.settle-noted.result c.send_worker.ensures.steps formed v there

pub returns-clause-still : goal.returns-clause-still
returns-clause-still g c =
    let sent = c.send_worker.ensures.steps in
    record {
      worker = ap (λ (b : Bank). b.worker) sent.bank;
      way = refl;
      place = sent.place;
      count = sent.uniform.count;
      output = sent.uniform.output;
      reserve = sent.uniform.reserve;
    }
