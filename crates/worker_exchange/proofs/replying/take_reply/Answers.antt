use Rattle.std.proofs.Common.{◌≡◌, ℕ, List, map, take, vec_capacity, refl, sym, ap, subst, ◌∙◌, arith, Bor}
use Rattle.std.specs.Vec.{with_items}
use Rattle.std.proofs.lemmas.List.{with_items_is}
use Rattle.superstep_machine.specs.declared.header.MessageHeader.{MessageHeader}
use Rattle.superstep_machine.specs.Answering.{value_came}
use Rattle.superstep_machine.specs.Run.{setting, Replies}
use Rattle.combining.specs.AllModules.{column}
use Rattle.combining.specs.Came.{all_replied}
use Rattle.worker_exchange.specs.Sends.{words_of}
use Rattle.worker_exchange.specs.declared.local.Local.{Local}
use Rattle.worker_exchange.specs.Received.{received, messages_to}
use Rattle.worker_exchange.specs.Answered.{Gives}
use Rattle.worker_exchange.proofs.SettleLemmas.{parts_are}
use Rattle.worker_exchange.proofs.ReplyLemmas.{gives_values, reply_shown, equipped_replied, verified_replied}
use Rattle.worker_exchange.proofs.replying.take_reply.Goals as goal

pub returns-clause-shows : goal.returns-clause-shows
returns-clause-shows g c = λ code bound n y shows.
    let m = g.M.AddressMap.shape c.args.map.now in
    let t = setting code m bound n in
    let x = c.args.local.now in
    let w = x.steps.bank.worker in
    let came = g.C.Column.came c.args.column.now in
    let new = c.forget.new.asked in
    let z : Local = record x {
      steps = c.answer_worker.new.steps;
      sent = c.clear.new.self;
      asked = with_items x.asked new;
      values = c.answer_worker.new.values;
    } in
    let lawful = g.met.M.AddressMap.lawful c.args.map.now in
    let few = lawful.few in
    let many = c.requires.column in
    let count = c.modules-workers.ensures in
    let kept = c.word_parts.auto.parts in
    let parts = c.word_parts.new.parts in
    let words : map (λ (b : Bor (List ℕ)). b.now) (take c.modules-workers.result parts)
    ≡ map (λ (r : MessageHeader × List ℕ). r.1) (received came) =
    ap (λ k. map (λ (b : Bor (List ℕ)). b.now) (take k parts)) (count ∙ sym many)
    ∙ parts_are came parts (λ h ws. ws) (omega (arith, few, many, kept))
    (λ i l. c.word_parts.ensures.each i (omega (arith, l, many, count))) in
    let values = value_came t y (messages_to code.rule m w Replies came) in
    let gives : Gives c.take_replies.new.self.held values =
    subst (λ held. Gives held values)
    (sym (c.take_replies.ensures.held ∙ ap (λ ws. all_replied m.part 0 ws x.sent.held) words))
    (gives_values t w y came x.sent.held lawful c.requires.below shows.sent) in
    let items : (with_items x.asked new).items ≡ new = with_items_is x.asked new (c.forget.auto.asked ∙ c.as_mut_slice.ensures.len) in
    reply_shown t w x z y (messages_to code.rule m w Replies came) c.take_replies.new.self.held shows c.answer_worker.ensures.answered gives
    refl c.clear.ensures.none (λ j. ap (λ xs. column (words_of xs) j) items ∙ c.forget.ensures.none j)

pub returns-clause-equipped : goal.returns-clause-equipped
returns-clause-equipped g c = λ code e.
    let m = g.M.AddressMap.shape c.args.map.now in
    let x = c.args.local.now in
    let new = c.forget.new.asked in
    let z : Local = record x {
      steps = c.answer_worker.new.steps;
      sent = c.clear.new.self;
      asked = with_items x.asked new;
      values = c.answer_worker.new.values;
    } in
    let items : (with_items x.asked new).items ≡ new = with_items_is x.asked new (c.forget.auto.asked ∙ c.as_mut_slice.ensures.len) in
    equipped_replied code m x z c.take_replies.new.self.held c.answer_worker.ensures.answered refl c.clear.ensures.none
    (c.clear.ensures.room ∙ c.take_replies.ensures.room) (λ j. ap (λ xs. column (words_of xs) j) items ∙ c.forget.ensures.none j)
    (ap (map vec_capacity) items ∙ c.forget.ensures.rooms ∙ ap (map vec_capacity) c.as_mut_slice.ensures.value) refl
    c.answer_worker.ensures.count e

pub returns-clause-verified : goal.returns-clause-verified
returns-clause-verified g c = λ code formed v there.
    verified_replied code c.args.local.now.steps c.answer_worker.new.steps c.take_replies.new.self.held
    c.answer_worker.ensures.answered formed v
    there
