-- What a worker at a send holds.
use Rattle.std.proofs.Common.{◌≡◌, ◌<◌, map, vec_capacity, refl, sym, ap, ◌∙◌}
use Rattle.std.specs.List.{AllByRecursion}
use Rattle.std.proofs.lemmas.List.{length-map}
use Rattle.superstep_instructions.specs.Limits.{IsCode}
use Rattle.superstep_machine.specs.Setting.{Setting, workers}
use Rattle.superstep_machine.specs.Sending.{asks_held}
use Rattle.superstep_machine.specs.Run as machine
use Rattle.combining.specs.Adding.{unanswered}
use Rattle.combining.specs.Asked.{IsAskBelow}
use Rattle.superstep_machine.specs.declared.purpose.Purpose.TheVariants as purposes
use Rattle.worker_exchange.specs.declared.local.Local.{Local}
use Rattle.superstep_machine.specs.Purposes.{purpose_is}
use Rattle.worker_exchange.specs.Shown.{IsAtExchange}
use Rattle.worker_exchange.specs.Equipped.{IsRunnable, IsEquipped}
use Rattle.worker_exchange.proofs.ReachedLemmas.{IsPathed, ready_pathed}
use Rattle.worker_exchange.proofs.WrittenLemmas.{asks_are}
use Rattle.worker_exchange.proofs.MessagesWrittenLemmas.{held_can}

module _ (t : Setting) (code : IsCode t.code) (run : IsRunnable t.code t.map) (x : Local)
    (below : x.steps.bank.worker < workers t) (s : machine.State) (at : IsAtExchange t x.steps.bank.worker x s)
    (sends : x.purpose ≡ purposes.Send) where
  pathed : IsPathed t x.steps.bank.worker (machine.ready t x.steps.bank.worker s).state.worker
  pathed = ready_pathed t code run.map run.formed x.steps.bank.worker at.exchanges s at.reached
      (λ e. none (sym (at.purpose ∙ ap purpose_is sends) ∙ e))
    where
      none : machine.Sends ≡ machine.Closes → ⊥
      none e = cc

  -- the asks of the machine's worker
  pub asks_sent : x.steps.asks.held ≡ map unanswered (asks_held (machine.ready t x.steps.bank.worker s).state.worker)
  asks_sent =
      asks_are t code run.map x.steps.bank.worker below x.steps (machine.ready t x.steps.bank.worker s).state.worker pathed at.worker.shows

  -- for cells of the map
  pub asks_below : IsEquipped t.code t.map x → AllByRecursion (IsAskBelow t.map.count) x.steps.asks.held
  asks_below e =
      (held_can t code run.map run.formed x.steps.bank.worker below x s at refl (map vec_capacity x.buffers.words.items)
      (length-map x.buffers.words.items vec_capacity ∙ e.buffers.words.count) e.buffers.words.room sends).asks_below
