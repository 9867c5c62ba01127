-- The row of a worker that stands at an exchange.
use Rattle.std.proofs.Common.{◌≡◌, ℕ, ◌<◌, List, [], true, false, Option, None, Some, refl, sym, ap, subst, ◌∙◌, inl, inr}
use Rattle.address_map.specs.Lawful.{Shape}
use Rattle.superstep_instructions.specs.Code.{SuperstepCode}
use Rattle.superstep_machine.specs.HeaderWords.{read_header}
use Rattle.superstep_machine.specs.Words.{Message}
use Rattle.superstep_machine.specs.WordReading.{read_message}
use Rattle.superstep_machine.specs.Setting.{Setting}
use Rattle.superstep_machine.specs.Run.{State, setting, ready, message_of, mark_now}
use Rattle.worker_exchange.specs.Rows.{WrittenMessage, written, message_at}
use Rattle.worker_exchange.specs.declared.way.Way.{Way}
use Rattle.worker_exchange.specs.declared.way.Way.TheVariants as ways
use Rattle.worker_exchange.specs.Reached.{most_instructions}
use Rattle.superstep_machine.specs.Purposes.{purpose_is}
use Rattle.worker_exchange.specs.Shown.{is_stopped, marked}
use Rattle.worker_exchange.specs.Received.{is_marked}
use Rattle.worker_histories.specs.Shares.{Share}
use Rattle.bsp_machine.specs.declared.counted.CountedWorker.{CountedWorker}
use Rattle.run_options.specs.declared.reserve.Reserve.{Reserve}
use Rattle.bsp_machine.specs.Reserves.{own_mark, IsMark}
use Rattle.bsp_machine.specs.Workers.{IsStanding}
use Rattle.bsp_machine.proofs.PhaseLemmas.{mark_sent}
use Rattle.bsp_machine.proofs.MarkLemmas.{unstopped, header_marked, mark_read}

module _ (code : SuperstepCode) (m : Shape) (bound : ℕ) (states : ℕ → State) (told : ℕ → List Share) (w : ℕ) (x : CountedWorker)
    (row : List WrittenMessage) (at : IsStanding code m bound states told w x row) where
  abbrev set_to : ℕ → Setting
  set_to n = setting code m bound n

  own_marked : (r : Option Reserve) → is_marked (own_mark r) ≡ true
  own_marked None = refl
  own_marked (Some r) = refl

  -- a header has a mark exactly where the worker has stopped, ..
  marked_by : (way : Way) (s : State) → ((mark : _) → way ≡ ways.Stopped mark → mark ≡ own_mark x.reserve) →
      (is_stopped way ≡ false → s.refusals ≡ []) → is_marked (mark_now (marked way s).refusals) ≡ is_stopped way
  marked_by ways.On s h clear = ap (λ ms. is_marked (mark_now ms)) (clear refl)
  marked_by (ways.Ending ended) s h clear = ap (λ ms. is_marked (mark_now ms)) (clear refl)
  marked_by (ways.Past key ended) s h clear = ap (λ ms. is_marked (mark_now ms)) (clear refl)
  marked_by (ways.Stopped mark) s h clear = ap is_marked (h mark refl) ∙ own_marked x.reserve

  -- .. and that is its own
  mark_by : (way : Way) (s : State) → ((mark : _) → way ≡ ways.Stopped mark → mark ≡ own_mark x.reserve) →
      (is_stopped way ≡ false → s.refusals ≡ []) → IsMark (own_mark x.reserve) (mark_now (marked way s).refusals)
  mark_by ways.On s h clear = inl (ap mark_now (clear refl))
  mark_by (ways.Ending ended) s h clear = inl (ap mark_now (clear refl))
  mark_by (ways.Past key ended) s h clear = inl (ap mark_now (clear refl))
  mark_by (ways.Stopped mark) s h clear = inr (h mark refl)

  header_is : (n j : ℕ) → most_instructions code bound < n → j < m.parts →
      (read_header (message_at row j).header).mark ≡ mark_now (marked x.local.way (states n)).refusals
  header_is n j low within =
      sym (mark_read code.rule m j (purpose_is x.local.purpose) (read_header (message_at row j).header) (message_at row j).words)
      ∙ ap (λ (q : Message). q.mark) (at.read n j low within) ∙ mark_sent (set_to n) w (marked x.local.way (states n)) j

  pub row_marked : (n j : ℕ) → most_instructions code bound < n → j < m.parts →
      header_marked (message_at row j) ≡ is_stopped x.local.way
  row_marked n j low within =
      ap is_marked (header_is n j low within)
      ∙ marked_by x.local.way (states n) at.refused (λ going. (at.shown going n low).clear)

  pub row_mark : (n j : ℕ) → most_instructions code bound < n → j < m.parts →
      IsMark (own_mark x.reserve) (read_header (message_at row j).header).mark
  row_mark n j low within = subst (IsMark (own_mark x.reserve)) (sym (header_is n j low within))
      (mark_by x.local.way (states n) at.refused (λ going. (at.shown going n low).clear))

  -- where it hasn't stopped, the row has the messages of the worker that it shows
  module _ (going : is_stopped x.local.way ≡ false) (n : ℕ) (low : most_instructions code bound < n) where
    clear : marked x.local.way (states n) ≡ states n
    clear = unstopped x.local.way (states n) going

    pub row_is : (j : ℕ) → j < m.parts → message_at row j ≡ written code.rule (message_of (set_to n) w (states n) j)
    row_is j within = (at.filled n low).each j within ∙ ap (λ q. written code.rule (message_of (set_to n) w q j)) clear

    pub row_read : (j : ℕ) → j < m.parts →
        read_message code.rule m j (purpose_is x.local.purpose) (read_header (message_at row j).header) (message_at row j).words
        ≡ message_of (set_to n) w (states n) j
    row_read j within = at.read n j low within ∙ ap (λ q. message_of (set_to n) w q j) clear

    pub purpose_at : (ready (set_to n) w (states n)).purpose ≡ purpose_is x.local.purpose
    purpose_at = (at.shown going n low).purpose
