-- The state behind an exchange.
use Rattle.std.proofs.Common.{◌≡◌, ℕ, suc, List, [], ◌∷◌, map, refl, sym, ap, subst, ◌∙◌, rules}
use Rattle.std.specs.Prelude.{FitsSigned}
use Rattle.std.specs.List.{AllByRecursion}
use Rattle.std.specs.Int.{w64, cast_signed}
use Rattle.pram_model.specs.declared.rule.Rule.{Rule}
use Rattle.address_map.specs.Lawful.{Shape}
use Rattle.superstep_machine.specs.declared.mark.HeaderMark.TheVariants.{Clear}
use Rattle.superstep_machine.specs.Setting.{Setting}
use Rattle.superstep_machine.specs.Words.{Message}
use Rattle.superstep_machine.specs.Worker.{Worker}
use Rattle.superstep_machine.specs.Stretch.{ToSend, ToReply, ToVote, ToClose, Arrival, Nowhere, At}
use Rattle.superstep_machine.specs.Run as machine
use Rattle.machine_limits.specs.Within.{AreValues}
use Rattle.worker_exchange.specs.Rows.{WrittenMessage}
use Rattle.worker_exchange.specs.declared.local.Local.{Local}
use Rattle.superstep_machine.specs.Purposes.{purpose_is}
use Rattle.worker_exchange.specs.Shown.{way_is, place_behind, ShowsWorker, IsShown, IsAtExchange}
use Rattle.worker_exchange.proofs.ArrivedLemmas.{ready_is}
use Rattle.worker_exchange.specs.Received.{messages_to}

-- ---- messages that are read have values of 64 bits

pub word_fits : (w : ℕ) → FitsSigned w64 (cast_signed w64 w)
word_fits w = search rules

words_fit : (words : List ℕ) → AreValues (map (cast_signed w64) words)
words_fit [] = tt
words_fit (w ∷ words) = (word_fits w, words_fit words)

pub values_read : (rule : Rule) (m : Shape) (w : ℕ) (purpose : machine.Purpose) (came : List WrittenMessage) →
    AllByRecursion (λ (x : Message). AreValues x.values) (messages_to rule m w purpose came)
values_read rule m w purpose [] = tt
values_read rule m w machine.Sends (x ∷ came) = (tt, values_read rule m w machine.Sends came)
values_read rule m w machine.Replies (x ∷ came) = (words_fit x.words, values_read rule m w machine.Replies came)
values_read rule m w (machine.Votes d) (x ∷ came) = (tt, values_read rule m w (machine.Votes d) came)
values_read rule m w machine.Closes (x ∷ came) = (tt, values_read rule m w machine.Closes came)

-- ---- the state

-- marks to come stay
arrival_kept : (s : machine.State) (a : Arrival Worker) → (machine.ready_at s a).state.refusals ≡ s.refusals
arrival_kept s Nowhere = refl
arrival_kept s (At ToSend place y) = refl
arrival_kept s (At ToReply place y) = refl
arrival_kept s (At (ToVote d) place y) = refl
arrival_kept s (At (ToClose ended) place y) = refl

by_way_kept : (t : Setting) (w : ℕ) (s : machine.State) (way : machine.Way) → (machine.ready_by t w s way).state.refusals ≡ s.refusals
by_way_kept t w s machine.On = arrival_kept s (machine.stretch t w s)
by_way_kept t w s (machine.Ending ended) = refl
by_way_kept t w s (machine.Past key ended) = refl
by_way_kept t w s (machine.Refused mark) = refl
by_way_kept t w s machine.Lost = refl

module _ (t : Setting) (w : ℕ) (x z : Local) (s : machine.State) (at : IsAtExchange t w x s) (messages : List Message)
    (values : AllByRecursion (λ (m : Message). AreValues m.values) messages) (clear : machine.mark_of messages ≡ Clear) where
  abbrev r : machine.Ready
  r = machine.ready t w s

  after_is : machine.after t w r messages ≡ machine.after_with t w r messages Clear
  after_is = ap (machine.after_with t w r messages) clear

  none_refused : machine.marks_later (machine.ready t w s).state.refusals ≡ []
  none_refused =
      ap (λ (q : machine.Ready). machine.marks_later q.state.refusals) (ready_is t w s at.clear)
      ∙ ap machine.marks_later (by_way_kept t w s s.way ∙ at.clear)

  -- Whatever it was for: where the worker is shown, its way is what was decided, and it stands behind the exchange.
  pub behind : ShowsWorker t w z (machine.after_exchange t w (purpose_is x.purpose) r.state.worker messages) →
      way_is z.way ≡ machine.decided (purpose_is x.purpose) r.state.worker.uniform (machine.key_of messages) (way_is x.way) →
      z.steps.place ≡ place_behind x.way x.steps.place → IsShown t w z (machine.after t w r messages)
  behind shows way place = record {
    exchanges = suc at.exchanges;
    reached = (s, messages, at.reached, values, refl);
    way = ap (λ (q : machine.State). q.way) after_is
        ∙ (λ i. machine.decided (at.purpose i) r.state.worker.uniform (machine.key_of messages) (at.way i)) ∙ sym way;
    place = ap (λ (q : machine.State). q.place) after_is ∙ at.place ∙ sym place;
    clear = ap (λ (q : machine.State). q.refusals) after_is ∙ none_refused;
    worker = subst (λ (q : machine.State). ShowsWorker t w z q.worker) (sym after_is)
        (subst (λ p. ShowsWorker t w z (machine.after_exchange t w p r.state.worker messages)) (sym at.purpose) shows);
  }
