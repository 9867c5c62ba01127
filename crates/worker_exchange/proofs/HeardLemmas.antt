-- What the headers say is what the messages say, whatever the exchange is for.
use Rattle.std.proofs.Common.{◌≡◌, ℕ, List, [], ◌∷◌, refl}
use Rattle.std.specs.Prelude.{◌||◌}
use Rattle.std.specs.List.{list_any}
use Rattle.pram_model.specs.declared.rule.Rule.{Rule}
use Rattle.address_map.specs.Lawful.{Shape}
use Rattle.superstep_machine.specs.declared.header.MessageHeader.{MessageHeader}
use Rattle.superstep_machine.specs.Keys.{least}
use Rattle.superstep_machine.specs.Marks.{worse}
use Rattle.superstep_machine.specs.HeaderWords.{read_header}
use Rattle.superstep_machine.specs.Words.{Message}
use Rattle.superstep_machine.specs.WordReading.{read_message}
use Rattle.superstep_machine.specs.Run.{Purpose, Sends, Replies, Votes, Closes, mark_of, key_of}
use Rattle.worker_exchange.specs.Rows.{WrittenMessage}
use Rattle.worker_exchange.specs.Received.{messages_to, mark_heard, key_heard, any_heard}

-- a message has what its header says
pub record HasHeader (h : MessageHeader) (m : Message) : Type 0 where
  pub mark : m.mark ≡ h.mark
  pub key : m.key ≡ h.key
  pub active : m.active ≡ h.active

header_read : (rule : Rule) (m : Shape) (j : ℕ) (purpose : Purpose) (h : MessageHeader) (ws : List ℕ) →
    HasHeader h (read_message rule m j purpose h ws)
header_read rule m j Sends h ws = record { mark = refl; key = refl; active = refl }
header_read rule m j Replies h ws = record { mark = refl; key = refl; active = refl }
header_read rule m j (Votes d) h ws = record { mark = refl; key = refl; active = refl }
header_read rule m j Closes h ws = record { mark = refl; key = refl; active = refl }

module _ (rule : Rule) (m : Shape) (w : ℕ) (purpose : Purpose) where
  pub marks_heard : (came : List WrittenMessage) → mark_of (messages_to rule m w purpose came) ≡ mark_heard came
  marks_heard [] = refl
  marks_heard (x ∷ came) = λ i. worse ((header_read rule m w purpose (read_header x.header) x.words).mark i) (marks_heard came i)

  pub keys_heard : (came : List WrittenMessage) → key_of (messages_to rule m w purpose came) ≡ key_heard came
  keys_heard [] = refl
  keys_heard (x ∷ came) = λ i. least ((header_read rule m w purpose (read_header x.header) x.words).key i) (keys_heard came i)

  pub votes_heard : (came : List WrittenMessage) → list_any (λ (y : Message). y.active) (messages_to rule m w purpose came) ≡ any_heard came
  votes_heard [] = refl
  votes_heard (x ∷ came) = λ i. (header_read rule m w purpose (read_header x.header) x.words).active i || votes_heard came i
