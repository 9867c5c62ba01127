-- What is said of messages and the words that they have.
use Rattle.std.specs.Prelude.{◌≡◌, ℕ, List, map}
use Rattle.pram_model.specs.declared.rule.Rule.{Rule}
use Rattle.address_map.specs.Lawful.{Shape}
use Rattle.superstep_machine.specs.Setting.{Setting}
use Rattle.superstep_machine.specs.declared.header.MessageHeader.{MessageHeader}
use Rattle.superstep_machine.specs.Words.{Message, words}
use Rattle.superstep_machine.specs.Worker.{Worker}
use Rattle.superstep_machine.specs.Sending.{sent, entry_came, askers_came}
use Rattle.superstep_machine.specs.Answering.{replied, voted, closing}
use Rattle.superstep_machine.specs.Run.{Purpose, Sends, Replies, Votes, Closes}
use Rattle.superstep_machine.specs.WordReading.{header_of, read_message, put_part, ask_part, entry_read, askers_read}
use Rattle.superstep_machine.specs.Fitting.{CanBeSent, FitsWorker}

-- a message to a module is read back from its header and its words
abbrev pub IsReadBack : Rule → Shape → ℕ → Purpose → Message → Type 0
IsReadBack rule m j purpose x = read_message rule m j purpose (header_of x) (words rule x) ≡ x

abbrev pub WordsReadBack : Type 0
WordsReadBack = (rule : Rule) (m : Shape) (j : ℕ) (purpose : Purpose) (x : Message) → CanBeSent rule m j purpose x →
    IsReadBack rule m j purpose x

-- so are those of a worker whose values fit
abbrev pub SentIsReadBack : Type 0
SentIsReadBack = (t : Setting) (s : Worker) (j : ℕ) → FitsWorker t s → IsReadBack t.code.rule t.map j Sends (sent t s j)

abbrev pub RepliedIsReadBack : Type 0
RepliedIsReadBack = (t : Setting) (s : Worker) (j : ℕ) → FitsWorker t s → IsReadBack t.code.rule t.map j Replies (replied t s j)

abbrev pub VotedIsReadBack : Type 0
VotedIsReadBack = (t : Setting) (s : Worker) (j d : ℕ) → IsReadBack t.code.rule t.map j (Votes d) (voted s)

abbrev pub ClosingIsReadBack : Type 0
ClosingIsReadBack = (t : Setting) (s : Worker) (j : ℕ) → IsReadBack t.code.rule t.map j Closes (closing s)

-- of messages that are read from any headers and words: what the writers of a cell come to, and how many ask for it, are what the
-- words say
abbrev pub messages_read : Rule → Shape → ℕ → List (MessageHeader × List ℕ) → List Message
messages_read rule m j = map (λ (r : MessageHeader × List ℕ). read_message rule m j Sends r.0 r.1)

abbrev pub EntriesOfWords : Type 0
EntriesOfWords = (rule : Rule) (m : Shape) (j : ℕ) (received : List (MessageHeader × List ℕ)) (c : ℕ) →
    entry_came rule (messages_read rule m j received) c ≡ entry_read rule m j (map (λ (r : MessageHeader × List ℕ). put_part rule r.0 r.1)
    received) c

abbrev pub AskersOfWords : Type 0
AskersOfWords = (rule : Rule) (m : Shape) (j : ℕ) (received : List (MessageHeader × List ℕ)) (k c : ℕ) →
    askers_came (messages_read rule m j received) k c ≡ askers_read m j (map (λ (r : MessageHeader × List ℕ). ask_part rule r.0 r.1)
    received) k c
