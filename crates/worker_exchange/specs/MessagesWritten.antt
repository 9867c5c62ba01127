-- What a worker of a run writes to the others at an exchange.
use Rattle.std.specs.Prelude.{◌≡◌, ℕ, [], length, Bool}
use Rattle.std.specs.List.{list_any}
use Rattle.pram_model.specs.declared.rule.Rule.{Rule}
use Rattle.address_map.specs.Lawful.{Shape}
use Rattle.superstep_machine.specs.declared.mark.HeaderMark.{HeaderMark}
use Rattle.superstep_machine.specs.declared.header.MessageHeader.{MessageHeader}
use Rattle.superstep_machine.specs.HeaderWords.{header_words, read_header, blank_header}
use Rattle.superstep_machine.specs.Words.{Message}
use Rattle.superstep_machine.specs.WordReading.{read_message}
use Rattle.superstep_machine.specs.Run as machine
use Rattle.superstep_machine.specs.Steps.{is_active}
use Rattle.combining.specs.Held.{puts_for}
use Rattle.worker_steps.specs.declared.worker.WorkerState.{WorkerState}
use Rattle.worker_steps.specs.Shown.{own_in}
use Rattle.worker_exchange.specs.Rows.{WrittenMessage}
use Rattle.worker_exchange.specs.Sends.{words_of, header_with, send_words, reply_message}
use Rattle.superstep_machine.specs.declared.purpose.Purpose.{Purpose}
use Rattle.superstep_machine.specs.declared.purpose.Purpose.TheVariants as purposes
use Rattle.worker_exchange.specs.declared.local.Local.{Local}

-- whether a processor is active
abbrev pub any_active : WorkerState → Bool
any_active x = list_any is_active (own_in x)

-- to worker j what is held for its module
abbrev pub told_in_send : Rule → Shape → WorkerState → ℕ → WrittenMessage
told_in_send rule m x j = record {
  header = header_words (header_with x.key (length (puts_for m.part j x.puts.held)));
  words = send_words rule m x.puts.held x.asks.held j;
}

-- a header without words
abbrev pub told_alone : MessageHeader → ℕ → WrittenMessage
told_alone header j = record { header = header_words header; words = [] }

abbrev pub told_at : Rule → Shape → Purpose → Local → ℕ → WrittenMessage
told_at rule m purposes.Send x = told_in_send rule m x.steps
told_at rule m purposes.Reply x = reply_message x.steps.key m x.steps.bank.worker x.cells (words_of x.asked.items)
told_at rule m (purposes.Vote d) x = told_alone (record (header_with x.steps.key 0) { active = any_active x.steps })
told_at rule m purposes.Close x = told_alone (header_with x.steps.key 0)

-- to worker j, by what the exchange is for
abbrev pub told : Rule → Shape → Local → ℕ → WrittenMessage
told rule m x = told_at rule m x.purpose x

-- a mark, and nothing else
abbrev pub told_mark : HeaderMark → ℕ → WrittenMessage
told_mark mark = told_alone (record blank_header { mark = mark })

-- from words the message is read, by module j
abbrev pub IsWrittenFor : Rule → Shape → ℕ → machine.Purpose → Message → WrittenMessage → Type 0
IsWrittenFor rule m j purpose message x = read_message rule m j purpose (read_header x.header) x.words ≡ message
