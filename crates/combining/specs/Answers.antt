-- What a module answers to the asks of one worker.
use Rattle.std.specs.Prelude.{◌≡◌, ℕ, ℤ, List, map, Some, slice_get}
use Rattle.address_map.specs.Lawful.{Shape}
use Rattle.superstep_machine.specs.declared.header.MessageHeader.{MessageHeader}
use Rattle.superstep_machine.specs.Setting.{Setting}
use Rattle.superstep_machine.specs.Words.{CellAsk, words, values_words}
use Rattle.superstep_machine.specs.Worker.{Worker}
use Rattle.superstep_machine.specs.Sending.{after_send}
use Rattle.superstep_machine.specs.Answering.{replied}
use Rattle.superstep_machine.specs.WordReading.{asks_in, ask_part}
use Rattle.superstep_machine.specs.WordLaws.{messages_read}
use Rattle.combining.specs.Gathering.{value_at}

-- the words of the values of the cells that are asked for, in the order of the asks
abbrev pub answers : Shape → ℕ → List ℤ → List ℕ → List ℕ
answers m j values ws = values_words (map (λ (x : CellAsk). value_at values (m.offset x.cell)) (asks_in m j ws))

-- They are the machine's reply: of any headers and words that came in a send, the words of the reply to worker j are the answers to the
-- words of its asks.
abbrev pub AnswersAreTheReply : Type 0
AnswersAreTheReply = (t : Setting) (w : ℕ) (s : Worker) (received : List (MessageHeader × List ℕ)) (j : ℕ) (came : MessageHeader × List ℕ) →
    slice_get received j ≡ Some came →
    let after = after_send t w s (messages_read t.code.rule t.map w received) in
    words t.code.rule (replied t after j) ≡ answers t.map w after.cells (ask_part t.code.rule came.0 came.1)
