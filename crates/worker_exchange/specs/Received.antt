-- The messages of a column, as they are read.
use Rattle.std.specs.Prelude.{ℕ, List, map, Option, None, Bool, true, false}
use Rattle.std.specs.List.{list_any}
use Rattle.pram_values.specs.Total.{total}
use Rattle.pram_model.specs.declared.rule.Rule.{Rule}
use Rattle.address_map.specs.Lawful.{Shape}
use Rattle.superstep_machine.specs.declared.key.Key.{Key}
use Rattle.superstep_machine.specs.declared.mark.HeaderMark.{HeaderMark}
use Rattle.superstep_machine.specs.declared.header.MessageHeader.{MessageHeader}
use Rattle.superstep_machine.specs.declared.mark.HeaderMark.TheVariants.{Clear}
use Rattle.superstep_machine.specs.Keys.{least}
use Rattle.superstep_machine.specs.Marks.{mark_among}
use Rattle.superstep_machine.specs.HeaderWords.{read_header}
use Rattle.superstep_machine.specs.Words.{Message}
use Rattle.superstep_machine.specs.WordReading.{read_message}
use Rattle.superstep_machine.specs.Run.{Purpose}
use Rattle.worker_exchange.specs.Rows.{WrittenMessage}

-- the headers and the words
abbrev pub received : List WrittenMessage → List (MessageHeader × List ℕ)
received = map (λ (x : WrittenMessage). (read_header x.header, x.words))

-- the messages to module w
abbrev pub messages_to : Rule → Shape → ℕ → Purpose → List WrittenMessage → List Message
messages_to rule m w purpose column = map (λ (r : MessageHeader × List ℕ). read_message rule m w purpose r.0 r.1) (received column)

-- ---- what the headers say together

abbrev pub mark_heard : List WrittenMessage → HeaderMark
mark_heard = mark_among (λ (x : WrittenMessage). (read_header x.header).mark)

abbrev pub key_heard : List WrittenMessage → Option Key
key_heard = total None least (λ (x : WrittenMessage). (read_header x.header).key)

abbrev pub any_heard : List WrittenMessage → Bool
any_heard = list_any (λ (x : WrittenMessage). (read_header x.header).active)

abbrev pub is_marked : HeaderMark → Bool
is_marked Clear = false
is_marked mark = true
