-- The line of each reason for a stop.
use Rattle.std.specs.Prelude.{ℕ, List, [], ◌++◌, Some, None, codes, decimal}
use Rattle.sized_texts.specs.Reasons.{reason_word}
use Rattle.text_places.specs.Escaped.{escaped}
use Rattle.program_texts.specs.declared.stop.Stop.{Stop}
use Rattle.program_texts.specs.declared.stop.Stop.TheVariants as stop
use Rattle.program_texts.specs.declared.number.Number.{Number}
use Rattle.program_texts.specs.declared.number.Number.TheVariants as number
use Rattle.program_texts.specs.Numbers.{code, refusal_number}
use Rattle.program_texts.specs.Stopped.{detail_text, limit_of, refused_front, refused_line, refusal_place}

-- behind a place, a word for the reason: ` at 12 unknown`
abbrev pub reason_text : (at : ℕ) → (reason : List ℕ) → List ℕ
reason_text at reason = codes " at " ++ (decimal at ++ (codes " " ++ (reason ++ codes "\n")))

-- `refused E14 NotVerified at 0 exchange`, or `refused E19 BadSize at 12 unknown`
abbrev pub reason_line : Number → (at : ℕ) → (reason : List ℕ) → List ℕ
reason_line n at reason = refused_front n [] ++ reason_text at reason

-- a name to the end of its line, and a line with it: `refused P2 sum.pram`
abbrev pub name_end : List ℕ → List ℕ
name_end name = escaped name ++ codes "\n"

abbrev pub named_front : Number → List ℕ
named_front n = codes "refused " ++ (code n ++ codes " ")

abbrev pub named_line : Number → (name : List ℕ) → List ℕ
named_line n name = named_front n ++ name_end name

abbrev pub stop_text : Stop → List ℕ
stop_text (stop.Words text) = text.bytes.items
stop_text (stop.Number word) = named_line number.CommandLine word.now
stop_text (stop.Unreadable name) = named_line number.UnreadableFile name.now
stop_text (stop.Refused r) = refused_line (refusal_number r) (detail_text (limit_of r)) (refusal_place r)
stop_text (stop.NotVerified at reason) = reason_line number.NotVerified at reason.now
stop_text (stop.BadListing at) = refused_line number.BadListing [] (Some at)
stop_text stop.WriteFailed = refused_line number.WriteFailed [] None
stop_text (stop.BadSize at reason) = reason_line number.BadSize at (reason_word reason)
