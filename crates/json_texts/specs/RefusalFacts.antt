-- What JSON says of a refusal.
use Rattle.std.specs.Prelude.{ℕ, List, [], ◌∷◌, ◌++◌, Option, Some, None, codes, length}
use Rattle.serde_json.specs.Data.{Data}
use Rattle.json_texts.specs.Facts.{Field, count, object_of, told, word}
use Rattle.pram_names.specs.declared.fault.Limit.{Limit}
use Rattle.pram_names.specs.declared.fault.Spot.{Spot}
use Rattle.pram_names.specs.declared.fault.Spot.TheVariants as spot
use Rattle.sized_texts.specs.declared.reason.Reason.{Reason}
use Rattle.sized_texts.specs.Reasons.{reason_word}
use Rattle.program_texts.specs.declared.from_text.Refusal.{Refusal}
use Rattle.program_texts.specs.declared.from_text.Refusal.TheVariants as refusal
use Rattle.program_texts.specs.declared.stop.Stop.{Stop}
use Rattle.program_texts.specs.declared.stop.Stop.TheVariants as stop
use Rattle.program_texts.specs.declared.number.Number.{Number}
use Rattle.program_texts.specs.declared.number.Number.TheVariants as number
use Rattle.program_texts.specs.Numbers.{code, name, refusal_number}
use Rattle.program_texts.specs.Stopped.{limit_of, limit_word, refusal_place}
use Rattle.text_places.specs.Places.{place_of}

-- a refusal by its number and its name
abbrev pub named : Number → List Field
named n = (codes "refused", word (code n)) ∷ (codes "name", word (name n)) ∷ []

-- where it has a place in the text, as an offset from 0 and as line and column from 1
abbrev pub place_fields : List ℕ → Option ℕ → List Field
place_fields source None = []
place_fields source (Some at) =
    let place = place_of source at in
    (codes "offset", count at) ∷ (codes "line", count place.line) ∷ (codes "column", count place.column) ∷ []

-- the limit that a program is over
abbrev pub limit_fields : Option Limit → List Field
limit_fields None = []
limit_fields (Some l) = (codes "limit", word (limit_word l)) ∷ []

abbrev pub reason_fields : Refusal → List Field
reason_fields r = named (refusal_number r) ++ limit_fields (limit_of r)

-- a word of the command line or a file that was refused
abbrev pub about : Number → (name text : List ℕ) → List Field
about n name text = (codes "refused", word (code n)) ∷ (name, told text) ∷ []

-- the words of the parser of command lines
abbrev pub parsed : (text : List ℕ) → List Field
parsed text = (codes "refused", word (code number.CommandLine)) ∷ (codes "message", word text) ∷ []

abbrev pub unverified_fields : ℕ → List ℕ → List Field
unverified_fields at reason =
    named number.NotVerified ++ ((codes "instruction", count at) ∷ (codes "reason", word reason) ∷ [])

-- a text with sizes that has no expansion
abbrev pub size_fields : List ℕ → ℕ → Reason → List Field
size_fields source at r =
    named number.BadSize ++ ((codes "reason", word (reason_word r)) ∷ place_fields source (Some at))

-- a place of the text, which may be its end
abbrev pub offset_of : List ℕ → Spot → ℕ
offset_of source (spot.Offset at) = at
offset_of source spot.TextEnd = length source

-- where a refusal stands in the text, of a limit too
abbrev pub told_place : List ℕ → Refusal → Option ℕ
told_place source (refusal.Text fault) = refusal_place (refusal.Text fault)
told_place source (refusal.Program breach) = Some (offset_of source breach.spot)
told_place source refusal.InputTooLong = None
told_place source refusal.BadMap = None
told_place source refusal.BadWorkers = None
told_place source refusal.OutOfMemory = None
told_place source refusal.OutOfReserve = None

-- why a call stops, where this text was refused
abbrev pub stop_fields : List ℕ → Stop → List Field
stop_fields source (stop.Words message) = parsed message.bytes.items
stop_fields source (stop.Number w) = about number.CommandLine (codes "word") w.now
stop_fields source (stop.Unreadable file) = about number.UnreadableFile (codes "file") file.now
stop_fields source (stop.Refused r) = reason_fields r ++ place_fields source (told_place source r)
stop_fields source (stop.NotVerified at reason) = unverified_fields at reason.now
stop_fields source (stop.BadListing at) = named number.BadListing ++ place_fields source (Some at)
stop_fields source stop.WriteFailed = named number.WriteFailed
stop_fields source (stop.BadSize at r) = size_fields source at r

abbrev pub stop_facts : List ℕ → Stop → Data
stop_facts source why = object_of (stop_fields source why)
