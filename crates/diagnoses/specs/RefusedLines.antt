-- The line of a refusal, with its offset in the file.
use Rattle.std.specs.Prelude.{ℕ, List}
use Rattle.program_texts.specs.declared.from_text.Refusal.{Refusal}
use Rattle.program_texts.specs.declared.stop.Stop.{Stop}
use Rattle.program_texts.specs.declared.stop.Stop.TheVariants as stop
use Rattle.program_texts.specs.StoppedFields.{stop_text}
use Rattle.diagnoses.specs.declared.about.About.{About}
use Rattle.diagnoses.specs.declared.about.About.TheVariants as about
use Rattle.diagnoses.specs.Sources.{as_it_stands}

-- a refusal with its offset in the file of the text that it is about
abbrev pub refusal_about : About → Refusal → Refusal
refusal_about about.Nothing r = r
refusal_about (about.Text s) r = as_it_stands s r
refusal_about (about.Line s line) r = r
refusal_about (about.Values values cells) r = r
refusal_about (about.File u) r = r

-- a reason for a stop with its offset in the file of the text that it is about
abbrev pub stop_as_it_stands : About → Stop → Stop
stop_as_it_stands a (stop.Words text) = stop.Words text
stop_as_it_stands a (stop.Number word) = stop.Number word
stop_as_it_stands a (stop.Unreadable name) = stop.Unreadable name
stop_as_it_stands a (stop.Refused r) = stop.Refused (refusal_about a r)
stop_as_it_stands a (stop.NotVerified at reason) = stop.NotVerified at reason
stop_as_it_stands a (stop.BadListing at) = stop.BadListing at
stop_as_it_stands a stop.WriteFailed = stop.WriteFailed
stop_as_it_stands a (stop.BadSize at reason) = stop.BadSize at reason

-- the line that says so
abbrev pub stop_line : Stop → About → List ℕ
stop_line why a = stop_text (stop_as_it_stands a why)
