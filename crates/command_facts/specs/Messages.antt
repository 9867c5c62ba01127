-- What there is to say of why a call of some words stops.
use Rattle.std.specs.Prelude.{◌≡◌, ℕ, ◌-◌, nat_lt, if◌then◌else◌, List, Option, None, length, take}
use Rattle.program_texts.specs.declared.stop.Stop.{Stop}
use Rattle.program_texts.specs.declared.stop.Stop.TheVariants as stop
use Rattle.diagnoses.specs.declared.about.About.{About}
use Rattle.diagnoses.specs.Stops.{IsMessageOf}
use Rattle.help.specs.Messages.{Message, said}
use Rattle.command_requests.specs.declared.given.Given.{Given}
use Rattle.command_requests.specs.Sentences.{word_fault}
use Rattle.command_requests.specs.Values.{IsWrong}

-- a sentence without the end of its line
abbrev pub without_end : List ℕ → List ℕ
without_end text = if nat_lt 0 (length text) then take (length text - 1) text else text

-- of a word of the command line, by the first option of the call that doesn't take it
abbrev pub IsWordMessage : (words : List (List ℕ)) → (word : List ℕ) → Message → Type 0
IsWordMessage words word m = (wrong : Option Given) × IsWrong words word wrong × (m ≡ said None (without_end (word_fault wrong word)))

-- and of anything else by its files
abbrev pub IsMessageFor : (words : List (List ℕ)) → Stop → About → Message → Type 0
IsMessageFor words (stop.Number word) a m = IsWordMessage words word.now m
IsMessageFor words why a m = IsMessageOf why a m
