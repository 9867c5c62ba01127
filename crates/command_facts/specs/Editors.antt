-- Why a call stops, in the lines that editors read.
use Rattle.std.specs.Prelude.{◌≡◌, ◌⊎◌, ℕ, nat_eq, if◌then◌else◌, List, ◌++◌, codes, length}
use Rattle.program_texts.specs.declared.stop.Stop.{Stop}
use Rattle.diagnoses.specs.declared.about.About.{About}
use Rattle.diagnoses.specs.RefusedLines.{stop_line}
use Rattle.diagnoses.specs.Numbers.{gnu_about}
use Rattle.help.specs.Messages.{Message}
use Rattle.command_facts.specs.Messages.{IsMessageFor}

-- where there is nothing to say, the line of the refusal
abbrev pub editor_text : Stop → About → Message → List ℕ
editor_text why a m =
    if nat_eq (length m.sentence) 0 then stop_line why a else gnu_about why a m

abbrev pub unsaid_text : Stop → About → List ℕ
unsaid_text why a = stop_line why a ++ codes "memory was refused for what there is to say of it\n"

-- What there is to say of why the call stops, or that memory for that was refused.
abbrev pub IsForEditors : (words : List (List ℕ)) → Stop → About → List ℕ → Type 0
IsForEditors words why a text = (text ≡ unsaid_text why a) ⊎ ((m : Message) × IsMessageFor words why a m × (text ≡ editor_text why a m))
