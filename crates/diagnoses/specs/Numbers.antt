-- A message in lines that editors read, with the number of its refusal.
use Rattle.std.specs.Prelude.{ℕ, List, codes}
use Rattle.program_texts.specs.Numbers.{code, stop_number}
use Rattle.program_texts.specs.declared.stop.Stop.{Stop}
use Rattle.program_texts.specs.declared.stop.Stop.TheVariants as stop
use Rattle.help.specs.GnuLines.{gnu_text}
use Rattle.help.specs.Messages.{Message}
use Rattle.diagnoses.specs.declared.about.About.{About}
use Rattle.diagnoses.specs.declared.about.About.TheVariants as about
use Rattle.diagnoses.specs.Stops.{bytes_in}

-- the name of the file that it is about, and else the program's
abbrev pub file_or_program : About → List ℕ
file_or_program about.Nothing = codes "pramc"
file_or_program (about.Text s) = s.name.now
file_or_program (about.Line s line) = s.name.now
file_or_program (about.Values values cells) = codes "pramc"
file_or_program (about.File u) = codes "pramc"

-- of a file that can't be read its name
abbrev pub file_in : Stop → About → List ℕ
file_in (stop.Unreadable name) a = name.now
file_in why a = file_or_program a

abbrev pub gnu_about : Stop → About → Message → List ℕ
gnu_about why a m = gnu_text (file_in why a) (bytes_in a) m (code (stop_number why))
