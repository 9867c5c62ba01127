-- What is said of a file that can't be read.
use Rattle.std.specs.Prelude.{ℕ, List, ◌++◌, Option, Some, None, codes}
use Rattle.std.specs.Option.{option_map}
use Rattle.text_places.specs.Escaped.{escaped}
use Rattle.help.specs.Messages.{Message, said, with_meant, with_more}
use Rattle.diagnoses.specs.declared.about.About.{About}
use Rattle.diagnoses.specs.declared.about.About.TheVariants as about
use Rattle.diagnoses.specs.declared.about.Unread.{Unread}
use Rattle.diagnoses.specs.declared.about.Unread.TheVariants as unread

abbrev pub none_so : Message
none_so = said None (codes "there is no file of this name")

abbrev pub guess_end : List ℕ → List ℕ
guess_end name = escaped name ++ codes "\"?"

abbrev pub guess : List ℕ → List ℕ
guess name = codes "did you mean \"" ++ guess_end name

-- one of that name is spelled nearly so
abbrev pub nearly : List ℕ → Message
nearly name = with_meant (with_more none_so (guess name)) (Some name)

abbrev pub missing : Option (List ℕ) → Message
missing None = none_so
missing (Some name) = nearly name

abbrev pub of_unread : Unread → Message
of_unread (unread.Missing near) = missing (option_map (λ v. v.items) near)
of_unread unread.Directory = said None (codes "this is a directory")
of_unread unread.Other = said None (codes "this file can't be read")
of_unread unread.Unwritable = said None (codes "this file can't be written")

-- why a file can't be read, where that is known
abbrev pub file_message : About → Message
file_message (about.File u) = of_unread u
file_message about.Nothing = of_unread unread.Other
file_message (about.Text s) = of_unread unread.Other
file_message (about.Line s line) = of_unread unread.Other
file_message (about.Values values cells) = of_unread unread.Other
