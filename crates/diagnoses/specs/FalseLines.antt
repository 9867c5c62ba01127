-- What is said of a comment that begins as a size line and is none.
use Rattle.std.specs.Prelude.{ℕ, List, [], ◌++◌, Option, Some, None, codes}
use Rattle.sized_texts.specs.FalseLines.{false_line}
use Rattle.text_places.specs.Excerpts.{excerpt}
use Rattle.diagnoses.specs.declared.about.About.{About}
use Rattle.diagnoses.specs.declared.about.About.TheVariants as about
use Rattle.diagnoses.specs.declared.source.Kind.{Kind}
use Rattle.diagnoses.specs.declared.source.Kind.TheVariants as kind
use Rattle.diagnoses.specs.declared.source.Source.{Source}

-- it may be meant as a size line, and as a comment too
abbrev pub false_sentence : List ℕ
false_sentence = (codes "this is a comment and no size line: that has the form \"# size NAME = VALUE\", with letters, digits and \"_\" alone "
    ++ codes "in its NAME, and goes on otherwise here\n")

-- the place where it goes on otherwise, and the sentence
abbrev pub stray_note : Source → ℕ → List ℕ
stray_note s at = excerpt s.name.now s.bytes.items at ++ false_sentence

abbrev pub note_by : Source → Option ℕ → List ℕ
note_by s None = []
note_by s (Some at) = stray_note s at

-- of the first such comment before the first token of a text; of a text that has none nothing
abbrev pub false_note : Source → List ℕ
false_note s = note_by s (false_line s.bytes.items)

-- of a program's text alone
abbrev pub note_of : Kind → Source → List ℕ
note_of kind.Program s = false_note s
note_of kind.Input s = []
note_of kind.Memory s = []
note_of kind.Listing s = []

-- what is said of it in what a refusal is about
abbrev pub note_about : About → List ℕ
note_about (about.Text s) = note_of s.kind s
note_about about.Nothing = []
note_about (about.Line s line) = []
note_about (about.Values values cells) = []
note_about (about.File u) = []
