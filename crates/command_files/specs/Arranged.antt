-- The text of a file laid out, and what is told of it.
use Rattle.std.specs.Prelude.{◌≡◌, ℕ, Bool, true, false, not, ◌&&◌, if◌then◌else◌, List, [], ◌∷◌, ◌++◌, codes, Option}
use Rattle.pram_model.specs.Names.{same_text}
use Rattle.pram_trees.specs.Program.{ProgramTree}
use Rattle.pram_trees.specs.Text.{IsTextOf}
use Rattle.text_places.specs.Escaped.{escaped}
use Rattle.program_texts.specs.declared.status.Status.{Status}
use Rattle.program_texts.specs.declared.status.Status.TheVariants as status
use Rattle.diagnoses.specs.Sources.{text_in}
use Rattle.diagnoses.specs.declared.source.Source.{Source}
use Rattle.command_requests.specs.declared.arrange_words.ArrangeForm.{ArrangeForm}
use Rattle.command_requests.specs.declared.arrange_words.ArrangeForm.TheVariants as form
use Rattle.command_requests.specs.declared.request.ProgramFile.{ProgramFile}
use Rattle.command_facts.specs.Held.{IsTextIn}
use Rattle.laid_out_texts.specs.Arranged.{arranged}
use Rattle.command_files.specs.declared.arranging.ArrangedFile.{ArrangedFile}

-- all that the file holds, which is of the grammar with its sizes put in, and its layout
pub record IsArranged (holds : Option (List ℕ) → Type 0) (file : ProgramFile) (a : ArrangedFile) : Type 0 where
  pub source : Source
  pub is_text : IsTextIn holds file.sizes.items source
  pub tree : ProgramTree
  pub is_tree : IsTextOf (text_in source) tree
  pub name : a.name.now ≡ file.name.now
  pub old : a.old.items ≡ source.bytes.items
  pub new : a.new.items ≡ arranged source.bytes.items

abbrev pub changes : ArrangedFile → Bool
changes a = not (same_text a.new.items a.old.items)

-- the name that stands for standard input
abbrev pub is_input : ArrangedFile → Bool
is_input a = same_text a.name.now (codes "-")

abbrev pub name_line : List ℕ → List ℕ
name_line name = escaped name ++ 10 ∷ []

-- What standard output has of a file: its text; or its name, where the text would change; or what standard input held, laid out.
abbrev pub told_text : ArrangeForm → ArrangedFile → List ℕ
told_text form.Shown a = a.new.items
told_text form.Checked a = if changes a then name_line a.name.now else []
told_text form.InPlace a = if is_input a then a.new.items else []

-- whether a file is written anew: where it changes, and isn't standard input
abbrev pub is_written : ArrangeForm → ArrangedFile → Bool
is_written form.InPlace a = changes a && not (is_input a)
is_written _ a = false

-- the exit status of a file that is laid out: that of a fault, where it would change and that is asked for
abbrev pub status_of : ArrangeForm → ArrangedFile → Status → Status
status_of form.Checked a before = if changes a then status.Faulted else before
status_of _ a before = before

-- behind a file that was refused it stays that
abbrev pub status_behind : Status → ArrangeForm → ArrangedFile → Status
status_behind status.Refused form a = status.Refused
status_behind before form a = status_of form a before
