-- What is left of a call that lays texts out.
use Rattle.std.specs.Prelude.{◌≡◌, ℕ, Bool, true, false, List, [], ◌∷◌, ◌++◌, Option}
use Rattle.text_out.specs.Out.{OutState, StopsIn, with_bytes}
use Rattle.program_texts.specs.declared.from_text.Refusal.TheVariants as refusal
use Rattle.program_texts.specs.declared.status.Status.{Status}
use Rattle.program_texts.specs.declared.status.Status.TheVariants as status
use Rattle.program_texts.specs.declared.stop.Stop.{Stop}
use Rattle.program_texts.specs.declared.stop.Stop.TheVariants as stop
use Rattle.diagnoses.specs.declared.about.About.{About}
use Rattle.diagnoses.specs.declared.about.About.TheVariants as about
use Rattle.diagnoses.specs.declared.halted.Halted.{Halted}
use Rattle.command_requests.specs.declared.arrange_words.ArrangeForm.{ArrangeForm}
use Rattle.command_requests.specs.declared.arrange_words.ArrangeWords.{ArrangeWords}
use Rattle.command_requests.specs.declared.request.ProgramFile.{ProgramFile}
use Rattle.command_facts.specs.Held.{StopsAtProgram}
use Rattle.command_facts.specs.Refused.{IsUnwritten}
use Rattle.command_files.specs.declared.arranging.ArrangedFile.{ArrangedFile}
use Rattle.command_files.specs.declared.gathering.Gathered.{Gathered}
use Rattle.command_files.specs.Arranged.{IsArranged, is_written, status_behind, told_text}

-- what is told of some files, which of them are to be written, and the exit status so far
pub record Found : Type 0 where
  pub told : List ℕ
  pub written : List ArrangedFile
  pub ends : Status

abbrev pub found_of : List ℕ → List ArrangedFile → Status → Found
found_of told written ends = record { told = told; written = written; ends = ends }

abbrev pub found_is : Gathered → Found
found_is g = found_of g.told.items g.written.items g.status

abbrev pub nothing : Found
nothing = record { told = []; written = []; ends = status.Done }

abbrev pub with_change : Bool → List ArrangedFile → ArrangedFile → List ArrangedFile
with_change true written a = written ++ a ∷ []
with_change false written a = written

-- a file more that is laid out
abbrev pub with_file : ArrangeForm → Found → ArrangedFile → Found
with_file form f a = record {
  told = f.told ++ told_text form a;
  written = with_change (is_written form a) f.written a;
  ends = status_behind f.ends form a;
}

-- one that is refused
abbrev pub with_refused : Found → Found
with_refused f = record f { ends = status.Refused }

-- What is found of a file beside what was found before: it is laid out; or it is refused, which is said.
pub data Takes (refuses : Stop → About → (err err_new : OutState) → Type 0) (holds : List ℕ → Option (List ℕ) → Type 0)
    (form : ArrangeForm) (file : ProgramFile) (before : Found) (err err_new : OutState) (now : Found) : Type 0 where
  Arranged : (a : ArrangedFile) → IsArranged (holds file.name.now) file a → now ≡ with_file form before a → err_new ≡ err
      → Takes refuses holds form file before err err_new now
  Refused : (h : Halted) → StopsAtProgram (holds file.name.now) file h → refuses h.stop h.about err err_new → now ≡ with_refused before
      → Takes refuses holds form file before err err_new now

-- What is found of files, one after the other. Where one is refused the others go on.
pub data Gathers (refuses : Stop → About → (err err_new : OutState) → Type 0) (holds : List ℕ → Option (List ℕ) → Type 0)
    (form : ArrangeForm) (err : OutState) : (files : List ProgramFile) → (err_new : OutState) → Found → Type 0 where
  NoFile : Gathers refuses holds form err [] err nothing
  OneMore : (files : List ProgramFile) (file : ProgramFile) (between err_new : OutState) (before now : Found)
      → Gathers refuses holds form err files between before → Takes refuses holds form file before between err_new now
      → Gathers refuses holds form err (files ++ file ∷ []) err_new now

abbrev pub GathersSome : (refuses : Stop → About → (err err_new : OutState) → Type 0) → (holds : List ℕ → Option (List ℕ) → Type 0)
    → ArrangeForm → (err err_new : OutState) → Type 0
GathersSome refuses holds form err err_new =
    (files : List ProgramFile) × (found : Found) × Gathers refuses holds form err files err_new found

-- A file is written; or it isn't, which is said. Behind it that is the exit status, where it was the one before.
pub data WritesOne (refuses : Stop → About → (err err_new : OutState) → Type 0) (file : ArrangedFile) (before : Status)
    (err err_new : OutState) : Status → Type 0 where
  Written : err_new ≡ err → WritesOne refuses file before err err_new before
  Unwritten : (why : Stop) (a : About) → IsUnwritten file.name.now why a → refuses why a err err_new
      → WritesOne refuses file before err err_new status.Refused

-- Files are written, one after the other. Where one isn't the others go on.
pub data Writes (refuses : Stop → About → (err err_new : OutState) → Type 0) (before : Status) (err : OutState) :
    (written : List ArrangedFile) → (err_new : OutState) → Status → Type 0 where
  NoChange : Writes refuses before err [] err before
  OneWritten : (files : List ArrangedFile) (file : ArrangedFile) (between err_new : OutState) (s ends : Status)
      → Writes refuses before err files between s → WritesOne refuses file s between err_new ends
      → Writes refuses before err (files ++ file ∷ []) err_new ends

-- Both streams after what was found: files are written, and then standard output has what is told, or failed in it, which is said.
pub data LeavesFound (refuses : Stop → About → (err err_new : OutState) → Type 0) (found : Found) (out out_new err err_new : OutState) :
    Status → Type 0 where
  Told : (ends : Status) → Writes refuses found.ends err found.written err_new ends → out_new ≡ with_bytes out found.told
      → LeavesFound refuses found out out_new err err_new ends
  CutOff : (between : OutState) (ends : Status) → Writes refuses found.ends err found.written between ends → StopsIn out out_new found.told
      → refuses stop.WriteFailed about.Nothing between err_new → LeavesFound refuses found out out_new err err_new status.Refused

-- After a call that lays texts out: that, of all files; or memory was refused on the way, which is said, and nothing is written.
pub data LeavesArranged (refuses : Stop → About → (err err_new : OutState) → Type 0) (holds : List ℕ → Option (List ℕ) → Type 0)
    (words : ArrangeWords) (out out_new err err_new : OutState) : Status → Type 0 where
  AllFiles : (found : Found) (between : OutState) (ends : Status)
      → Gathers refuses holds words.form err words.files.items between found → LeavesFound refuses found out out_new between err_new ends
      → LeavesArranged refuses holds words out out_new err err_new ends
  NoMemory : (between : OutState) → GathersSome refuses holds words.form err between
      → refuses (stop.Refused refusal.OutOfMemory) about.Nothing between err_new → out_new ≡ out
      → LeavesArranged refuses holds words out out_new err err_new status.Refused
