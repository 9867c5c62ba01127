-- What holds of the files that names stand for holds as long as they stand for the same.
use Rattle.std.proofs.Common.{ℕ, ℤ, List, inl, inr}
use Rattle.std.specs.Prelude.{Option, Some, None}
use Rattle.pram_model.specs.Layout.{SharedEntry}
use Rattle.pram_tokens.specs.Scanning.{longest}
use Rattle.system_files.specs.Files.{IsReadFrom, IsSame}
use Rattle.program_texts.specs.declared.stop.Stop.{Stop}
use Rattle.program_texts.specs.declared.stop.Stop.TheVariants as stop
use Rattle.diagnoses.specs.declared.about.About.{About}
use Rattle.diagnoses.specs.declared.about.About.TheVariants as about
use Rattle.diagnoses.specs.declared.halted.Halted.{Halted}
use Rattle.command_requests.specs.declared.opening.Opening.{Opening}
use Rattle.command_requests.specs.declared.opening.Opening.TheVariants as opening
use Rattle.pram_check.specs.Checked.{Checked}
use Rattle.sized_texts.specs.Pieces.{Expansion}
use Rattle.command_requests.specs.declared.request.ProgramFile.{ProgramFile}
use Rattle.command_requests.specs.declared.request.SizeWord.{SizeWord}
use Rattle.command_facts.specs.declared.loaded.Loaded.{Loaded}
use Rattle.command_facts.specs.Found.{IsLoaded, IsOpening}
use Rattle.command_facts.specs.Held.{IsAtFile, IsAtMemory, IsAtProgram, IsAtText, IsExpansionIn, IsNoFile, IsOfInput, StopsAtProgram}
use Rattle.command_facts.specs.Refused.{IsProgramIn, IsProgramOfText, IsProgramWhereNamed, StopsAtOpening, StopsWhereNamed}

-- ---- files

module _ (now before : List ℕ → Option (List ℕ) → Type 0) (same : IsSame now before) where
  -- what the cells hold
  pub opening_held : (layout : List SharedEntry) (o : Opening) (values : List ℤ) → IsOpening now layout o values → IsOpening before
      layout o values
  opening_held layout opening.Zeros values h = h
  opening_held layout (opening.Input name) values h = (h.0, (same name.now (Some h.0)).0 h.1, h.2)
  opening_held layout (opening.Memory name) values h = (h.0, (same name.now (Some h.0)).0 h.1, h.2)
  opening_held layout (opening.Drawn d) values h = h
  opening_held layout (opening.OfKind kind seed) values h = h

  read_from : (name : List ℕ) (most : ℕ) (bytes : List ℕ) → IsReadFrom (now name) most bytes → IsReadFrom (before name) most bytes
  read_from name most bytes h = (h.0, (same name _).0 h.1, h.2)

  unread : (name : List ℕ) (why : Stop) → IsNoFile (now name) name why → IsNoFile (before name) name why
  unread name (stop.Unreadable word) h = (h.0, (same name None).0 h.1)
  unread name (stop.Refused r) h = absurd h
  unread name (stop.Words text) h = absurd h
  unread name (stop.Number word) h = absurd h
  unread name (stop.NotVerified at word) h = absurd h
  unread name (stop.BadListing at) h = absurd h
  unread name stop.WriteFailed h = absurd h
  unread name (stop.BadSize at reason) h = absurd h

  pub at_file : (name : List ℕ) (most : ℕ) (Has : Stop → List ℕ → Type 0) (why : Stop) (a : About) → IsAtFile (now name) name most
      Has why a →
      IsAtFile (before name) name most Has why a
  at_file name most Has why about.Nothing h = h
  at_file name most Has why (about.File u) h = unread name why h
  at_file name most Has why (about.Text s) h = (read_from name most s.bytes.items h.0, h.1, h.2)
  at_file name most Has (stop.NotVerified at word) (about.Line s line) h = (read_from name most s.bytes.items h.0, h.1, h.2)
  at_file name most Has (stop.Words text) (about.Line s line) h = absurd h
  at_file name most Has (stop.Number word) (about.Line s line) h = absurd h
  at_file name most Has (stop.Unreadable word) (about.Line s line) h = absurd h
  at_file name most Has (stop.Refused r) (about.Line s line) h = absurd h
  at_file name most Has (stop.BadListing at) (about.Line s line) h = absurd h
  at_file name most Has stop.WriteFailed (about.Line s line) h = absurd h
  at_file name most Has (stop.BadSize at reason) (about.Line s line) h = absurd h
  at_file name most Has why (about.Values values cells) h = absurd h

  at_memory : (name : List ℕ) (layout : List SharedEntry) (why : Stop) (a : About) → IsAtMemory (now name) name layout why a →
      IsAtMemory (before name) name layout why a
  at_memory name layout why about.Nothing h = h
  at_memory name layout why (about.File u) h = unread name why h
  at_memory name layout why (about.Text s) h = (read_from name longest s.bytes.items h.0, h.1, h.2)
  at_memory name layout why (about.Values values cells) h = (h.0, read_from name longest h.0 h.1, h.2)
  at_memory name layout why (about.Line s line) h = absurd h

  -- that they can't be had
  pub opening_stops : (layout : List SharedEntry) (o : Opening) (h : Halted) → StopsAtOpening now layout o h → StopsAtOpening before
      layout o h
  opening_stops layout opening.Zeros h stops = absurd stops
  opening_stops layout (opening.Input name) h stops = at_file name.now longest IsOfInput h.stop h.about stops
  opening_stops layout (opening.Memory name) h stops = at_memory name.now layout h.stop h.about stops
  opening_stops layout (opening.Drawn d) h stops = stops
  opening_stops layout (opening.OfKind kind seed) h stops = stops

  -- ---- programs

  pub loaded_held : (file : ProgramFile) (l : Loaded) → IsLoaded (now file.name.now) file l → IsLoaded (before file.name.now) file l
  loaded_held file l h = (((same file.name.now _).0 h.0.0, h.0.1), h.1)

  expansion_held : (name : List ℕ) (words : List SizeWord) (e : Expansion) → IsExpansionIn (now name) words e → IsExpansionIn
      (before name) words e
  expansion_held name words e h = (h.0, (same name (Some h.0)).0 h.1, h.2)

  pub program_held : (file : ProgramFile) (program : Checked) → IsProgramIn now file program → IsProgramIn before file program
  program_held file program h = record {
    expansion = h.expansion;
    is_expansion = expansion_held file.name.now file.sizes.items h.expansion h.is_expansion;
    is_program = h.is_program;
  }

  pub text_held : (file : ProgramFile) (text : List ℕ) (program : Checked) → IsProgramOfText now file text program →
      IsProgramOfText before file text program
  text_held file text program h = record {
    held = (same file.name.now (Some text)).0 h.held;
    expansion = h.expansion;
    is_expansion = h.is_expansion;
    is_program = h.is_program;
  }

  at_text : (file : ProgramFile) (why : Stop) (a : About) → IsAtText (now file.name.now) file why a → IsAtText (before file.name.now)
      file why a
  at_text file why about.Nothing h = h
  at_text file why (about.File u) h = unread file.name.now why h
  at_text file why (about.Text s) h = (read_from file.name.now longest s.bytes.items h.0, h.1, h.2)
  at_text file why (about.Line s line) h = absurd h
  at_text file why (about.Values values cells) h = absurd h

  at_program : (file : ProgramFile) (why : Stop) (a : About) → IsAtProgram (now file.name.now) file why a →
      IsAtProgram (before file.name.now) file why a
  at_program file why (about.Text s) h = (((same file.name.now _).0 h.0.0, h.0.1), h.1)
  at_program file why about.Nothing h = absurd h
  at_program file why (about.Line s line) h = absurd h
  at_program file why (about.Values values cells) h = absurd h
  at_program file why (about.File u) h = absurd h

  pub program_stops : (file : ProgramFile) (h : Halted) → StopsAtProgram (now file.name.now) file h → StopsAtProgram
      (before file.name.now) file h
  program_stops file h (inl stops) = inl (at_text file h.stop h.about stops)
  program_stops file h (inr stops) = inr (at_program file h.stop h.about stops)

  -- ---- programs of files that may be named

  pub named_held : (file : Option ProgramFile) (program : Option Checked) → IsProgramWhereNamed now file program → IsProgramWhereNamed
      before file program
  named_held None program h = h
  named_held (Some file) None h = h
  named_held (Some file) (Some program) h = program_held file program h

  pub named_stops : (file : Option ProgramFile) (h : Halted) → StopsWhereNamed now file h → StopsWhereNamed before file h
  named_stops None h stops = stops
  named_stops (Some file) h stops = program_stops file h stops

-- the same as what is the same
pub same_through : (first then last : List ℕ → Option (List ℕ) → Type 0) → IsSame last then → IsSame then first → IsSame last first
same_through first then last more same name bytes = (
  λ h. (same name bytes).0 ((more name bytes).0 h),
  λ h. (more name bytes).1 ((same name bytes).1 h),
)
