-- What is read of a file that is not too long is all of it.
use Rattle.std.proofs.Common.{◌≤◌, ◌++◌, ℕ, List, refl, subst, sym}
use Rattle.std.proofs.lemmas.List.{append-nil}
use Rattle.std.specs.Prelude.{Option, Some, length}
use Rattle.system_files.specs.Files.{IsReadFrom}
use Rattle.program_texts.specs.declared.from_text.Refusal.TheVariants as refusal
use Rattle.program_texts.specs.declared.stop.Stop.{Stop}
use Rattle.program_texts.specs.declared.stop.Stop.TheVariants as stop
use Rattle.diagnoses.specs.declared.about.About.{About}
use Rattle.diagnoses.specs.declared.about.About.TheVariants as about
use Rattle.pram_model.specs.Layout.{SharedEntry}
use Rattle.pram_tokens.specs.Scanning.{longest}
use Rattle.command_facts.specs.Held.{IsAtFile, IsAtMemory, IsOfCodeIn, IsOfMemory, IsOfMemoryIn, IsUnread}
use Rattle.command_facts.specs.Listings.{IsOfListing}

pub read_whole : (holds : Option (List ℕ) → Type 0) (most : ℕ) (bytes : List ℕ) → length bytes ≤ most → IsReadFrom holds most bytes →
    holds (Some bytes)
read_whole holds most bytes few read =
    subst (λ (xs : List ℕ). holds (Some xs)) (append-nil bytes) (subst (λ (rest : List ℕ). holds (Some (bytes ++ rest)))
    (read.2 few) read.1)

-- code that is refused stands in the file that its text was read from
pub code_stops : (holds : Option (List ℕ) → Type 0) (name : List ℕ) (most : ℕ) (text : List ℕ) (why : Stop) (a : About) → IsReadFrom holds
    most text →
    IsOfCodeIn text why a → IsAtFile holds name most IsOfListing why a
code_stops holds name most text (stop.Words w) a read h = absurd h
code_stops holds name most text (stop.Number w) a read h = absurd h
code_stops holds name most text (stop.Unreadable w) a read h = absurd h
code_stops holds name most text (stop.Refused (refusal.Text fault)) a read h = absurd h
code_stops holds name most text (stop.Refused (refusal.Program b)) a read h = absurd h
code_stops holds name most text (stop.Refused refusal.InputTooLong) a read h = absurd h
code_stops holds name most text (stop.Refused refusal.BadMap) a read h = absurd h
code_stops holds name most text (stop.Refused refusal.BadWorkers) a read h = absurd h
code_stops holds name most text (stop.Refused refusal.OutOfReserve) a read h = absurd h
code_stops holds name most text (stop.Refused refusal.OutOfMemory) about.Nothing read h = refl
code_stops holds name most text (stop.Refused refusal.OutOfMemory) (about.File u) read h = absurd h
code_stops holds name most text (stop.Refused refusal.OutOfMemory) (about.Text s) read h = absurd h
code_stops holds name most text (stop.Refused refusal.OutOfMemory) (about.Line s line) read h = absurd h
code_stops holds name most text (stop.Refused refusal.OutOfMemory) (about.Values values cells) read h = absurd h
code_stops holds name most text (stop.NotVerified at word) about.Nothing read h = absurd h
code_stops holds name most text (stop.NotVerified at word) (about.Text s) read h = absurd h
code_stops holds name most text (stop.NotVerified at word) (about.Line s line) read h =
    (subst (IsReadFrom holds most) (sym h.0) read, h.1, h.2)
code_stops holds name most text (stop.NotVerified at word) (about.Values values cells) read h = absurd h
code_stops holds name most text (stop.NotVerified at word) (about.File u) read h = absurd h
code_stops holds name most text (stop.BadListing at) a read h = absurd h
code_stops holds name most text stop.WriteFailed a read h = absurd h
code_stops holds name most text (stop.BadSize at reason) a read h = absurd h

-- so does a memory that is refused
pub memory_stops : (holds : Option (List ℕ) → Type 0) (name : List ℕ) (layout : List SharedEntry) (text : List ℕ) (why : Stop) (a : About) →
    IsReadFrom holds longest text → IsOfMemoryIn layout text why a → IsAtMemory holds name layout why a
memory_stops holds name layout text why (about.Text s) read h =
    (subst (IsReadFrom holds longest) (sym h.0) read, h.1, subst (IsOfMemory layout why) (sym h.0) h.2)
memory_stops holds name layout text why (about.Values values cells) read h = (text, read, h)
memory_stops holds name layout text why about.Nothing read h = h
memory_stops holds name layout text why (about.Line s line) read h = absurd h
memory_stops holds name layout text why (about.File u) read h = absurd h

-- a file that wasn't read
pub unread_file : (holds : Option (List ℕ) → Type 0) (name : List ℕ) (most : ℕ) (Has : Stop → List ℕ → Type 0) (why : Stop) (a : About) →
    IsUnread holds name why a → IsAtFile holds name most Has why a
unread_file holds name most Has why (about.File u) h = h
unread_file holds name most Has why about.Nothing h = h
unread_file holds name most Has why (about.Text s) h = absurd h
unread_file holds name most Has why (about.Line s line) h = absurd h
unread_file holds name most Has why (about.Values values cells) h = absurd h

pub unread_memory : (holds : Option (List ℕ) → Type 0) (name : List ℕ) (layout : List SharedEntry) (why : Stop) (a : About) →
    IsUnread holds name why a → IsAtMemory holds name layout why a
unread_memory holds name layout why (about.File u) h = h
unread_memory holds name layout why about.Nothing h = h
unread_memory holds name layout why (about.Text s) h = absurd h
unread_memory holds name layout why (about.Line s line) h = absurd h
unread_memory holds name layout why (about.Values values cells) h = absurd h
