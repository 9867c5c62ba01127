-- What is left on standard error.
use Rattle.std.proofs.Common.{◌≡◌, ◌++◌, ℕ, Bor, List, inl, refl, sym, subst}
use Rattle.std.specs.Prelude.{Bool, true, false, Option, Result, IsErrAnd}
use Rattle.text_out.specs.Out.{OutState, StopsIn, Writes, with_bytes}
use Rattle.text_out.proofs.Writing.{writes_stopped}
use Rattle.text_places.proofs.Pieces.{both, stops_in_first}
use Rattle.program_texts.specs.declared.stop.Stop.{Stop}
use Rattle.program_texts.specs.declared.stop.Stop.TheVariants as stop
use Rattle.diagnoses.specs.declared.about.About.{About}
use Rattle.diagnoses.specs.RefusedLines.{stop_line}
use Rattle.diagnoses.specs.Stops.{IsSaid, unsaid}
use Rattle.command_requests.specs.declared.given.Given.{Given}
use Rattle.command_requests.specs.Sentences.{word_fault}
use Rattle.command_text.specs.Explained.{IsInWords, IsSaidBehind, IsWrongOf}

-- something may be said behind each line: of a word by the option that doesn't take it, and else that memory for more was refused
pub something : (words : List (List ℕ)) (why : Stop) (a : About) (wrong : Option Given) → IsWrongOf words why wrong →
    (said : List ℕ) × IsSaidBehind words why a said
something words (stop.Number word) a wrong is = (word_fault wrong word.now, (wrong, is, refl))
something words (stop.Words text) a wrong is = (unsaid, inl refl)
something words (stop.Unreadable name) a wrong is = (unsaid, inl refl)
something words (stop.Refused r) a wrong is = (unsaid, inl refl)
something words (stop.NotVerified at reason) a wrong is = (unsaid, inl refl)
something words (stop.BadListing at) a wrong is = (unsaid, inl refl)
something words stop.WriteFailed a wrong is = (unsaid, inl refl)
something words (stop.BadSize at reason) a wrong is = (unsaid, inl refl)

-- of no word of the call what is known besides
pub said_else : (words : List (List ℕ)) (why : Stop) (a : About) (said : List ℕ) → ((word : Bor (List ℕ)) → why ≡ stop.Number word → ⊥) →
    IsSaid why a said → IsSaidBehind words why a said
said_else words (stop.Number word) a said other is = absurd (other word refl)
said_else words (stop.Words text) a said other is = is
said_else words (stop.Unreadable name) a said other is = is
said_else words (stop.Refused r) a said other is = is
said_else words (stop.NotVerified at reason) a said other is = is
said_else words (stop.BadListing at) a said other is = is
said_else words stop.WriteFailed a said other is = is
said_else words (stop.BadSize at reason) a said other is = is

-- the stream failed within the line
pub line_cut_off : {E : Type 0} (explains : Bool) (words : List (List ℕ)) (why : Stop) (a : About) (wrong : Option Given)
    (old new : OutState)
    (res : Result Unit E) (P : E → Type 0) → IsWrongOf words why wrong → IsErrAnd res P → StopsIn old new (stop_line why a) →
    (text : List ℕ) × IsInWords explains words why a text × Writes old new text res
line_cut_off false words why a wrong old new res P of is s = (stop_line why a, refl, writes_stopped old new (stop_line why a) res P is s)
line_cut_off true words why a wrong old new res P of is s =
    let more = something words why a wrong of in
    (stop_line why a ++ more.0, (more.0, more.1, refl), stops_in_first old new _ (stop_line why a) more.0 res P refl is s)

-- the line, and what is said behind it
pub with_more : {E : Type 0} (explains : Bool) (words : List (List ℕ)) (why : Stop) (a : About) (said : List ℕ) (old mid new : OutState)
    (res : Result Unit E) → explains ≡ true → mid ≡ with_bytes old (stop_line why a) → IsSaidBehind words why a said → Writes mid new
    said res →
    (text : List ℕ) × IsInWords explains words why a text × Writes old new text res
with_more explains words why a said old mid new res on first is second =
    subst (λ b. (text : List ℕ) × IsInWords b words why a text × Writes old new text res) (sym on)
    (stop_line why a ++ said, (said, is, refl), both old mid new _ (stop_line why a) said res refl first second)
