-- Texts that were read, with their expansions or without.
use Rattle.std.proofs.Common.{◌≡◌, ℕ, List, inl, inr, subst, sym}
use Rattle.std.specs.Prelude.{Option, Some, None, Result, Ok, Err, IfErr, IsErrAnd}
use Rattle.pram_tokens.specs.Scanning.{longest}
use Rattle.sized_texts.specs.Faults.{shown}
use Rattle.sized_texts.specs.declared.expanded.Expanded.{Expanded}
use Rattle.system_files.specs.Files.{IsReadFrom}
use Rattle.program_texts.specs.declared.stop.Stop.{Stop}
use Rattle.diagnoses.specs.declared.about.About.{About}
use Rattle.diagnoses.specs.declared.about.About.TheVariants as about
use Rattle.diagnoses.specs.declared.source.Source.{Source}
use Rattle.command_requests.specs.declared.request.ProgramFile.{ProgramFile}
use Rattle.command_requests.specs.declared.request.SizeWord.{SizeWord}
use Rattle.diagnoses.specs.declared.halted.Halted.{Halted}
use Rattle.command_requests.specs.Expanded.{HasExpansion, HasNoExpansion, IsExpandedBy}
use Rattle.command_requests.specs.Given.{IsOfSizes}
use Rattle.command_facts.specs.Held.{IsAtText, IsUnread, StopsAtText}
use Rattle.command_facts.proofs.Files.{read_whole}

module _ (holds : Option (List ℕ) → Type 0) (file : ProgramFile) where
  -- a word gives no size
  pub stops_before_text : (h : Halted) (why : Stop) → (h.stop ≡ why) × (h.about ≡ about.Nothing) → IsOfSizes file.sizes.items why →
      StopsAtText holds file h
  stops_before_text h why is said = subst (λ (a : About). IsAtText holds file h.stop a) (sym is.1)
      (inl (subst (λ (s : Stop). IsOfSizes file.sizes.items s) (sym is.0) said))

  -- the file wasn't read
  pub unread_text : (why : Stop) (a : About) → IsUnread holds file.name.now why a → IsAtText holds file why a
  unread_text why (about.File u) h = h
  unread_text why about.Nothing h = inr h
  unread_text why (about.Text s) h = absurd h
  unread_text why (about.Line s line) h = absurd h
  unread_text why (about.Values values cells) h = absurd h

  -- so says an answer
  pub stops_with : {X : Type 0} (r : Result X Halted) (why : Stop) → IsErrAnd r (λ h. (h.stop ≡ why) × (h.about ≡ about.Nothing)) →
      IsOfSizes file.sizes.items why → IfErr r (StopsAtText holds file)
  stops_with (Ok x) why is said = absurd is
  stops_with (Err h) why is said = stops_before_text h why is said

  -- the text has no expansion
  pub stops_at_text : (s : Source) (bytes text : List ℕ) (words : List SizeWord) (why : Stop) → s.bytes.items ≡ bytes → s.expansion ≡ None →
      text ≡ bytes → words ≡ file.sizes.items → IsReadFrom holds longest bytes → HasNoExpansion words text why →
      IsAtText holds file why (about.Text s)
  stops_at_text s bytes text words why are itself same given read has = (
    subst (IsReadFrom holds longest) (sym are) read,
    itself,
    subst (λ (t : List ℕ). HasNoExpansion file.sizes.items t why) (sym are)
        (subst (λ (t : List ℕ). HasNoExpansion file.sizes.items t why) same
        (subst (λ (ws : List SizeWord). HasNoExpansion ws text why) given has)),
  )

  -- it has one
  pub text_held : (bytes text : List ℕ) (words : List SizeWord) (e : Expanded) → text ≡ bytes → words ≡ file.sizes.items →
      IsReadFrom holds longest bytes → IsExpandedBy words text (shown e) →
      holds (Some bytes) × HasExpansion file.sizes.items bytes (Some e)
  text_held bytes text words e same given read is =
      let has = subst (λ (t : List ℕ). IsExpandedBy file.sizes.items t (shown e)) same
      (subst (λ (ws : List SizeWord). IsExpandedBy ws text (shown e)) given is) in
      (read_whole holds longest bytes has.plain.fits read, has)
