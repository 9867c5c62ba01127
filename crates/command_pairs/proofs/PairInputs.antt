-- The inputs of files, and that what holds of them holds as long as names stand for the same files.
use Rattle.std.proofs.Common.{◌≡◌, ◌∙◌, ◌<◌, ◌+◌, ◌∷◌, ◌++◌, [], ℕ, ℤ, Global, List, Vec, ap, get_or, inl, inr, length, map, subst, sym}
use Rattle.std.proofs.Common.{take}
use Rattle.std.proofs.lemmas.List.{map_push, take_more}
use Rattle.std.proofs.lemmas.List.Elements.{Contains-get_or}
use Rattle.std.specs.Prelude.{Option, Some}
use Rattle.std.specs.List.{AllZip, Any}
use Rattle.pram_check.specs.Checked.{Checked}
use Rattle.pram_tokens.specs.Scanning.{longest}
use Rattle.system_files.specs.Files.{IsSame}
use Rattle.comparing.specs.Found.{values_of}
use Rattle.command_requests.specs.declared.input_words.InputFile.{InputFile}
use Rattle.command_requests.specs.declared.input_words.InputWords.{InputWords}
use Rattle.command_requests.specs.declared.input_words.InputWords.TheVariants as inputs
use Rattle.diagnoses.specs.declared.halted.Halted.{Halted}
use Rattle.command_facts.specs.Held.{IsOfInput, StopsAtInput}
use Rattle.command_pairs.specs.Pairs.{AreInputs, AreMost, IsInputOfFile, IsRefusedPair, StopsAtInputs, StopsAtWords}
use Rattle.command_facts.proofs.Same.{at_file}
use Rattle.command_facts.proofs.Rows.{zip_more}

-- ---- one more

pub next_input : (R : InputFile → List ℤ → Type 0) (files : List InputFile) (i : ℕ) (d : InputFile) (before after : List (Vec ℤ Global))
    (input : Vec ℤ Global) → i < length files → AllZip R (take i files) (map values_of before) → R (get_or files i d) input.items →
    after ≡ before ++ input ∷ [] → AllZip R (take (i + 1) files) (map values_of after)
next_input R files i d before after input inside all one is =
    subst (λ (xs : List InputFile). AllZip R xs (map values_of after)) (sym (take_more files i d inside))
    (subst (AllZip R _) (sym (ap (map values_of) is ∙ map_push values_of before input))
    (zip_more R (take i files) (map values_of before) (get_or files i d) input.items all one))

-- one of them, by its place
pub any_at : {X : Type 0} (P : X → Type 0) (xs : List X) (i : ℕ) (d : X) → i < length xs → P (get_or xs i d) → Any P xs
any_at P xs i d inside here =
    let is = Contains-get_or xs i d inside in (is.0, get_or xs i d, is.1, is.2, here)

-- ---- files

module _ (now before : List ℕ → Option (List ℕ) → Type 0) (same : IsSame now before) where
  pub input_held : (file : InputFile) (values : List ℤ) → IsInputOfFile now file values → IsInputOfFile before file values
  input_held file values h = (h.0, (same file.name.now (Some h.0)).0 h.1, h.2)

  pub inputs_held : (files : List InputFile) (is : List (List ℤ)) → AllZip (IsInputOfFile now) files is → AllZip
      (IsInputOfFile before) files is
  inputs_held [] [] h = tt
  inputs_held (f ∷ files) (x ∷ is) h = (input_held f x h.0, inputs_held files is h.1)
  inputs_held [] (x ∷ is) h = absurd h
  inputs_held (f ∷ files) [] h = absurd h

  pub words_held : (w : InputWords) (p q : Checked) (is : List (List ℤ)) → AreInputs now w p q is → AreInputs before w p q is
  words_held (inputs.Scope few) p q is h = h
  words_held (inputs.Files files) p q is h = inputs_held files.items is h
  words_held (inputs.Drawn d) p q is h = h
  words_held (inputs.OfKind w) p q is h = h

  pub input_stops : (file : InputFile) (h : Halted) → StopsAtInput (now file.name.now) file.name.now h →
      StopsAtInput (before file.name.now) file.name.now h
  input_stops file h stops = at_file now before same file.name.now longest IsOfInput h.stop h.about stops

  files_stop : (files : List InputFile) (h : Halted) → StopsAtInputs now files h → StopsAtInputs before files h
  files_stop files h (inl any) = inl (any.0, any.1, any.2, any.3, input_stops any.1 h any.4)
  files_stop files h (inr none) = inr none

  words_stop : (w : InputWords) (h : Halted) → StopsAtWords now w h → StopsAtWords before w h
  words_stop (inputs.Scope few) h stops = stops
  words_stop (inputs.Files files) h stops = files_stop files.items h stops
  words_stop (inputs.Drawn d) h stops = stops
  words_stop (inputs.OfKind w) h stops = stops

  most_held : (w : InputWords) (p q : Checked) (n : ℕ) → AreMost now w p q n → AreMost before w p q n
  most_held (inputs.Scope few) p q n h = h
  most_held (inputs.Files files) p q n h = (h.0, inputs_held files.items h.0 h.1, h.2)
  most_held (inputs.Drawn d) p q n h = h
  most_held (inputs.OfKind w) p q n h = h

  pub pair_refused : (w : InputWords) (pre : Option Checked) (p q r : Checked) (h : Halted) → IsRefusedPair now w pre p q r h →
      IsRefusedPair before w pre p q r h
  pair_refused w pre p q r h (inl stops) = inl (words_stop w h stops)
  pair_refused w pre p q r h (inr refused) = inr (refused.0, most_held w p r refused.0 refused.1, refused.2)
