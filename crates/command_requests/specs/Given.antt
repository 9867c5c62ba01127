-- The sizes that the words of a call give.
use Rattle.std.specs.Prelude.{◌≡◌, ◌⊎◌, ℕ, Bool, true, false, List, [], ◌∷◌, ◌++◌, None}
use Rattle.std.specs.List.{list_any}
use Rattle.pram_model.specs.Names.{same_text}
use Rattle.sized_texts.specs.SizeWords.{IsSizeOf, IsSizeWord, name_of}
use Rattle.sized_texts.specs.declared.size.Size.{Size}
use Rattle.program_texts.specs.declared.from_text.Refusal.TheVariants as refusal
use Rattle.program_texts.specs.declared.stop.Stop.{Stop}
use Rattle.program_texts.specs.declared.stop.Stop.TheVariants as stop
use Rattle.command_requests.specs.declared.request.SizeWord.{SizeWord}
use Rattle.command_requests.specs.declared.request.SizeWord.TheVariants.{Given, Swept}

-- a word as it stands on the command line
abbrev pub word_text : SizeWord → List ℕ
word_text (Given word) = word.now
word_text (Swept word value) = word.now

-- the size that a word gives: of a sweep's word that of its name, with the number at which it stands
abbrev pub GivesSize : SizeWord → Size → Type 0
GivesSize (Given word) s = IsSizeWord word.now s
GivesSize (Swept word value) s = (s.name ≡ name_of word.now) × (s.value ≡ value)

-- the word gives none
abbrev pub GivesNone : SizeWord → Type 0
GivesNone (Given word) = IsSizeOf word.now None
GivesNone (Swept word value) = ⊥

-- whether one of the sizes has that name
abbrev pub has_name : List Size → List ℕ → Bool
has_name sizes name = list_any (λ s. same_text s.name name) sizes

-- the names that are known are those of the sizes
abbrev pub AreNamesOf : (is_known : List ℕ → Bool) → List Size → Type 0
AreNamesOf is_known sizes = (name : List ℕ) → is_known name ≡ has_name sizes name

-- a word that gives a size, of a name that none of these has
abbrev pub IsNewSize : List Size → SizeWord → Size → Type 0
IsNewSize sizes word s = GivesSize word s × (has_name sizes s.name ≡ false)

-- The sizes of words behind those that come first: each word gives one of a name of its own.
abbrev pub GiveSizes : (before : List Size) → (words : List SizeWord) → (all : List Size) → Type 0
GiveSizes before [] all = all ≡ before
GiveSizes before (w ∷ words) all = (s : Size) × IsNewSize before w s × GiveSizes (before ++ s ∷ []) words all

-- the sizes of words
abbrev pub AreSizesOf : List SizeWord → List Size → Type 0
AreSizesOf words sizes = GiveSizes [] words sizes

-- a word that gives no size behind these: it gives none, or one of a name that one of them has
abbrev pub IsNoNewSize : List Size → SizeWord → Type 0
IsNoNewSize sizes word = GivesNone word ⊎ ((s : Size) × GivesSize word s × (has_name sizes s.name ≡ true))

-- that word is refused, or memory was
abbrev pub IsWordRefused : List Size → SizeWord → Stop → Type 0
IsWordRefused sizes word (stop.Number told) = (told.now ≡ word_text word) × IsNoNewSize sizes word
IsWordRefused sizes word (stop.Refused refusal.OutOfMemory) = Unit {0}
IsWordRefused sizes word _ = ⊥

-- the first word that gives no size behind those before it
pub record IsFirstWrong (words : List SizeWord) (told : List ℕ) : Type 0 where
  pub front : List SizeWord
  pub word : SizeWord
  pub back : List SizeWord
  pub whole : words ≡ front ++ word ∷ back
  pub is_told : told ≡ word_text word
  pub sizes : List Size
  pub given : AreSizesOf front sizes
  pub wrong : IsNoNewSize sizes word

-- the call is refused by that word, or for want of memory
abbrev pub IsOfSizes : List SizeWord → Stop → Type 0
IsOfSizes words (stop.Number told) = IsFirstWrong words told.now
IsOfSizes words (stop.Refused refusal.OutOfMemory) = Unit {0}
IsOfSizes words _ = ⊥
