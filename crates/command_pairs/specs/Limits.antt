-- What the limits of a comparison come to.
use Rattle.std.specs.Prelude.{◌≡◌, ◌⊎◌, ℕ, List, Option, Some, None, Ok}
use Rattle.std.specs.Option.{option_map}
use Rattle.sized_texts.specs.Formulas.{number_by}
use Rattle.sized_texts.specs.declared.size.Size.{Size}
use Rattle.comparing.specs.declared.compared.Limits.{Limits}
use Rattle.program_texts.specs.declared.from_text.Refusal.TheVariants as refusal
use Rattle.program_texts.specs.declared.stop.Stop.{Stop}
use Rattle.program_texts.specs.declared.stop.Stop.TheVariants as stop
use Rattle.diagnoses.specs.declared.about.About.TheVariants as about
use Rattle.command_requests.specs.declared.pair_words.PairWords.{PairWords}
use Rattle.command_requests.specs.declared.request.SizeWord.{SizeWord}
use Rattle.command_requests.specs.Given.{AreSizesOf, IsOfSizes}
use Rattle.diagnoses.specs.declared.halted.Halted.{Halted}

-- An expression comes to that number by the sizes of a text and of the words of the call.
abbrev pub IsNumberBy : List SizeWord → (text expression : List ℕ) → ℕ → Type 0
IsNumberBy words text e n = (sizes : List Size) × AreSizesOf words sizes × (number_by sizes text e ≡ Ok n)

-- It comes to none.
abbrev pub IsNoNumber : List Size → (text expression : List ℕ) → Type 0
IsNoNumber sizes text e = (n : ℕ) → number_by sizes text e ≡ Ok n → ⊥

-- That is so, and the expression is told; or memory was refused.
abbrev pub HasNoNumber : List SizeWord → (text expression : List ℕ) → Stop → Type 0
HasNoNumber words text e (stop.Number word) = (word.now ≡ e) × ((sizes : List Size) × AreSizesOf words sizes × IsNoNumber sizes text e)
HasNoNumber words text e (stop.Refused refusal.OutOfMemory) = Unit {0}
HasNoNumber words text e _ = ⊥

-- a word gives no size, or the expression has no number by these sizes
abbrev pub IsUnlimited : List SizeWord → (text expression : List ℕ) → Stop → Type 0
IsUnlimited words text e why = IsOfSizes words why ⊎ HasNoNumber words text e why

-- a limit, where there is one
abbrev pub IsLimitBy : List SizeWord → (text : List ℕ) → Option (List ℕ) → Option ℕ → Type 0
IsLimitBy words text None n = n ≡ None
IsLimitBy words text (Some e) None = ⊥
IsLimitBy words text (Some e) (Some n) = IsNumberBy words text e n

abbrev pub HasNoLimit : List SizeWord → (text : List ℕ) → Option (List ℕ) → Stop → Type 0
HasNoLimit words text None why = ⊥
HasNoLimit words text (Some e) why = IsUnlimited words text e why

-- those of a comparison, by the text of the second program and its sizes
pub record AreLimits (words : PairWords) (text : List ℕ) (l : Limits) : Type 0 where
  pub time : IsLimitBy words.second.sizes.items text (option_map (λ e. e.now) words.most_time) l.time
  pub work : IsLimitBy words.second.sizes.items text (option_map (λ e. e.now) words.most_work) l.work
  pub stops : l.stops ≡ words.is_graded

-- one of them is none
abbrev pub HasNoLimits : PairWords → (text : List ℕ) → Stop → Type 0
HasNoLimits words text why =
    HasNoLimit words.second.sizes.items text (option_map (λ e. e.now) words.most_time) why
    ⊎ HasNoLimit words.second.sizes.items text (option_map (λ e. e.now) words.most_work) why

-- the most processors, by the same
abbrev pub AreMostProcs : PairWords → (text : List ℕ) → Option ℕ → Type 0
AreMostProcs words text most = IsLimitBy words.second.sizes.items text (option_map (λ e. e.now) words.most_procs) most

abbrev pub HasNoMostProcs : PairWords → (text : List ℕ) → Halted → Type 0
HasNoMostProcs words text h =
    HasNoLimit words.second.sizes.items text (option_map (λ e. e.now) words.most_procs) h.stop × (h.about ≡ about.Nothing)

abbrev pub HaveNoLimits : PairWords → (text : List ℕ) → Halted → Type 0
HaveNoLimits words text h = HasNoLimits words text h.stop × (h.about ≡ about.Nothing)
