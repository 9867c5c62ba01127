-- How the entries of a run are written, each on a line.
use Rattle.std.specs.Prelude.{ℕ, ◌+◌, nat_le, ◌&&◌, if◌then◌else◌, List, [], ◌∷◌, ◌++◌, Option, Some, None}
use Rattle.pram_model.specs.Layout.{SharedEntry}
use Rattle.program_texts.specs.Shown.{line}
use Rattle.journal.specs.Entries.{Entry}
use Rattle.step_text.specs.Focus.{focused}
use Rattle.step_text.specs.declared.manner.Manner.{Manner}
use Rattle.step_text.specs.declared.manner.Manner.TheVariants.{OnTerminal, Plain}
use Rattle.step_text.specs.declared.telling.Detail.{Detail}
use Rattle.step_text.specs.declared.telling.Telling.{Telling}
use Rattle.step_text.specs.OnTerminal as terminal
use Rattle.step_text.specs.ChangeTexts.{entry_text}

-- the line of an entry
abbrev pub entry_line : List SharedEntry → Manner → Detail → ℕ → Entry → List ℕ
entry_line layout Plain detail number e = line (entry_text layout detail number e)
entry_line layout (OnTerminal text colours) detail number e = terminal.entry_line layout text.now colours detail number e

-- that of what is left of an entry, and none where nothing is
abbrev pub line_of_left : List SharedEntry → Telling → ℕ → Option Entry → List ℕ
line_of_left layout telling number None = []
line_of_left layout telling number (Some e) = entry_line layout telling.manner telling.detail number e

-- that of an entry, of which so much is looked at
abbrev pub told_line : List SharedEntry → Telling → ℕ → Entry → List ℕ
told_line layout telling number e = line_of_left layout telling number (focused telling.focus e)

-- that of an entry whose number is asked for
abbrev pub line_within : List SharedEntry → Telling → (first last number : ℕ) → Entry → List ℕ
line_within layout telling first last number e =
    if nat_le first number && nat_le number last then told_line layout telling number e else []

-- the lines of entries that are numbered from this on
abbrev pub lines_from : List SharedEntry → Telling → (first last number : ℕ) → List Entry → List ℕ
lines_from layout telling first last number [] = []
lines_from layout telling first last number (e ∷ es) =
    line_within layout telling first last number e ++ lines_from layout telling first last (number + 1) es

-- those whose numbers, counted from 1, go from `first` to `last`
abbrev pub steps_text : List SharedEntry → Telling → (first last : ℕ) → List Entry → List ℕ
steps_text layout telling first last es = lines_from layout telling first last 1 es
