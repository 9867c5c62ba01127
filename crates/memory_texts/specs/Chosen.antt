-- Which declarations are written where a run ends, and how.
use Rattle.std.specs.Prelude.{ℕ, ◌==◌, ℤ, Bool, true, false, not, if◌then◌else◌, List, [], ◌∷◌, ◌++◌, codes, drop, map, take, Option, None}
use Rattle.std.specs.List.{filter, find, flat_map, slice_split}
use Rattle.pram_model.specs.Layout.{SharedEntry, size}
use Rattle.pram_model.specs.Names.{is_one_of}
use Rattle.program_texts.specs.Shown.{entry_line, item_lines, line, shown}
use Rattle.write_rules.specs.Verdict.{Verdict, Ended, Faulted, GoesOn}
use Rattle.memory_texts.specs.declared.choice.Choice.{Choice}
use Rattle.memory_texts.specs.declared.choice.Choice.TheVariants.{All, Named, Nothing}

-- the parts of a word, between its commas
abbrev pub parts : List ℕ → List (List ℕ)
parts = slice_split (λ b. b == 44)

-- whether the values of a declaration of that name are written
abbrev pub is_chosen : Choice → (name : List ℕ) → Bool
is_chosen All name = true
is_chosen Nothing name = false
is_chosen (Named word) name = is_one_of (parts word.now) name

-- whether a declaration has that name
abbrev pub declares : List SharedEntry → (name : List ℕ) → Bool
declares layout name = is_one_of (map (λ e. e.name) layout) name

-- the first of some parts that is no declaration's name
abbrev pub unknown_part : List SharedEntry → List (List ℕ) → Option (List ℕ)
unknown_part layout = find (λ part. not (declares layout part))

abbrev pub unknown_name : List SharedEntry → Choice → Option (List ℕ)
unknown_name layout All = None
unknown_name layout Nothing = None
unknown_name layout (Named word) = unknown_part layout (parts word.now)

-- each declaration with the values of its own cells, in order
abbrev pub with_values : List SharedEntry → (memory : List ℤ) → List (SharedEntry × List ℤ)
with_values [] memory = []
with_values (e ∷ es) memory = (e, take (size e.bounds) memory) ∷ with_values es (drop (size e.bounds) memory)

-- those that are chosen
abbrev pub chosen : Choice → List SharedEntry → (memory : List ℤ) → List (SharedEntry × List ℤ)
chosen choice layout memory = filter (λ d. is_chosen choice d.0.name) (with_values layout memory)

-- their lines
abbrev pub chosen_lines : Choice → List SharedEntry → (memory : List ℤ) → List ℕ
chosen_lines choice layout memory = flat_map (λ d. entry_line d.0 d.1) (chosen choice layout memory)

-- the line of a declaration, if it is chosen
abbrev pub line_if_chosen : Choice → SharedEntry → (values : List ℤ) → List ℕ
line_if_chosen choice e values = if is_chosen choice e.name then entry_line e values else []

-- what is written of a run that ended
abbrev pub ended_by : Choice → List SharedEntry → (output memory : List ℤ) → List ℕ
ended_by All layout output memory = shown layout (Ended output memory)
ended_by Nothing layout output memory = item_lines output ++ line (codes "ended")
ended_by (Named word) layout output memory = chosen_lines (Named word) layout memory

-- what `show_chosen` writes
abbrev pub shown_by : Choice → List SharedEntry → Verdict → List ℕ
shown_by choice layout (Ended output memory) = ended_by choice layout output memory
shown_by choice layout (Faulted fault output) = shown layout (Faulted fault output)
shown_by choice layout (GoesOn output) = shown layout (GoesOn output)
