-- What JSON says of an outcome.
use Rattle.std.specs.Prelude.{ℤ, List, [], ◌∷◌, Option, Some, None, codes, if◌then◌else◌, map}
use Rattle.serde_json.specs.Data.{Data}
use Rattle.json_texts.specs.Facts.{Field, count, letters, list, object_of, value, values, word}
use Rattle.memory_texts.specs.Chosen.{chosen, is_chosen}
use Rattle.memory_texts.specs.declared.choice.Choice.{Choice}
use Rattle.memory_texts.specs.declared.choice.Choice.TheVariants.{All}
use Rattle.pram_model.specs.Layout.{SharedEntry}
use Rattle.write_rules.specs.declared.fault.Fault.{Fault}
use Rattle.write_rules.specs.Verdict.{Verdict, Ended, Faulted, GoesOn}
use Rattle.program_texts.specs.Shown.{kind_text, place_text}

-- the bounds of an array, and nothing for a single cell
abbrev pub bounds_fields : Option (ℤ × ℤ) → List Field
bounds_fields None = []
bounds_fields (Some (low, high)) = (codes "low", value low) ∷ (codes "high", value high) ∷ []

-- a declaration, with the values of its cells
abbrev pub entry_facts : SharedEntry → List ℤ → Data
entry_facts e vs = object_of ((codes "name", letters e.name) ∷ (codes "values", values vs) ∷ bounds_fields e.bounds)

-- each of some declarations, in order
abbrev pub memory_facts : List (SharedEntry × List ℤ) → List Data
memory_facts ds = map (λ d. entry_facts d.0 d.1) ds

-- a declaration, if it is chosen
abbrev pub facts_if_chosen : Choice → SharedEntry → List ℤ → List Data
facts_if_chosen choice e vs = if is_chosen choice e.name then entry_facts e vs ∷ [] else []

-- a fault, as `fault read-conflict a[1] line 4` tells it
abbrev pub fault_fields : List SharedEntry → Fault → List Field
fault_fields layout f =
    (codes "kind", word (kind_text f.kind)) ∷ (codes "place", letters (place_text layout f.place)) ∷ (codes "line", count f.line) ∷ []

-- how a run came out, what it printed, and the memory of the chosen declarations or its fault
abbrev pub chosen_fields : Choice → List SharedEntry → Verdict → List Field
chosen_fields choice layout (Ended output memory) =
    (codes "outcome", word (codes "ended")) ∷ (codes "output", values output)
    ∷ (codes "memory", list (memory_facts (chosen choice layout memory))) ∷ []
chosen_fields choice layout (Faulted fault output) =
    (codes "outcome", word (codes "fault")) ∷ (codes "output", values output) ∷ fault_fields layout fault
chosen_fields choice layout (GoesOn output) = (codes "outcome", word (codes "goes on")) ∷ (codes "output", values output) ∷ []

abbrev pub chosen_facts : Choice → List SharedEntry → Verdict → Data
chosen_facts choice layout v = object_of (chosen_fields choice layout v)

-- the same with all declarations
abbrev pub outcome_fields : List SharedEntry → Verdict → List Field
outcome_fields layout v = chosen_fields All layout v

abbrev pub outcome_facts : List SharedEntry → Verdict → Data
outcome_facts layout v = object_of (outcome_fields layout v)

-- what the cells hold before a run
abbrev pub opening_facts : List SharedEntry → List ℤ → Data
opening_facts layout memory = object_of ((codes "opening", list (memory_facts (chosen All layout memory))) ∷ [])
