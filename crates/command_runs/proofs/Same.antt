-- What a run finds in files it finds as long as these stand for the same.
use Rattle.std.proofs.Common.{◌⊎◌, ℕ, ℤ, List, inl, inr}
use Rattle.std.specs.Prelude.{Option}
use Rattle.pram_check.specs.Checked.{Checked}
use Rattle.system_files.specs.Files.{IsSame}
use Rattle.diagnoses.specs.declared.halted.Halted.{Halted}
use Rattle.program_texts.specs.declared.from_text.Refusal.{Refusal}
use Rattle.command_requests.specs.declared.opening.Opening.{Opening}
use Rattle.command_requests.specs.declared.request.ProgramFile.{ProgramFile}
use Rattle.command_requests.specs.declared.run_words.MeaningWords.{MeaningWords}
use Rattle.command_facts.specs.declared.found.FoundRun.{FoundRun}
use Rattle.command_facts.specs.Refused.{StopsAtOpening}
use Rattle.command_facts.proofs.Same.{loaded_held, opening_held, opening_stops, program_held, program_stops}
use Rattle.command_runs.specs.Refused.{RefusesRun}
use Rattle.command_runs.specs.Runs.{IsMeant, IsRunOf}

module _ (now before : List ℕ → Option (List ℕ) → Type 0) (same : IsSame now before) where
  run_held : (file : ProgramFile) (o : Opening) (r : FoundRun) → IsRunOf now file o r → IsRunOf before file o r
  run_held file o r h = record {
    loaded = loaded_held now before same file r.loaded h.loaded;
    given = opening_held now before same r.loaded.program.layout o r.input.items h.given;
    meaning = h.meaning;
  }

  pub meant_held : (file : ProgramFile) (words : MeaningWords) (r : FoundRun) → IsMeant now file words r → IsMeant before file words r
  meant_held file words r h = record { run = run_held file words.opening r h.run; limit = h.limit }

  -- why it isn't found
  pub behind_held : (program : Checked) (o : Opening) (Names : Checked → Halted → Type 0) (h : Halted) →
      Names program h ⊎ StopsAtOpening now program.layout o h → Names program h ⊎ StopsAtOpening before program.layout o h
  behind_held program o Names h (inl names) = inl names
  behind_held program o Names h (inr stops) = inr (opening_stops now before same program.layout o h stops)

  pub run_stops : (file : ProgramFile) (o : Opening) (Names : Checked → Halted → Type 0) (Refuses : Checked → List ℤ → Refusal → Type 0)
      (h : Halted) → RefusesRun now file o Names Refuses h → RefusesRun before file o Names Refuses h
  run_stops file o Names Refuses h (inl stops) = inl (program_stops now before same file h stops)
  run_stops file o Names Refuses h (inr (inl stops)) =
      inr (inl (stops.0, program_held now before same file stops.0 stops.1, behind_held stops.0 o Names h stops.2))
  run_stops file o Names Refuses h (inr (inr stops)) = inr (inr (record {
    program = stops.program;
    is = program_held now before same file stops.program stops.is;
    input = stops.input;
    given = opening_held now before same stops.program.layout o stops.input stops.given;
    refused = stops.refused;
  }))
