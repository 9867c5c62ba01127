-- The facts by which what was found is told as JSON.
use Rattle.std.specs.Prelude.{◌≡◌, ◌⊎◌, ℕ, List, [], ◌∷◌, Option, Some, None, Result, Ok, Err, codes}
use Rattle.pram_model.specs.Layout.{SharedEntry}
use Rattle.superstep_machine.specs.Trace.{Exchange}
use Rattle.tracer.specs.Cost.{bsp_cost, in_128_bits}
use Rattle.serde_json.specs.Data.{Data}
use Rattle.json_texts.specs.Lines.{IsJson}
use Rattle.text_out.specs.Out.{OutState, StopsIn, with_bytes}
use Rattle.write_rules.specs.Verdict.{verdict_of}
use Rattle.program_texts.specs.declared.from_text.Refusal.TheVariants as refusal
use Rattle.program_texts.specs.declared.status.Status.{Status}
use Rattle.program_texts.specs.declared.stop.Stop.{Stop}
use Rattle.program_texts.specs.declared.stop.Stop.TheVariants as stop
use Rattle.command_facts.specs.Statuses.{status_of_found}
use Rattle.command_facts.specs.declared.found.FoundCode.{FoundCode}
use Rattle.command_facts.specs.declared.found.Settled.{Settled}
use Rattle.command_facts.specs.declared.found.Settled.TheVariants as settled
use Rattle.all_inputs.specs.declared.overall.Overall.{Overall}
use Rattle.all_inputs.specs.declared.scope.Scope.{Scope}
use Rattle.all_inputs.specs.declared.undecided.Undecided.{Undecided}
use Rattle.json_texts.specs.AcceptedFacts.{accepted_facts}
use Rattle.json_texts.specs.CostFacts.{cost_facts}
use Rattle.comparing.specs.Found as pairs
use Rattle.scopes.specs.Found.{found_is}
use Rattle.json_texts.specs.ExplorationFacts.{exploration_facts}
use Rattle.json_texts.specs.OutcomeFacts.{chosen_facts}
use Rattle.json_texts.specs.OverallFacts.{overall_facts, undecided_facts}
use Rattle.json_texts.specs.PairFacts.{pair_facts}
use Rattle.json_texts.specs.RuleFacts.{comparison_facts}
use Rattle.json_texts.specs.SweepFacts.{sweep_facts}
use Rattle.json_texts.specs.TraceFacts.{trace_facts}
use Rattle.command_json.specs.Grades.{grade_facts}

-- what exchanges cost, where that is asked for and a number of 128 bits
abbrev pub cost_asked : Option (ℕ × ℕ) → List Exchange → Option ℕ
cost_asked None es = None
cost_asked (Some rates) es = in_128_bits (bsp_cost rates.0 rates.1 es)

-- a run of a listing: its outcome
abbrev pub code_facts : FoundCode → Data
code_facts c = chosen_facts c.shown c.code.layout (verdict_of c.outcome)

-- what is told of all inputs of a scope together, or where too little was known for that
abbrev pub survey_facts : List SharedEntry → Scope → Result Overall Undecided → Data
survey_facts layout scope (Ok overall) = overall_facts layout scope overall
survey_facts layout scope (Err why) = undecided_facts scope why

-- The facts of what was found. Texts, code, explanations and the version are not told as JSON.
abbrev pub AreFactsOf : Settled → List Data → Type 0
AreFactsOf (settled.Accepted l) told = told ≡ accepted_facts l.program ∷ []
AreFactsOf (settled.Compared c) told = told ≡ comparison_facts c ∷ []
AreFactsOf (settled.Run r shown) told = told ≡ chosen_facts shown r.loaded.program.layout (verdict_of r.outcome) ∷ []
AreFactsOf (settled.Costed r w c) told = told ≡ cost_facts r.loaded.program.layout (verdict_of r.outcome) c w.schedule w.lines ∷ []
AreFactsOf (settled.Traced r w t) told =
    told ≡ trace_facts t.lines.items w.outcome r.loaded.program.layout (cost_asked w.rates t.counts) t.counts (verdict_of r.outcome)
AreFactsOf (settled.Explored f) told = told ≡ exploration_facts f.program.layout f.specification f.drawn (found_is f.findings) ∷ []
AreFactsOf (settled.Surveyed f) told = told ≡ survey_facts f.program.layout f.scope f.told ∷ []
AreFactsOf (settled.Paired p) told = told ≡ pair_facts p.first.layout p.second.layout p.precondition p.drawn (pairs.found_is p.comparison)
AreFactsOf (settled.Graded f) told = told ≡ grade_facts f
AreFactsOf (settled.Swept s) told = told ≡ sweep_facts s.sweep.name s.rows.items s.growths
AreFactsOf (settled.Executed c) told = told ≡ code_facts c ∷ []
AreFactsOf _ told = ⊥

-- lines of JSON that say them
abbrev pub IsJsonOf : Settled → List ℕ → Type 0
IsJsonOf f text = (told : List Data) × AreFactsOf f told × IsJson told text

-- what was found is not told as JSON
abbrev pub IsUntold : Settled → Type 0
IsUntold settled.Version = Unit {0}
IsUntold (settled.Explanation subject) = Unit {0}
IsUntold (settled.Expanded s) = Unit {0}
IsUntold (settled.Planned code) = Unit {0}
IsUntold (settled.Exported code) = Unit {0}
IsUntold (settled.ExportedAlone code) = Unit {0}
IsUntold _ = ⊥

-- why no lines are made: memory was refused, or what was found is not told so
abbrev pub IsUnmade : Settled → Stop → Type 0
IsUnmade f (stop.Refused refusal.OutOfMemory) = Unit {0}
IsUnmade f (stop.Number word) = IsUntold f × (word.now ≡ codes "json")
IsUnmade f _ = ⊥

-- such lines were written whole, or the writer failed in them, or none were made
abbrev pub WritesFound : Settled → OutState → OutState → Result Status Stop → Type 0
WritesFound f old new (Ok s) = (s ≡ status_of_found f) × ((text : List ℕ) × IsJsonOf f text × (new ≡ with_bytes old text))
WritesFound f old new (Err why) =
    ((why ≡ stop.WriteFailed) × ((text : List ℕ) × IsJsonOf f text × StopsIn old new text)) ⊎ (IsUnmade f why × (new ≡ old))
