-- The text by which what was found is told.
use Rattle.std.specs.Prelude.{◌≡◌, ℕ, List, ◌++◌, codes, decimal, Result, Ok, Err}
use Rattle.pram_model.specs.Layout.{SharedEntry, total_size}
use Rattle.pram_model.specs.Rules.{rule_word}
use Rattle.pram_check.specs.Checked.{Checked}
use Rattle.superstep_listing.specs.Listing.{spelling}
use Rattle.pictures.specs.Steps.Picture as steps
use Rattle.pictures.specs.Flows.Asides.{asides_in}
use Rattle.pictures.specs.Flows.Picture.{flow}
use Rattle.svg_texts.specs.Shapes as shapes
use Rattle.pictures.specs.Sizes.Picture as sweeps
use Rattle.svg_texts.specs.Shapes.{picture_text as drawn_text}
use Rattle.sweeps.specs.CsvText.{csv_text}
use Rattle.sweeps.specs.SweepText.{sweep_text}
use Rattle.memory_texts.specs.Chosen.{shown_by}
use Rattle.write_rules.specs.Verdict.{verdict_of}
use Rattle.program_texts.specs.Shown.{line}
use Rattle.diagnoses.specs.Sources.{text_in}
use Rattle.help.specs.Explained.{explanation}
use Rattle.all_inputs.specs.OverallText.{overall_text, undecided_text}
use Rattle.all_inputs.specs.declared.overall.Overall.{Overall}
use Rattle.all_inputs.specs.declared.scope.Scope.{Scope}
use Rattle.all_inputs.specs.declared.undecided.Undecided.{Undecided}
use Rattle.comparing.specs.RulesText.{comparison_text}
use Rattle.comparing.specs.Found as pairs
use Rattle.comparing.specs.ComparisonText as pair_texts
use Rattle.scopes.specs.Found.{found_is}
use Rattle.scopes.specs.FindingsText.{findings_text}
use Rattle.mpi_export.specs.Alone.{alone_text}
use Rattle.mpi_export.specs.Program.{c_text}
use Rattle.journal.specs.Entries.{Entry}
use Rattle.pages.specs.Pages.{IsPage}
use Rattle.step_text.specs.declared.telling.Telling.{Telling}
use Rattle.command_requests.specs.declared.form.Form.{Form}
use Rattle.command_requests.specs.declared.form.Form.TheVariants as form
use Rattle.command_requests.specs.declared.step_words.StepWords.{StepWords}
use Rattle.command_requests.specs.declared.sweep_words.SweepForm.{SweepForm}
use Rattle.command_requests.specs.declared.sweep_words.SweepForm.TheVariants as sweep
use Rattle.command_facts.specs.declared.found.FoundRun.{FoundRun}
use Rattle.command_facts.specs.declared.found.FoundScope.{FoundScope}
use Rattle.command_facts.specs.declared.found.FoundSweep.{FoundSweep}
use Rattle.command_facts.specs.declared.found.Settled.{Settled}
use Rattle.command_facts.specs.declared.found.Settled.TheVariants as settled
use Rattle.command_text.specs.declared.terminal.Terminal.{Terminal}
use Rattle.command_text.specs.Costs.{costs_text}
use Rattle.command_text.specs.Grades.{grade_text}
use Rattle.command_text.specs.Spans.{chosen_spans}
use Rattle.command_text.specs.Steps.{IsTelling, told_text}
use Rattle.command_text.specs.Traces.{counts_text, outcome_text}

abbrev pub version_text : List ℕ
version_text = line (codes "pramc 1.10.0")

-- `accepted cells 16 procs 8 rule erew`
abbrev pub accepted_line : Checked → List ℕ
accepted_line program =
    line (codes "accepted cells " ++ (decimal (total_size program.layout)
    ++ (codes " procs " ++ (decimal program.procs ++ (codes " rule " ++ rule_word program.rule)))))

-- runs at several sizes: a line each and how they grow, as values separated by commas, or drawn
abbrev pub swept_text : SweepForm → FoundSweep → List ℕ
swept_text sweep.Words s = sweep_text s.sweep.name s.rows.items s.growths
swept_text sweep.Table s = csv_text s.sweep.name s.rows.items
swept_text sweep.Picture s = drawn_text (sweeps.picture s.sweep.name s.rows.items)

-- a run statement by statement: in words, between the numbers that are asked for, with locals and columns if these are, beside the text as
-- it stands in its file, and then its outcome
abbrev pub IsInWords : Terminal → StepWords → FoundRun → List Entry → List ℕ → Type 0
IsInWords on w r entries text = (telling : Telling)
    × IsTelling on w r.loaded.source.bytes.items (text_in r.loaded.source) r.loaded.program telling
    × (text ≡ told_text r.loaded.program.layout telling r.outcome entries w.from w.to)

-- drawn between the numbers that are asked for, beside the text as it stands in its file
abbrev pub picture_text : StepWords → FoundRun → List Entry → List ℕ
picture_text w r entries =
    shapes.picture_text (steps.picture_from r.loaded.program.layout r.loaded.source.bytes.items entries w.from w.to)

-- the flow of data between the numbers that are asked for, drawn beside the text that its sizes give, of which statements have their
-- places; which reads of a statement are for subscripts alone is known by the program's tree; of the cells of the declarations that are
-- asked for
abbrev pub flow_text : StepWords → FoundRun → List Entry → List ℕ
flow_text w r entries = shapes.picture_text (flow r.loaded.program.layout (text_in r.loaded.source) (asides_in r.loaded.program.body)
    r.input.items entries (chosen_spans r.loaded.program.layout w.drawn) w.from w.to)

-- as a page of the statements between the numbers that are asked for, with the text that its sizes give
abbrev pub IsPageOf : StepWords → FoundRun → List Entry → List ℕ → Type 0
IsPageOf w r entries shows = IsPage r.loaded.source.name.now (text_in r.loaded.source) r.loaded.program r.input.items r.outcome entries
    w.from w.to shows

-- in words, drawn, or as a page
abbrev pub AreStepsText : Form → Terminal → StepWords → FoundRun → List Entry → List ℕ → Type 0
AreStepsText form.Words on w r entries text = IsInWords on w r entries text
AreStepsText form.Picture on w r entries text = text ≡ picture_text w r entries
AreStepsText form.Flow on w r entries text = text ≡ flow_text w r entries
AreStepsText form.Page on w r entries text = IsPageOf w r entries text

-- what is told of all inputs of a scope together, or where too little was known for that
abbrev pub told_of_all : List SharedEntry → Scope → Result Overall Undecided → List ℕ
told_of_all layout scope (Ok overall) = overall_text layout scope overall
told_of_all layout scope (Err why) = undecided_text scope why

-- how many cells are drawn, where inputs are, and what is found
abbrev pub explored_text : FoundScope → List ℕ
explored_text f = pair_texts.cells_line f.drawn ++ findings_text f.program.layout f.specification (found_is f.findings)

-- The text of what was found.
abbrev pub IsTextOf : Settled → List ℕ → Type 0
IsTextOf settled.Version text = text ≡ version_text
IsTextOf (settled.Explanation subject) text = text ≡ explanation subject
IsTextOf (settled.Accepted l) text = text ≡ accepted_line l.program
IsTextOf (settled.Expanded s) text = text ≡ text_in s
IsTextOf (settled.Planned code) text = text ≡ spelling code
IsTextOf (settled.Exported code) text = text ≡ c_text code
IsTextOf (settled.ExportedAlone code) text = text ≡ alone_text code
IsTextOf (settled.Compared c) text = text ≡ comparison_text c
IsTextOf (settled.Explored f) text = text ≡ explored_text f
IsTextOf (settled.Surveyed f) text = text ≡ told_of_all f.program.layout f.scope f.told
IsTextOf (settled.Paired p) text =
    text ≡ pair_texts.comparison_text p.first.layout p.second.layout p.precondition p.drawn (pairs.found_is p.comparison)
IsTextOf (settled.Graded f) text = text ≡ grade_text f
IsTextOf (settled.Run r told) text = text ≡ shown_by told r.loaded.program.layout (verdict_of r.outcome)
IsTextOf (settled.Costed r told c) text = text ≡ costs_text (verdict_of r.outcome) c told.schedule told.lines ++ outcome_text r
IsTextOf (settled.Traced r told t) text = text ≡ counts_text told.drawn told (outcome_text r) t
IsTextOf (settled.Swept s) text = text ≡ swept_text s.form s
IsTextOf (settled.Executed c) text = text ≡ shown_by c.shown c.code.layout (verdict_of c.outcome)
