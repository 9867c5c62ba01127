-- The exit statuses of what calls find.
use Rattle.std.specs.Prelude.{ℕ, nat_lt, ◌||◌, Bool, true, false, not, if◌then◌else◌, List, [], ◌∷◌, Result, Ok, Err}
use Rattle.std.specs.List.{list_any}
use Rattle.program_texts.specs.Status.{status_of}
use Rattle.program_texts.specs.declared.status.Status.{Status}
use Rattle.program_texts.specs.declared.status.Status.TheVariants as status
use Rattle.sweeps.specs.declared.size_row.Ending.{Ending}
use Rattle.sweeps.specs.declared.size_row.Ending.TheVariants as ending
use Rattle.sweeps.specs.declared.size_row.SizeRow.{SizeRow}
use Rattle.comparing.specs.Found as comparisons
use Rattle.all_inputs.specs.declared.overall.Overall.{Overall}
use Rattle.all_inputs.specs.declared.line_faults.LineFaults.{LineFaults}
use Rattle.all_inputs.specs.declared.undecided.Undecided.{Undecided}
use Rattle.command_facts.specs.declared.found.GradeRow.{GradeRow}
use Rattle.command_facts.specs.Grades.{row_passes}
use Rattle.command_facts.specs.declared.found.Settled.{Settled}
use Rattle.command_facts.specs.declared.found.Settled.TheVariants as settled

-- a size at which the run faults or is refused
abbrev pub is_bad : Ending → Bool
is_bad (ending.Faulted counts text) = true
is_bad (ending.Refused text) = true
is_bad (ending.Ended counts) = false
is_bad (ending.GoesOn counts) = false

-- one at which it goes on
abbrev pub is_going_on : Ending → Bool
is_going_on (ending.GoesOn counts) = true
is_going_on (ending.Ended counts) = false
is_going_on (ending.Faulted counts text) = false
is_going_on (ending.Refused text) = false

-- A sweep ends as a run that faults where one size is bad, and else as one that goes on where one does.
abbrev pub status_of_rows : List SizeRow → Status
status_of_rows rows =
    if list_any (λ r. is_bad r.ending) rows then status.Faulted
    else (if list_any (λ r. is_going_on r.ending) rows then status.GoesOn else status.Done)

-- That of runs on inputs of a scope: some fault, or end and fail; or none does, and some go on; or all end, and none fails.
abbrev pub status_of_findings : (faulted failed go_on : ℕ) → Status
status_of_findings faulted failed go_on =
    if nat_lt 0 faulted || nat_lt 0 failed then status.Faulted else (if nat_lt 0 go_on then status.GoesOn else status.Done)

-- That of one run for all inputs: some line may fault; or none may, and a run may go on; or all end. Where too little is known some may fault.
abbrev pub status_of_lines : List LineFaults → (may_go_on : Bool) → Status
status_of_lines [] may_go_on = if may_go_on then status.GoesOn else status.Done
status_of_lines (l ∷ lines) may_go_on = status.Faulted

abbrev pub status_of_overall : Result Overall Undecided → Status
status_of_overall (Ok overall) = status_of_lines overall.told.lines.items overall.told.may_go_on
status_of_overall (Err why) = status.Faulted

-- That of two programs on the same inputs: as of a fault, where they differ on one.
abbrev pub status_of_differing : List comparisons.Differing → Status
status_of_differing [] = status.Done
status_of_differing (d ∷ told) = status.Faulted

abbrev pub status_of_pair : comparisons.Found → Status
status_of_pair f = status_of_differing f.told

-- That of programs that are graded: as of a fault, where one doesn't pass.
abbrev pub status_of_grades : List GradeRow → Status
status_of_grades rows = if list_any (λ row. not (row_passes row)) rows then status.Faulted else status.Done

-- The exit status that goes with what was found.
abbrev pub status_of_found : Settled → Status
status_of_found (settled.Run r told) = status_of r.outcome
status_of_found (settled.Costed r told costs) = status_of r.outcome
status_of_found (settled.Traced r told exchanges) = status_of r.outcome
status_of_found (settled.Executed c) = status_of c.outcome
status_of_found (settled.Swept s) = status_of_rows s.rows.items
status_of_found (settled.Explored f) = status_of_findings f.findings.faulted f.findings.failed f.findings.go_on
status_of_found (settled.Surveyed f) = status_of_overall f.told
status_of_found (settled.Paired f) = status_of_pair (comparisons.found_is f.comparison)
status_of_found (settled.Graded f) = status_of_grades f.rows.items
status_of_found _ = status.Done
