-- The rows of a sweep.
use Rattle.std.proofs.Common.{Bor, ◌≡◌, ◌<◌, ◌+◌, length, take, get_or, ℕ, [], ◌∷◌, ◌++◌, List, inl, inr, refl, subst, sym}
use Rattle.std.proofs.lemmas.List.{take_more}
use Rattle.std.specs.Prelude.{◌⊎◌, Option, Result, Ok, Err, IfOk, None}
use Rattle.std.specs.List.{AllZip}
use Rattle.write_rules.specs.Verdict.{verdict_of}
use Rattle.costs.specs.declared.cost.Cost.{Cost}
use Rattle.sweeps.specs.declared.size_row.Ending.{Ending}
use Rattle.sweeps.specs.declared.size_row.SizeRow.{SizeRow}
use Rattle.drawn_kinds.specs.declared.kind.DrawnKind.{DrawnKind}
use Rattle.scopes.specs.declared.drawing.Drawing.{Drawing}
use Rattle.system_files.specs.Files.{IsSame}
use Rattle.diagnoses.specs.declared.halted.Halted.{Halted}
use Rattle.command_requests.specs.declared.opening.Opening.{Opening}
use Rattle.command_requests.specs.declared.opening.Opening.TheVariants as opening
use Rattle.command_requests.specs.declared.request.ProgramFile.{ProgramFile}
use Rattle.command_requests.specs.declared.request.SizeWord.{SizeWord}
use Rattle.command_requests.specs.declared.sweep_words.SweepWords.{SweepWords}
use Rattle.command_facts.specs.declared.found.FoundRun.{FoundRun}
use Rattle.command_facts.proofs.Rows.{zip_more}
use Rattle.command_facts.proofs.Same.{program_stops}
use Rattle.command_runs.specs.Refused.{NamesNone, RefusesMeaning}
use Rattle.command_runs.specs.Runs.{IsCostOf, IsMeant}
use Rattle.program_texts.specs.Report.{IsMeaningRefused}
use Rattle.command_runs.proofs.Same.{meant_held, run_stops}
use Rattle.command_sweeps.specs.Sweeps.{ComesOut, HasNoInput, IsEndingBy, IsOpeningAt, IsProgramRefused, IsRefusedFor, IsRow, RunsAs}
use Rattle.command_sweeps.specs.Sweeps.{words_on}

pub next_row : (R : ℕ → SizeRow → Type 0) (sizes : List ℕ) (i d : ℕ) (before rows : List SizeRow) (row : SizeRow) → i < length sizes →
    AllZip R (take i sizes) before → R (get_or sizes i d) row → rows ≡ before ++ row ∷ [] → AllZip R (take (i + 1) sizes) rows
next_row R sizes i d before rows row inside all one is =
    subst (λ (xs : List ℕ). AllZip R xs rows) (sym (take_more sizes i d inside))
    (subst (AllZip R _) (sym is) (zip_more R (take i sizes) before (get_or sizes i d) row all one))

-- a run that was found comes out as its ending says
pub runs_as_found : {E : Type 0} (holds : List ℕ → Option (List ℕ) → Type 0) (at : ProgramFile) (w : SweepWords) (o : Opening)
    (run : FoundRun) (cost : Cost) (r : Result Ending E) → IsMeant holds at (words_on w o) run →
    IsCostOf run.loaded.program run.input.items run.limit.bound None w.workers cost →
    IfOk r (IsEndingBy run.loaded.program.layout (verdict_of run.outcome) cost) → IfOk r (RunsAs holds at w o)
runs_as_found holds at w o run cost (Ok e) meant costs is =
    inl (record { run = run; cost = cost; meant = meant; costs = costs; ends = is })
runs_as_found holds at w o run cost (Err x) meant costs is = tt

-- so does one that is refused
pub runs_as_refused : {E : Type 0} (holds : List ℕ → Option (List ℕ) → Type 0) (at : ProgramFile) (w : SweepWords) (o : Opening)
    (h : Halted) (r : Result Ending E) → RefusesMeaning holds at o NamesNone h → IfOk r (IsRefusedFor h) → IfOk r (RunsAs holds at w o)
runs_as_refused holds at w o h (Ok e) refuses is = inr (h, refuses, is)
runs_as_refused holds at w o h (Err x) refuses is = tt

-- what the run on these cells comes to is what the call at the size does
pub comes_by : {E : Type 0} (holds : List ℕ → Option (List ℕ) → Type 0) (at : ProgramFile) (w : SweepWords) (o : Opening)
    (r : Result Ending E) → IsOpeningAt at.sizes.items w.opening o → IfOk r (RunsAs holds at w o) → IfOk r (ComesOut holds at w)
comes_by holds at w o (Ok e) are runs = inl (o, are, runs)
comes_by holds at w o (Err x) are runs = tt

-- so is a name that can't be filled
pub has_no_input : {E : Type 0} (holds : List ℕ → Option (List ℕ) → Type 0) (at : ProgramFile) (w : SweepWords) (h : Halted)
    (r : Result Ending E) → HasNoInput at.sizes.items w.opening h → IfOk r (IsRefusedFor h) → IfOk r (ComesOut holds at w)
has_no_input holds at w h (Ok e) none is = inr (h, none, is)
has_no_input holds at w h (Err x) none is = tt

pub no_input : (ws : List SizeWord) (o p : Opening) (h : Halted) → o ≡ p → HasNoInput ws p h → HasNoInput ws o h
no_input ws o p h is none = subst (λ (x : Opening). HasNoInput ws x h) (sym is) none

-- where no input's file is filled, the cells hold what they do at all sizes
pub itself_by : (ws : List SizeWord) (o : Opening) →
    (o ≡ opening.Zeros) ⊎ (((x : Bor (List ℕ)) × (o ≡ opening.Memory x)) ⊎ (((x : Drawing) × (o ≡ opening.Drawn x))
    ⊎ ((kind : DrawnKind) × (seed : ℕ) × (o ≡ opening.OfKind kind seed)))) → IsOpeningAt ws o o
itself_by ws o (inl e) = subst (λ (x : Opening). IsOpeningAt ws x x) (sym e) refl
itself_by ws o (inr (inl h)) = subst (λ (x : Opening). IsOpeningAt ws x x) (sym h.1) refl
itself_by ws o (inr (inr (inl h))) = subst (λ (x : Opening). IsOpeningAt ws x x) (sym h.1) refl
itself_by ws o (inr (inr (inr h))) = subst (λ (x : Opening). IsOpeningAt ws x x) (sym h.2) refl

-- ---- as long as the files hold the same

module _ (now before : List ℕ → Option (List ℕ) → Type 0) (same : IsSame now before) where
  runs_held : (at : ProgramFile) (w : SweepWords) (o : Opening) (e : Ending) → RunsAs now at w o e → RunsAs before at w o e
  runs_held at w o e (inl h) = inl (record {
    run = h.run;
    cost = h.cost;
    meant = meant_held now before same at (words_on w o) h.run h.meant;
    costs = h.costs;
    ends = h.ends;
  })
  runs_held at w o e (inr h) = inr (h.0, run_stops now before same at o NamesNone IsMeaningRefused h.0 h.1, h.2)

  comes_out : (at : ProgramFile) (w : SweepWords) (e : Ending) → ComesOut now at w e → ComesOut before at w e
  comes_out at w e (inl h) = inl (h.0, h.1, runs_held at w h.0 e h.2)
  comes_out at w e (inr h) = inr h

  pub row_held : (file : ProgramFile) (w : SweepWords) (size : ℕ) (row : SizeRow) → IsRow now file w size row →
      IsRow before file w size row
  row_held file w size row is = record {
    sized = is.sized;
    at = is.at;
    is_at = is.is_at;
    out = comes_out is.at w row.ending is.out;
  }

  -- the program at a size is refused
  pub refusal_held : (file : ProgramFile) (word : List ℕ) (size : ℕ) (h : Halted) → IsProgramRefused now file word size h →
      IsProgramRefused before file word size h
  refusal_held file word size h (inl stops) = inl (stops.0, stops.1, program_stops now before same stops.0 h stops.2)
  refusal_held file word size h (inr stops) = inr stops
