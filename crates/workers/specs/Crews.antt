-- Threads that work tasks off.
use Rattle.std.specs.Prelude.{◌≡◌, ◌≤◌, ℕ, Bool, true, false, List, [], ◌∷◌, ◌++◌, Option, Some, None, length, map, slice_get}
use Rattle.std.proofs.Common.{Vec, Global}
use Rattle.std.specs.declared.thread.PromisedHandle.{PromisedHandle}
use Rattle.turnstile.specs.Seats.{RowState}
use Rattle.turnstile.specs.Runners.{LineShape, RunnerState, StarterState}
use Rattle.turnstile.specs.declared.start.told.Told.{Told}
use Rattle.turnstile.specs.declared.start.told.Told.TheVariants.{Stop, Go}
use Rattle.bsp_machine.specs.declared.counted.CountedWorker.{CountedWorker}
use Rattle.workers.specs.declared.report.Report.{Report}
use Rattle.workers.specs.declared.report.ReportOf.{ReportOf}
use Rattle.workers.specs.Reports.{IsReportOf, CameOf}

-- as many of each, and it holds of each two at one place
abbrev pub Pairwise : {A B : Type 0} → (A → B → Type 0) → List A → List B → Type 0
Pairwise P [] [] = Unit {0}
Pairwise P (x ∷ xs) (y ∷ ys) = P x y × Pairwise P xs ys
Pairwise P [] (y ∷ ys) = ⊥
Pairwise P (x ∷ xs) [] = ⊥

module _ {T : Type 0} where
  -- whose thread it is
  abbrev pub runner_of : PromisedHandle (Report T) (ReportOf T) → RunnerState T
  runner_of h = h.promise.0.value

  -- the threads of the first runners, in order, and whether these are all
  pub record AreStarted (rs : List (RunnerState T)) (hs : List (PromisedHandle (Report T) (ReportOf T))) (all : Bool) : Type 0 where
    pub rest : List (RunnerState T)
    pub those : map runner_of hs ++ rest ≡ rs
    pub none : all ≡ true → rest ≡ []

  -- what was said, and the tasks that were not
  abbrev pub IsSaid : Bool → List T → Told (List T) → Option (Vec T Global) → Type 0
  IsSaid true tasks said unsaid = (said ≡ Go tasks) × (unsaid ≡ None)
  IsSaid false tasks said unsaid = (said ≡ Stop) × (v : Vec T Global) × (unsaid ≡ Some v) × (v.items ≡ tasks)

  module _ (done : T → RowState × CountedWorker → Type 0) where
    -- what the threads of these runners gave back, in order
    abbrev pub AreReports : List (RunnerState T) → List (Report T) → Type 0
    AreReports = Pairwise (λ before r. IsReportOf done before r.runner r.played)

    -- Go was said with all tasks, and each runner has ended; or stop was, and the tasks are back.
    pub record IsEnded (l : LineShape) (tasks : List T) (s : StarterState T) (reports : List (Report T)) (unsaid : Option (Vec T Global)) :
        Type 0 where
      pub table : s.table ≡ l.table
      pub went : Bool
      pub said : IsSaid went tasks s.said unsaid
      pub few : length reports ≤ l.runners
      pub all : went ≡ true → length reports ≡ l.runners
      pub reported : (k : ℕ) (r : Report T) → slice_get reports k ≡ Some r →
          (r.runner.table ≡ l.table) × (r.runner.at ≡ k) × CameOf done r.runner r.played
