-- Outcomes of runs from values have values.
use Rattle.std.proofs.Common.{◌≡◌, ℕ, zero, suc, List, [], ◌∷◌, map, Bool, true, false, Option, Some, None, ℤ, subst, FitsSigned}
use Rattle.std.specs.Prelude.{if◌then◌else◌, nat_lt}
use Rattle.std.specs.List.{AllByRecursion, filter, range_with_len}
use Rattle.std.specs.Int.{w64}
use Rattle.write_rules.specs.Verdict.{Verdict}
use Rattle.superstep_instructions.specs.Limits.{IsCode}
use Rattle.superstep_machine.specs.Setting.{Setting, workers, all_cells}
use Rattle.superstep_machine.specs.Machine.{phase, run}
use Rattle.superstep_machine.specs.Run.{Way, On, Ending, Past, Refused, Lost, State, is_over, items, items_below, verdict_by, state_of}
use Rattle.superstep_machine.specs.Run.{cell_in, outcome_of, bsp, opening, setting}
use Rattle.superstep_machine.proofs.MachineWords.{all_map, all_kept, value_fits, values_fit}
use Rattle.bsp_verify.proofs.WorkerLemmas.{all_made}
use Rattle.flat_machine.specs.Flatness.{IsMapFor}
use Rattle.machine_limits.specs.Within.{AreValues, IsVerdictOfValues, OutcomesFit}
use Rattle.machine_limits.proofs.Keeping.{IsKept}
use Rattle.machine_limits.proofs.Runs.{phase_kept, opening_kept}
use Rattle.pram_model.proofs.Truths.{unsome}

-- ---- one outcome

abbrev AreItems : List (ℕ × ℤ) → Type 0
AreItems output = AllByRecursion (λ (item : ℕ × ℤ). FitsSigned w64 item.1) output

-- a verdict, if there is one
abbrev IsMaybeOfValues : Option Verdict → Type 0
IsMaybeOfValues None = Unit {0}
IsMaybeOfValues (Some v) = IsVerdictOfValues v

items_fit : (output : List (ℕ × ℤ)) → AreItems output → AreValues (items output)
items_fit output h = all_map (λ (item : ℕ × ℤ). FitsSigned w64 item.1) (FitsSigned w64) (λ (item : ℕ × ℤ). item.1) (λ item f. f) output h

below_fit : (count : ℕ) (output : List (ℕ × ℤ)) → AreItems output → AreValues (items_below count output)
below_fit count output h =
    items_fit (filter (λ (item : ℕ × ℤ). nat_lt item.0 count) output)
    (all_kept (λ (item : ℕ × ℤ). FitsSigned w64 item.1) (λ (item : ℕ × ℤ). nat_lt item.0 count) output h)

verdict_fits : (way : Way) (output : List (ℕ × ℤ)) (memory : List ℤ) → AreItems output → AreValues memory →
    IsMaybeOfValues (verdict_by way output memory)
verdict_fits (Past (Some key) ended) output memory h m = below_fit key.count output h
verdict_fits (Past None true) output memory h m = (items_fit output h, m)
verdict_fits (Past None false) output memory h m = items_fit output h
verdict_fits On output memory h m = tt
verdict_fits (Ending ended) output memory h m = tt
verdict_fits (Refused mark) output memory h m = tt
verdict_fits Lost output memory h m = tt

-- what is asked of each state of a list
record IsStateOfValues (s : State) : Type 0 where
  cells : AreValues s.worker.cells
  output : AreItems s.worker.uniform.output

state_at : (states : List State) (w : ℕ) → AllByRecursion IsStateOfValues states → IsStateOfValues (state_of states w)
state_at [] w h = record { cells = tt; output = tt }
state_at (s ∷ states) zero h = h.0
state_at (s ∷ states) (suc w) h = state_at states w h.1

outcome_fits : (t : Setting) (states : List State) → AllByRecursion IsStateOfValues states → IsMaybeOfValues (outcome_of t states)
outcome_fits t states h =
    verdict_fits (state_of states 0).way (state_of states 0).worker.uniform.output (map (cell_in t states) (all_cells t))
    (state_at states 0 h).output
    (values_fit (cell_in t states) (λ c. value_fits (state_of states (t.map.part c)).worker.cells (t.map.offset c)
    (state_at states (t.map.part c) h).cells) (all_cells t))

-- ---- whole runs

module _ (t : Setting) (code : IsCode t.code) (room : IsMapFor t.code t.map) (v : Verdict) where
  run_fits : (n : ℕ) (ws : ℕ → State) → ((w : ℕ) → IsKept t w (ws w).worker) → run (bsp t) (workers t) n ws ≡ Some (Some v) →
      IsVerdictOfValues v
  run_fits zero ws h e = cc
  run_fits (suc n) ws h e = go (run_fits n (phase (bsp t) (workers t) ws) (phase_kept t code room ws h)) (is_over (ws 0).way) e
    where
      states : List State
      states = map ws (range_with_len 0 (workers t))

      all : AllByRecursion IsStateOfValues states
      all = all_made IsStateOfValues ws (λ w. let k = h w in
          record { cells = k.cells; output = k.uniform.output }) (range_with_len 0 (workers t))

      go : (run (bsp t) (workers t) n (phase (bsp t) (workers t) ws) ≡ Some (Some v) → IsVerdictOfValues v) → (b : Bool) →
          (if b then Some (outcome_of t states) else run (bsp t) (workers t) n (phase (bsp t) (workers t) ws)) ≡ Some (Some v) →
          IsVerdictOfValues v
      go rest true f = subst IsMaybeOfValues (unsome (outcome_of t states) (Some v) f) (outcome_fits t states all)
      go rest false f = rest f

pub outcomes_fit_in_runs : OutcomesFit
outcomes_fit_in_runs t input g v o =
    let u = setting t.code t.map t.bound o.enough in
    run_fits u g.code g.room v o.exchanges (opening u input) (opening_kept u g.code g.room input g.values) o.ends
