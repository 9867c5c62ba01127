-- A program whose body never ends.
use Rattle.std.proofs.Common.{◌≡◌, ℕ, ℤ, Err, List, arith, subst}
use Rattle.pram_check.specs.Checked.{Checked}
use Rattle.write_rules.specs.Verdict.{Ended, Faulted, GoesOn, Verdict}
use Rattle.pram_meaning.specs.Meaning as relation
use Rattle.pram_meaning.specs.Meaning.{Ends, MeansList}
use Rattle.pram_meaning.specs.Moments.{list_moments}
use Rattle.pram_meaning.specs.Outcome.{IsOutcome, opening}
use Rattle.pram_meaning.specs.Store.{State}
use Rattle.pram_meaning.proofs.OneOutcome.{one_outcome}
use Rattle.endless_runs.specs.Endless.{ComesBack, HasCycle, IsEndless, NeverEnds}
use Rattle.endless_runs.specs.Search.{HasShown, IsKnown, RunPart, of_list}
use Rattle.endless_runs.specs.declared.cycle.Cycle.{Cycle}
use Rattle.endless_runs.specs.declared.stop.Stop.{Stop}
use Rattle.endless_runs.specs.declared.stop.Stop.TheVariants as stop

goes_on : (p : Checked) (input : List ℤ) (n : ℕ) (v : Verdict) → IsEndless (MeansList p p.body (opening p input)) → IsOutcome p input n v →
    (output : List ℤ) × IsOutcome p input n (GoesOn output)
goes_on p input n (Ended output memory) never is = absurd (never (Ends tt is.0) is.1)
goes_on p input n (Faulted fault output) never is = absurd (never (relation.Stops fault is.0 output) is.1)
goes_on p input n (GoesOn output) never is = (output, is)

pub never_ends : (p : Checked) (input : List ℤ) → IsEndless (MeansList p p.body (opening p input)) → NeverEnds p input
never_ends p input never n = let o = one_outcome p input n in goes_on p input n o.outcome never o.is

-- so it is of a body that was searched
pub endless_by : (part : RunPart) (new : State) (why : Stop) (c : Cycle) → why ≡ stop.Cycle c → IsKnown part new (Err why) →
    IsEndless part.means × HasShown part.told c
endless_by part new why c is known = subst (λ s. IsKnown part new (Err s)) is known

-- and the loop of its moments is one of the run
pub cycle_of : (p : Checked) (input : List ℤ) (m : State) (c : Cycle) → m ≡ opening p input → HasShown (of_list p p.body m).told c →
    HasCycle p input c
cycle_of p input m c opens is =
    (is.0, subst (λ m. ComesBack (list_moments p is.0 p.body m) c) opens (is.1 is.0 (omega arith)))
