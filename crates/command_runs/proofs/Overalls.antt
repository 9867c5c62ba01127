-- The time of a run is the number of statements behind which it ends.
use Rattle.std.proofs.Common.{◌≡◌, ◌≤◌, ℕ, List, ℤ, refl, subst, arith}
use Rattle.pram_check.specs.Checked.{Checked}
use Rattle.write_rules.specs.Verdict.{Ended}
use Rattle.pram_meaning.specs.Meaning.{Ends}
use Rattle.pram_meaning.specs.Outcome.{Body, IsOutcome}
use Rattle.pram_meaning.specs.Store.{State}
use Rattle.costs.specs.Cost.{time}
use Rattle.costs.specs.Steps.{run_steps}
use Rattle.costs.proofs.Timed.{time_is_the_least_bound}
use Rattle.all_inputs.specs.Overall.{MayEndBehind}
use Rattle.all_inputs.specs.declared.overall.Overall.{Overall}

pub ends_behind_time : (p : Checked) (input : List ℤ) (n : ℕ) (output memory : List ℤ) (overall : Overall) →
    ((m : State) → Body p input (Ends tt m) → m.count ≤ n → MayEndBehind overall m.count) → IsOutcome p input n (Ended output memory) →
    MayEndBehind overall (time (run_steps p input n))
ends_behind_time p input n output memory overall told is =
    let t : ℕ = time (run_steps p input n) in
    let law = time_is_the_least_bound p input n (Ended output memory) is tt in
    let within : t ≤ n = (law n).0 is in
    let early : IsOutcome p input t (Ended output memory) = (law t).1 (omega arith) in
    let m : State = early.0 in
    let few : m.count ≤ t = early.2 in
    let late : t ≤ m.count = (law m.count).0 (m, early.1, omega arith, early.3, early.4) in
    let same : m.count ≡ t = omega (arith, few, late) in
    subst (MayEndBehind overall) same (told m early.1 (omega (arith, few, within)))
