-- A program's outcome lies in what is told.
use Rattle.std.proofs.Common.{◌≡◌, ℕ, ◌≤◌, List, ℤ, Bool, true, Option, Some, None, IsSomeAnd, subst, arith, refl}
use Rattle.write_rules.specs.Verdict.{Verdict, Ended, Faulted, GoesOn}
use Rattle.pram_check.specs.Checked.{Checked}
use Rattle.pram_meaning.specs.Bounded.{Goes, Stops, Reaches, perform_list}
use Rattle.pram_meaning.specs.Outcome.{Body, IsOutcome, opening}
use Rattle.pram_meaning.specs.Meaning as relation
use Rattle.pram_meaning.specs.Store.{State}
use Rattle.pram_meaning.proofs.AgreeAll.{agree_list}
use Rattle.all_inputs.specs.declared.ending.Ending.{Ending}
use Rattle.abstract_runs.specs.declared.standing.Standing.{Standing}
use Rattle.all_inputs.specs.declared.told.Told.{Told}
use Rattle.all_inputs.specs.Overall.{Cover, Hold, IsToldOf, MayEndBehind}
use Rattle.abstract_runs.specs.Leads.{Leads}
use Rattle.abstract_runs.specs.Standing.{StandsFor}

-- what is told of the runs that end holds of such a state
abbrev pub IsEnding : Checked → Option Ending → State → Type 0
IsEnding p found m = IsSomeAnd found (λ e. (Cover e.cells.items m.cells × Hold p.layout e.declared.items m.cells)
    × (e.least ≤ m.count) × (m.count ≤ e.most))

ending_holds : (p : Checked) (found : Option Ending) (m : State) → IsEnding p found m →
    IsSomeAnd found (λ e. Cover e.cells.items m.cells × Hold p.layout e.declared.items m.cells)
ending_holds p None m h = h
ending_holds p (Some e) m h = h.0

ending_counts : (p : Checked) (found : Option Ending) (m : State) → IsEnding p found m →
    IsSomeAnd found (λ e. (e.least ≤ m.count) × (m.count ≤ e.most))
ending_counts p None m h = h
ending_counts p (Some e) m h = (h.1, h.2)

module _ (p : Checked) (n : ℕ) (input : List ℤ) (told : Told) (known : Standing) (on : Bool) (end : Option Ending)
    (leads : Leads (λ u m. (on ≡ true) × StandsFor known m) told (perform_list p n p.body (opening p input)))
    (ends : (m : State) → on ≡ true → StandsFor known m → IsEnding p end m) where
  ended : (m : State) → Body p input (relation.Ends tt m) → m.count ≤ n → IsEnding p end m
  ended m body few =
      let e : perform_list p n p.body (opening p input) ≡ Goes tt m =
      (agree_list p n p.body).comes (opening p input) (omega arith) (relation.Ends tt m) body few in
      let g : (on ≡ true) × StandsFor known m = subst (Leads (λ u m. (on ≡ true) × StandsFor known m) told) e leads in
      ends m g.0 g.1

  pub told_of : (verdict : Verdict) → IsOutcome p input n verdict → IsToldOf p.layout (record { told = told; end = end }) verdict
  told_of (Ended output memory) is =
      let m : State = is.0 in
      subst (λ zs. IsSomeAnd end (λ e. Cover e.cells.items zs × Hold p.layout e.declared.items zs)) is.4
      (ending_holds p end m (ended m is.1 is.2))
  told_of (Faulted fault output) is =
      let e : perform_list p n p.body (opening p input) ≡ Stops fault output =
      (agree_list p n p.body).comes (opening p input) (omega arith) (relation.Stops fault is.0 output) is.1 is.2 in
      subst (Leads (λ u m. (on ≡ true) × StandsFor known m) told) e leads
  told_of (GoesOn output) is =
      let e : perform_list p n p.body (opening p input) ≡ Reaches output =
      (agree_list p n p.body).comes (opening p input) (omega arith) (relation.Reaches n output) is refl in
      subst (Leads (λ u m. (on ≡ true) × StandsFor known m) told) e leads

  pub time_of : (m : State) → Body p input (relation.Ends tt m) → m.count ≤ n → MayEndBehind (record { told = told; end = end }) m.count
  time_of m body few = ending_counts p end m (ended m body few)
