-- A run from the opening state comes to the outcome.
use Rattle.std.proofs.Common.{◌≡◌, ℕ, ◌-◌, ◌++◌, List, [], ℤ, pos, replicate, length, ap, sym, ◌∙◌}
use Rattle.pram_check.specs.Checked.{Checked}
use Rattle.pram_meaning.specs.Bounded.{Goes, Reaches, Stops, perform_list}
use Rattle.pram_meaning.specs.Outcome.{IsOutcome, opening}
use Rattle.pram_meaning.specs.Runs.{state_of}
use Rattle.pram_meaning.specs.Store.{State, no_team}
use Rattle.pram_meaning.specs.declared.run.Run.{Run}
use Rattle.pram_model.specs.Layout.{total_size}
use Rattle.write_rules.specs.Verdict.{Ended, Faulted, GoesOn}
use Rattle.write_rules.specs.declared.fault.Fault.{Fault}
use Rattle.pram_meaning.proofs.OneOutcome.{outcome_is}

pub opens : (p : Checked) (input : List ℤ) (run : Run) → run.count ≡ 0 → run.output.items ≡ [] →
    run.uniforms.items ≡ replicate p.uniforms (pos 0) → run.cells.items ≡ input ++ replicate (total_size p.layout - length input) (pos 0) →
    state_of run ≡ opening p input
opens p input run a b c d = λ j. record { count = a j; output = b j; uniforms = c j; cells = d j; team = no_team }

pub ended : (p : Checked) (input : List ℤ) (n : ℕ) (run : Run) (m : State) → run.count ≡ 0 → run.output.items ≡ [] →
    run.uniforms.items ≡ replicate p.uniforms (pos 0) → run.cells.items ≡ input ++ replicate (total_size p.layout - length input) (pos 0) →
    perform_list p n p.body (state_of run) ≡ Goes tt m → IsOutcome p input n (Ended m.output m.cells)
ended p input n run m a b c d e = outcome_is p input n (Goes tt m) (ap (perform_list p n p.body) (sym (opens p input run a b c d)) ∙ e)

pub stopped : (p : Checked) (input : List ℤ) (n : ℕ) (run : Run) (k : Fault) (out : List ℤ) → run.count ≡ 0 → run.output.items ≡ [] →
    run.uniforms.items ≡ replicate p.uniforms (pos 0) → run.cells.items ≡ input ++ replicate (total_size p.layout - length input) (pos 0) →
    perform_list p n p.body (state_of run) ≡ Stops k out → IsOutcome p input n (Faulted k out)
stopped p input n run k out a b c d e = outcome_is p input n (Stops k out) (ap (perform_list p n p.body) (sym (opens p input run a b c d))
    ∙ e)

pub reached : (p : Checked) (input : List ℤ) (n : ℕ) (run : Run) (out : List ℤ) → run.count ≡ 0 → run.output.items ≡ [] →
    run.uniforms.items ≡ replicate p.uniforms (pos 0) → run.cells.items ≡ input ++ replicate (total_size p.layout - length input) (pos 0) →
    perform_list p n p.body (state_of run) ≡ Reaches out → IsOutcome p input n (GoesOn out)
reached p input n run out a b c d e = outcome_is p input n (Reaches out) (ap (perform_list p n p.body) (sym (opens p input run a b c d))
    ∙ e)
