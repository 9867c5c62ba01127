-- What is left where steps are told: no input of them is written.
use Rattle.std.proofs.Common.{◌≡◌, ℕ, List, refl, subst, sym}
use Rattle.std.specs.Prelude.{Option}
use Rattle.text_out.specs.Out.{OutState}
use Rattle.program_texts.specs.declared.status.Status.{Status}
use Rattle.program_texts.specs.declared.stop.Stop.{Stop}
use Rattle.diagnoses.specs.declared.about.About.{About}
use Rattle.command_facts.specs.declared.found.Found.{Found}
use Rattle.command_facts.specs.declared.found.Found.TheVariants as found
use Rattle.command_facts.specs.declared.found.FoundSteps.{FoundSteps}
use Rattle.command_files.specs.WitnessLeft.{NothingWrong}
use Rattle.pramc.specs.Left.{LeavesTold}

module _ (leaves : List (List ℕ) → Found → (out out_new err err_new : OutState) → Status → Type 0)
    (refuses : List (List ℕ) → Stop → About → (err err_new : OutState) → Type 0) (wrote : List ℕ → (err err_new : OutState) → Type 0)
    (holds : List ℕ → Option (List ℕ) → Type 0) (words : List (List ℕ)) (witness : Option (List ℕ)) where
  pub stepped_told : (s : FoundSteps) (f : Found) → f ≡ found.Stepped s → (out out_new err err_new : OutState) (ends : Status) →
      leaves words (found.Stepped s) out out_new err err_new ends →
      LeavesTold leaves refuses wrote holds words witness f out out_new err err_new ends
  stepped_told s f is out out_new err err_new ends tells =
      subst (λ (g : Found). LeavesTold leaves refuses wrote holds words witness g out out_new err err_new ends) (sym is)
      (record { between = err_new; told = ends; tells = tells; writes = NothingWrong refl refl })
