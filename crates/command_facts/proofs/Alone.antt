-- What is told of a refusal of which nothing more is known, however it is told.
use Rattle.std.proofs.Common.{◌≡◌, subst}
use Rattle.text_out.specs.Out.{OutState}
use Rattle.program_texts.specs.declared.stop.Stop.{Stop}
use Rattle.diagnoses.specs.declared.about.About.{About}
use Rattle.diagnoses.specs.declared.about.About.TheVariants.{Nothing}
use Rattle.diagnoses.specs.declared.halted.Halted.{Halted}

pub told_alone : (IsTold : Stop → About → OutState → OutState → Type 0) (h : Halted) (why : Stop) (old new : OutState) →
    (h.stop ≡ why) × (h.about ≡ Nothing) → IsTold h.stop h.about old new → IsTold why Nothing old new
told_alone IsTold h why old new is told =
    subst (λ (s : Stop). IsTold s Nothing old new) is.0 (subst (λ (a : About). IsTold h.stop a old new) is.1 told)
