-- What was found is tidied.
use Rattle.std.proofs.Common.{◌≡◌, Option, Some, subst}
use Rattle.std.specs.Prelude.{IfSome}
use Rattle.superstep_instructions.specs.Code.{SuperstepCode}
use Rattle.bsp_verify.specs.WellFormed.{IsWellFormed}
use Rattle.tidying.specs.Tidied.{IsShortened, IsTidied, RunsAlike}
use Rattle.tidying.proofs.Alike.{tidied_code_runs_alike}

module _ (code plain whole whole_code tidied : SuperstepCode) (p : plain ≡ code) (w : whole_code ≡ whole) (formed : IsWellFormed whole)
    (left : IsShortened whole_code plain) (found : Option SuperstepCode) (short : IfSome found (IsShortened whole_code))
    (is : found ≡ Some tidied) where
  pub is_tidied : IsTidied code tidied
  is_tidied = record {
    whole = whole;
    formed = formed;
    is_code = subst (λ (x : SuperstepCode). IsShortened x code) w (subst (λ (x : SuperstepCode). IsShortened whole_code x) p left);
    is_tidied = subst (λ (x : SuperstepCode). IsShortened x tidied) w
        (subst (λ (o : Option SuperstepCode). IfSome o (IsShortened whole_code)) is short);
  }

  pub runs_alike : IsWellFormed code → IsWellFormed tidied → RunsAlike code tidied
  runs_alike f g = tidied_code_runs_alike code tidied f g is_tidied
