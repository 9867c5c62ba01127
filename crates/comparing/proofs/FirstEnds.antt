-- What is found of a run stays found when more runs are judged.
use Rattle.std.proofs.Common.{◌≡◌, List, [], ◌∷◌, refl, sym, subst}
use Rattle.std.specs.Prelude.{ℤ, Option, Some, None}
use Rattle.write_rules.specs.Verdict.{Verdict, Ended, Faulted, GoesOn}
use Rattle.comparing.specs.RulesFound.{IsFound, first_end}
use Rattle.comparing.specs.FirstEnd.{or_end}
use Rattle.comparing.specs.declared.finding.Finding.{Finding}
use Rattle.comparing.specs.declared.finding.Finding.TheVariants as finding

-- the first end of some runs, and then of these
abbrev pub ends_from : Option (List ℤ × List ℤ) → List Verdict → Option (List ℤ × List ℤ)
ends_from first [] = first
ends_from first (v ∷ vs) = ends_from (or_end first v) vs

kept : (e : List ℤ × List ℤ) (vs : List Verdict) → ends_from (Some e) vs ≡ Some e
kept e [] = refl
kept e (v ∷ vs) = kept e vs

pub ends_are_first : (vs : List Verdict) → ends_from None vs ≡ first_end vs
ends_are_first [] = refl
ends_are_first (Ended output memory ∷ vs) = kept (output, memory) vs
ends_are_first (Faulted fault output ∷ vs) = ends_are_first vs
ends_are_first (GoesOn output ∷ vs) = ends_are_first vs

-- runs behind one that ended change nothing
pub stays_found : (first : Option (List ℤ × List ℤ)) (v : Verdict) (vs : List Verdict) (x : Finding) → IsFound (or_end first v) v x →
    IsFound (ends_from (or_end first v) vs) v x
stays_found None (Ended output memory) vs x h =
    subst (λ f. IsFound f (Ended output memory) x) (sym (kept (output, memory) vs)) h
stays_found (Some e) (Ended output memory) vs x h = subst (λ f. IsFound f (Ended output memory) x) (sym (kept e vs)) h
stays_found first (Faulted fault output) vs (finding.Faulted told) h = h
stays_found first (Faulted fault output) vs finding.Same h = h
stays_found first (Faulted fault output) vs finding.Other h = h
stays_found first (Faulted fault output) vs finding.GoesOn h = h
stays_found first (GoesOn output) vs (finding.Faulted told) h = h
stays_found first (GoesOn output) vs finding.Same h = h
stays_found first (GoesOn output) vs finding.Other h = h
stays_found first (GoesOn output) vs finding.GoesOn h = h
