-- A program has one comparison at most, since it has one outcome under each rule.
use Rattle.std.proofs.Common.{◌≡◌, ◌∙◌, ◌∷◌, List, ap, refl, subst, sym}
use Rattle.std.specs.Prelude.{ℤ, Option, map}
use Rattle.pram_model.specs.declared.rule.Rule.{Rule}
use Rattle.pram_model.specs.declared.rule.Rule.TheVariants.{Erew, Crew, Common, Priority, Sum}
use Rattle.pram_check.specs.OtherRule.{under}
use Rattle.write_rules.specs.Verdict.{Verdict, Ended, Faulted, GoesOn}
use Rattle.pram_meaning.specs.Outcome.{HasOneOutcome}
use Rattle.pram_meaning.proofs.OneOutcome.{one_outcome}
use Rattle.comparing.specs.Compared.{HasOneComparisonAtMost, end_beside, finding_of, rules}
use Rattle.comparing.specs.RulesFound.{IsFound, first_end}
use Rattle.comparing.specs.declared.finding.Finding.{Finding}
use Rattle.comparing.specs.declared.finding.Finding.TheVariants as finding

-- of a verdict one thing is found
found_once : (first : Option (List ℤ × List ℤ)) (v : Verdict) (x y : Finding) → IsFound first v x → IsFound first v y → x ≡ y
found_once first (Ended output memory) finding.Same finding.Same h k = refl
found_once first (Ended output memory) finding.Same finding.Other h k = absurd (k h)
found_once first (Ended output memory) finding.Other finding.Same h k = absurd (h k)
found_once first (Ended output memory) finding.Other finding.Other h k = refl
found_once first (Faulted fault output) (finding.Faulted told) (finding.Faulted said) h k = ap finding.Faulted (h ∙ sym k)
found_once first (GoesOn output) finding.GoesOn finding.GoesOn h k = refl
found_once first (Ended output memory) finding.Same (finding.Faulted told) h k = absurd k
found_once first (Ended output memory) finding.Same finding.GoesOn h k = absurd k
found_once first (Ended output memory) finding.Other (finding.Faulted told) h k = absurd k
found_once first (Ended output memory) finding.Other finding.GoesOn h k = absurd k
found_once first (Faulted fault output) (finding.Faulted told) finding.Same h k = absurd k
found_once first (Faulted fault output) (finding.Faulted told) finding.Other h k = absurd k
found_once first (Faulted fault output) (finding.Faulted told) finding.GoesOn h k = absurd k
found_once first (GoesOn output) finding.GoesOn finding.Same h k = absurd k
found_once first (GoesOn output) finding.GoesOn finding.Other h k = absurd k
found_once first (GoesOn output) finding.GoesOn (finding.Faulted told) h k = absurd k
found_once first v x y h k = absurd h

-- the same verdicts have the same first end
same_ends : (own : Rule) (v w : Rule → Verdict) → ((r : Rule) → v r ≡ w r) → end_beside own v ≡ end_beside own w
same_ends own v w same =
    let z = same own in
    let a = same Erew in
    let b = same Crew in
    let c = same Common in
    let d = same Priority in
    let e = same Sum in
    ap first_end (let all : (v own ∷ map v rules) ≡ (w own ∷ map w rules) = cc in all)

pub one_comparison_at_most : HasOneComparisonAtMost
one_comparison_at_most p input n c d is also r =
    let same : (q : Rule) → is.verdict q ≡ also.verdict q = λ q.
    let one : HasOneOutcome (under q p) input n = one_outcome (under q p) input n in
    one.alone (is.verdict q) (is.outcome q) ∙ sym (one.alone (also.verdict q) (also.outcome q)) in
    found_once (end_beside p.rule also.verdict) (also.verdict r) (finding_of c r) (finding_of d r)
    (subst (λ v. IsFound (end_beside p.rule also.verdict) v (finding_of c r)) (same r)
    (subst (λ f. IsFound f (is.verdict r) (finding_of c r)) (same_ends p.rule is.verdict also.verdict same) (is.found r)))
    (also.found r)
