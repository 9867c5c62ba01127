-- A program has exactly one outcome, which the bounded meaning computes.
use Rattle.std.proofs.Common.{◌≡◌, ℕ, List, ℤ, refl, ap, sym, ◌∙◌, subst, arith}
use Rattle.pram_meaning.specs.Meaning as relation
use Rattle.pram_check.specs.Checked.{Checked}
use Rattle.pram_meaning.specs.Bounded.{Done, Goes, Reaches, Stops, perform_list}
use Rattle.pram_meaning.specs.Computed.{OneOutcome, OutcomeIsComputed, body_done, verdict_at}
use Rattle.pram_meaning.specs.Meaning.{Ends, Fate}
use Rattle.pram_meaning.specs.Outcome.{Body, IsOutcome, opening}
use Rattle.write_rules.specs.Verdict.{Ended, Faulted, GoesOn, Verdict}
use Rattle.pram_meaning.proofs.Agree.{Comes, Shows}
use Rattle.pram_meaning.proofs.AgreeAll.{agree_list}

shown : (p : Checked) (input : List ℤ) (n : ℕ) (b : Done) → Shows n (Body p input) b → IsOutcome p input n (verdict_at b)
shown p input n (Goes u m) s = (m, s.0, s.1, refl, refl)
shown p input n (Stops k out) s = s
shown p input n (Reaches out) s = s

only_one : (p : Checked) (input : List ℤ) (n : ℕ) (b : Done) → ((f : Fate (Unit {0})) → Body p input f → Comes n b f) → (v : Verdict) →
    IsOutcome p input n v → v ≡ verdict_at b
only_one p input n b c (Ended out mem) is =
    let e : b ≡ Goes tt is.0 = c (Ends tt is.0) is.1 is.2 in
    ap (λ o. Ended o mem) (sym is.3) ∙ ap (λ o. Ended is.0.output o) (sym is.4) ∙ sym (ap verdict_at e)
only_one p input n b c (Faulted k out) is = sym (ap verdict_at (c (relation.Stops k is.0 out) is.1 is.2))
only_one p input n b c (GoesOn out) is = sym (ap verdict_at (c (relation.Reaches n out) is refl))

pub one_outcome : OneOutcome
one_outcome p input n = record {
  outcome = verdict_at (body_done p input n);
  is = shown p input n (body_done p input n) ((agree_list p n p.body).shows (opening p input) (omega arith));
  alone = only_one p input n (body_done p input n) ((agree_list p n p.body).comes (opening p input) (omega arith));
}

-- what a bounded run of the body comes to is the outcome
pub outcome_is : (p : Checked) (input : List ℤ) (n : ℕ) (b : Done) → perform_list p n p.body (opening p input) ≡ b →
    IsOutcome p input n (verdict_at b)
outcome_is p input n b e =
    subst (λ (b : Done). IsOutcome p input n (verdict_at b)) e
    (shown p input n (body_done p input n) ((agree_list p n p.body).shows (opening p input) (omega arith)))

pub outcome_is_computed : OutcomeIsComputed
outcome_is_computed p input n v = (
  only_one p input n (body_done p input n) ((agree_list p n p.body).comes (opening p input) (omega arith)) v,
  λ e. subst (λ (v : Verdict). IsOutcome p input n v) (sym e) (outcome_is p input n (body_done p input n) refl),
)
