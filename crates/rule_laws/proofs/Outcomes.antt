-- Outcomes under a weaker rule.
use Rattle.std.proofs.Common.{◌≡◌, ◌∙◌, inl, inr, ◌-◌, ℕ, ℤ, pos, false, List, ap, length, replicate, subst, sym}
use Rattle.pram_model.specs.declared.rule.Rule.{Rule}
use Rattle.pram_model.specs.declared.rule.Rule.TheVariants.{Common, Crew, Erew, Priority}
use Rattle.pram_model.specs.Layout.{total_size}
use Rattle.pram_values.specs.declared.kind.Kind.TheVariants.{ReadConflict, WriteConflict}
use Rattle.write_rules.specs.Rule.{shares_reads}
use Rattle.write_rules.specs.Verdict.{Verdict}
use Rattle.pram_check.specs.Bounded as bounded
use Rattle.pram_check.specs.Checked.{Checked}
use Rattle.pram_check.specs.OtherRule.{under}
use Rattle.pram_meaning.specs.Bounded.{Done, Goes, Reaches, Stops}
use Rattle.pram_meaning.specs.Computed.{body_done, verdict_at}
use Rattle.pram_meaning.specs.Outcome.{opening}
use Rattle.pram_meaning.specs.Values.{IsValue}
use Rattle.pram_meaning.proofs.OneOutcome.{outcome_is_computed}
use Rattle.pram_meaning.proofs.SoundValues.{all_append, zeros_are}
use Rattle.rule_laws.specs.Order.{CommonIsPriority, CrewIsConcurrent, ErewIsEveryRule, IsFreeOf, IsKept, SuitsSum}
use Rattle.rule_laws.proofs.Behaviours.{Fit, Lawful}
use Rattle.rule_laws.proofs.OneCell.{Eases, common_eases, crew_eases, erew_eases}
use Rattle.rule_laws.proofs.OutsidePardo.{list_same}

-- nothing that the rule forbids is told
record IsAllowed (r : Rule) (v : Verdict) : Type 0 where
  pub writes : IsFreeOf WriteConflict v
  pub reads : shares_reads r ≡ false → IsFreeOf ReadConflict v

lawful : (r : Rule) (b : Done) → IsAllowed r (verdict_at b) → Lawful r b
lawful r (Goes u m) h = tt
lawful r (Stops k out) h = elim [ inl e ↦ absurd (h.writes e) | inr e ↦ absurd (h.reads e.0 e.1) ]
lawful r (Reaches out) h = tt

opens_fit : (s : Rule) (p : Checked) (input : List ℤ) → SuitsSum s p input → Fit s (opening p input)
opens_fit s p input suits i = record {
  output = tt;
  uniforms = zeros_are p.uniforms;
  cells = all_append IsValue input (replicate (total_size p.layout - length input) (pos 0)) (suits i).1
      (zeros_are (total_size p.layout - length input));
  team = tt;
}

ordered : (r s : Rule) → Eases r s → (p : Checked) (input : List ℤ) (n : ℕ) (v : Verdict) → SuitsSum s p input → IsAllowed r v →
    IsKept r s p input n v
ordered r s x p input n v suits allowed is =
    let e : v ≡ verdict_at (body_done (under r p) input n) = (outcome_is_computed (under r p) input n v).0 is in
    let same : body_done (under s p) input n ≡ body_done (under r p) input n =
    list_same r s x p n (bounded.names_of p) p.body (λ i. (suits i).0.body) (opening p input) (opens_fit s p input suits)
    (lawful r (body_done (under r p) input n) (subst (IsAllowed r) e allowed)) in
    (outcome_is_computed (under s p) input n v).1 (e ∙ sym (ap verdict_at same))

pub erew_is_every_rule : ErewIsEveryRule
erew_is_every_rule rule p input n v suits reads writes =
    ordered Erew rule (erew_eases rule) p input n v suits (record { writes = writes; reads = λ e. reads })

pub crew_is_concurrent : CrewIsConcurrent
crew_is_concurrent rule shared p input n v suits writes =
    ordered Crew rule (crew_eases rule shared) p input n v suits (record { writes = writes; reads = λ e. absurd (cc e) })

pub common_is_priority : CommonIsPriority
common_is_priority p input n v writes =
    ordered Common Priority common_eases p input n v (λ e. absurd (cc e)) (record { writes = writes; reads = λ e. absurd (cc e) })
