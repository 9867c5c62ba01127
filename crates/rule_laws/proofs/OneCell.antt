-- What a weaker rule leaves in a cell.
use Rattle.std.proofs.Common.{◌≡◌, ◌∙◌, ◌<◌, ◌^◌, ℤ, pos, negsuc, ◌+ℤ◌, Bool, true, false, List, [], ◌∷◌, Ok, Err, FitsSigned, ap, arith}
use Rattle.std.proofs.Common.{if◌then◌else◌, refl, subst, sym}
use Rattle.std.specs.Prelude.{int_le}
use Rattle.std.specs.Int.{w64}
use Rattle.std.proofs.lemmas.Int.{ints}
use Rattle.pram_model.specs.declared.rule.Rule.{Rule}
use Rattle.pram_model.specs.declared.rule.Rule.TheVariants.{Erew, Crew, Common, Priority, Sum}
use Rattle.pram_values.specs.declared.kind.Kind.{Kind}
use Rattle.pram_values.specs.declared.kind.Kind.TheVariants.{WriteConflict}
use Rattle.pram_values.specs.Truth.{is_equal}
use Rattle.pram_values.specs.Value.{Value, checked}
use Rattle.pram_values.proofs.Checked.{checked_some}
use Rattle.pram_values.proofs.TruthValues.{is_equal-true}
use Rattle.write_rules.specs.declared.write.Write.{Write}
use Rattle.write_rules.specs.Rule.{common_value, is_sum, least_writer, only_value, rule_value, shares_reads}
use Rattle.write_rules.proofs.CommonFaults.{common_kind}
use Rattle.pram_meaning.specs.Values.{IsValue}

-- what is needed under sum alone
abbrev pub Needs : Rule → Type 0 → Type 0
Needs rule A = is_sum rule ≡ true → A

-- what the writers of a cell may leave under r they leave under s; under r nothing but a conflict is told of them
pub record Eases (r s : Rule) : Type 0 where
  pub value : (w : Write) (ws : List Write) (v : ℤ) → Needs s (IsValue w.value) → rule_value r w ws ≡ Ok v → rule_value s w ws ≡ Ok v
  pub kind : (w : Write) (ws : List Write) (k : Kind) → rule_value r w ws ≡ Err k → k ≡ WriteConflict
  pub reads : shares_reads r ≡ true → shares_reads s ≡ true

-- ---- one writer

value_fits : (z : ℤ) → IsValue z → FitsSigned w64 z
value_fits (pos n) h = let m = h.most in let k : n < 2 ^ 63 = omega (arith, ints, m) in record { sfits = k }
value_fits (negsuc n) h = let l = h.least in let k : n < 2 ^ 63 = omega (arith, ints, l) in record { sfits = k }

sum_of_one : (z : ℤ) → IsValue z → checked (z +ℤ pos 0) ≡ Ok z
sum_of_one z h = let e : z +ℤ pos 0 ≡ z = omega (arith, ints) in ap checked e ∙ sym (checked_some z z (value_fits z h) refl)

lone : (rule : Rule) (w : Write) → Needs rule (IsValue w.value) → rule_value rule w [] ≡ Ok w.value
lone Erew w h = refl
lone Crew w h = refl
lone Common w h = refl
lone Priority w h = refl
lone Sum w h = sum_of_one w.value (h refl)

only : (rule : Rule) (w : Write) (ws : List Write) (v : ℤ) → Needs rule (IsValue w.value) → only_value w ws ≡ Ok v →
    rule_value rule w ws ≡ Ok v
only rule w [] v h e = lone rule w h ∙ e
only rule w (u ∷ us) v h e = absurd (cc e)

only_kind : (w : Write) (ws : List Write) (k : Kind) → only_value w ws ≡ Err k → k ≡ WriteConflict
only_kind w [] k e = absurd (cc e)
only_kind w (u ∷ us) k e = cc e

-- ---- a common value

-- the writer of least index has that value
least_common : (w : Write) (ws : List Write) (v : ℤ) → common_value w.value ws ≡ Ok v → (least_writer w ws).value ≡ v
least_common w [] v e = cc e
least_common w (u ∷ us) v e = by (is_equal w.value u.value) refl e (λ x d. least_common x us v d)
  where
    either : (c : Bool) → (least_writer w us).value ≡ v → (least_writer u us).value ≡ v →
        (if c then least_writer w us else least_writer u us).value ≡ v
    either true a b = a
    either false a b = b

    by : (b : Bool) → is_equal w.value u.value ≡ b → ◌≡◌ {A = Value} (if b then common_value w.value us else Err WriteConflict) (Ok v) →
        ((x : Write) → common_value x.value us ≡ Ok v → (least_writer x us).value ≡ v) → (least_writer w (u ∷ us)).value ≡ v
    by true is d rest =
        either (int_le w.processor u.processor) (rest w d)
        (rest u (subst (λ y. common_value y us ≡ Ok v) (is_equal-true w.value u.value is) d))
    by false is d rest = absurd (cc d)

-- ---- the pairs of rules

pub erew_eases : (rule : Rule) → Eases Erew rule
erew_eases rule = record { value = only rule; kind = only_kind; reads = λ e. absurd (cc e) }

pub crew_eases : (rule : Rule) → shares_reads rule ≡ true → Eases Crew rule
crew_eases rule shared = record { value = only rule; kind = only_kind; reads = λ e. shared }

pub common_eases : Eases Common Priority
common_eases = record {
  value = λ w ws v h e. ap Ok (least_common w ws v e);
  kind = λ w ws k e. common_kind w.value ws k e;
  reads = λ e. refl;
}
