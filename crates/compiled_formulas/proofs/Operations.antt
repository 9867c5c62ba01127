-- The code of one operator: the value in its register, and what is wrong.
use Rattle.std.proofs.Common.{◌≡◌, ◌≢◌, ℕ, List, cond, ℤ, refl, ap, ◌∙◌}
use Rattle.std.specs.Prelude.{not}
use Rattle.std.proofs.lemmas.Bool.{ne_eqb}
use Rattle.superstep_machine.proofs.KeyOrder.{none_least}
use Rattle.pram_tokens.specs.declared.token.Binary.{Binary}
use Rattle.pram_tokens.specs.declared.token.Binary.TheVariants.{Or, And, Equal, Unequal, Less, AtMost, Greater, AtLeast, Add, Subtract}
use Rattle.pram_tokens.specs.declared.token.Binary.TheVariants.{Multiply, Divide, Remainder}
use Rattle.pram_trees.specs.declared.tree.Prefix.{Prefix}
use Rattle.pram_trees.specs.declared.tree.Prefix.TheVariants.{Negate, Not}
use Rattle.pram_model.specs.Layout.{SharedEntry}
use Rattle.pram_values.specs.declared.place.Place.{Place}
use Rattle.pram_values.specs.Truth.{truth, is_nonzero, is_equal}
use Rattle.superstep_instructions.specs.declared.instr.Side.{Side}
use Rattle.superstep_machine.specs.Parts.{Registers, set_register}
use Rattle.superstep_machine.specs.Results.{or_zero, kind_of}
use Rattle.superstep_machine.proofs.Numbers.{with_itself}
use Rattle.pram_meaning.specs.Operation.{operate, operate_before}
use Rattle.statement_evaluation.specs.Noted.{Heading, note_key}
use Rattle.plain_form.specs.Regions.{before_code, between_code}
use Rattle.compiled_formulas.proofs.Lone.{moves, wrongs}
use Rattle.pram_values.proofs.TruthValues.{is_nonzero-truth}

pub set_here : (d : ℕ) (z : ℤ) (r : Registers) → set_register d z r d ≡ z
set_here d z r = ap (λ b. cond b z (r d)) (with_itself d)

pub set_there : (d : ℕ) (z : ℤ) (r : Registers) (x : ℕ) → d ≢ x → set_register d z r x ≡ r x
set_there d z r x n = ap (λ b. cond b z (r x)) (ne_eqb d x n)

module _ (layout : List SharedEntry) (uniforms : Registers) (side : Side) (b : ℕ) where
  pub before_value : (o : Prefix) (x q : ℕ) (r : Registers) →
      moves layout uniforms (before_code side o b x q) r b ≡ or_zero (operate_before o (r x))
  before_value Negate x q r = set_here b (or_zero (operate_before Negate (r x))) r
  before_value Not x q r = set_here b (or_zero (operate_before Not (r x))) r

  pub before_stays : (o : Prefix) (x q : ℕ) (r : Registers) (y : ℕ) → b ≢ y →
      moves layout uniforms (before_code side o b x q) r y ≡ r y
  before_stays Negate x q r y n = set_there b (or_zero (operate_before Negate (r x))) r y n
  before_stays Not x q r y n = set_there b (or_zero (operate_before Not (r x))) r y n

  pub before_wrong : (h : Heading) (place : Place) (o : Prefix) (x q : ℕ) (r : Registers) →
      wrongs layout uniforms (λ q k. note_key h q place k) (before_code side o b x q) r
      ≡ note_key h q place (kind_of (operate_before o (r x)))
  before_wrong h place Negate x q r = none_least (note_key h q place (kind_of (operate_before Negate (r x))))
  before_wrong h place Not x q r = refl

  pub between_value : (o : Binary) (x y q : ℕ) (r : Registers) →
      moves layout uniforms (between_code side o b x y q) r b ≡ or_zero (operate o (r x) (r y))
  between_value Unequal x y q r =
      let z = truth (is_equal (r x) (r y)) in
      set_here b (truth (not (is_nonzero (set_register b z r b)))) (set_register b z r)
      ∙ ap (λ v. truth (not (is_nonzero v))) (set_here b z r) ∙ ap (λ t. truth (not t)) (is_nonzero-truth (is_equal (r x) (r y)))
  between_value Or x y q r = set_here b (or_zero (operate Or (r x) (r y))) r
  between_value And x y q r = set_here b (or_zero (operate And (r x) (r y))) r
  between_value Equal x y q r = set_here b (or_zero (operate Equal (r x) (r y))) r
  between_value Less x y q r = set_here b (or_zero (operate Less (r x) (r y))) r
  between_value AtMost x y q r = set_here b (or_zero (operate AtMost (r x) (r y))) r
  between_value Greater x y q r = set_here b (or_zero (operate Greater (r x) (r y))) r
  between_value AtLeast x y q r = set_here b (or_zero (operate AtLeast (r x) (r y))) r
  between_value Add x y q r = set_here b (or_zero (operate Add (r x) (r y))) r
  between_value Subtract x y q r = set_here b (or_zero (operate Subtract (r x) (r y))) r
  between_value Multiply x y q r = set_here b (or_zero (operate Multiply (r x) (r y))) r
  between_value Divide x y q r = set_here b (or_zero (operate Divide (r x) (r y))) r
  between_value Remainder x y q r = set_here b (or_zero (operate Remainder (r x) (r y))) r

  pub between_stays : (o : Binary) (x y q : ℕ) (r : Registers) (z : ℕ) → b ≢ z →
      moves layout uniforms (between_code side o b x y q) r z ≡ r z
  between_stays Unequal x y q r z n =
      let v = truth (is_equal (r x) (r y)) in
      set_there b (truth (not (is_nonzero (set_register b v r b)))) (set_register b v r) z n ∙ set_there b v r z n
  between_stays Or x y q r z n = set_there b _ r z n
  between_stays And x y q r z n = set_there b _ r z n
  between_stays Equal x y q r z n = set_there b _ r z n
  between_stays Less x y q r z n = set_there b _ r z n
  between_stays AtMost x y q r z n = set_there b _ r z n
  between_stays Greater x y q r z n = set_there b _ r z n
  between_stays AtLeast x y q r z n = set_there b _ r z n
  between_stays Add x y q r z n = set_there b _ r z n
  between_stays Subtract x y q r z n = set_there b _ r z n
  between_stays Multiply x y q r z n = set_there b _ r z n
  between_stays Divide x y q r z n = set_there b _ r z n
  between_stays Remainder x y q r z n = set_there b _ r z n

  pub between_wrong : (h : Heading) (place : Place) (o : Binary) (x y q : ℕ) (r : Registers) →
      wrongs layout uniforms (λ q k. note_key h q place k) (between_code side o b x y q) r
      ≡ note_key h q place (kind_of (operate o (r x) (r y)))
  between_wrong h place Or x y q r = refl
  between_wrong h place And x y q r = refl
  between_wrong h place Equal x y q r = refl
  between_wrong h place Unequal x y q r = refl
  between_wrong h place Less x y q r = refl
  between_wrong h place AtMost x y q r = refl
  between_wrong h place Greater x y q r = refl
  between_wrong h place AtLeast x y q r = refl
  between_wrong h place Add x y q r = none_least (note_key h q place (kind_of (operate Add (r x) (r y))))
  between_wrong h place Subtract x y q r = none_least (note_key h q place (kind_of (operate Subtract (r x) (r y))))
  between_wrong h place Multiply x y q r = none_least (note_key h q place (kind_of (operate Multiply (r x) (r y))))
  between_wrong h place Divide x y q r = none_least (note_key h q place (kind_of (operate Divide (r x) (r y))))
  between_wrong h place Remainder x y q r = none_least (note_key h q place (kind_of (operate Remainder (r x) (r y))))
