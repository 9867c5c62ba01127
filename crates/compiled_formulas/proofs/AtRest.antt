-- What stands around the reads holds no read, so a machine at rest stays so.
use Rattle.std.proofs.Common.{◌≡◌, ℕ, List, [], ◌∷◌, ◌++◌, Bool, true, false, Option, refl, ◌∙◌}
use Rattle.std.specs.Prelude.{if◌then◌else◌}
use Rattle.pram_model.specs.Layout.{SharedEntry}
use Rattle.superstep_instructions.specs.declared.instr.Side.{Side}
use Rattle.superstep_instructions.specs.declared.instr.Side.TheVariants.{Private}
use Rattle.superstep_instructions.specs.declared.instr.Instr.{Instr}
use Rattle.superstep_instructions.specs.Code.{SuperstepCode}
use Rattle.superstep_machine.specs.Parts.{Registers, UniformPart, PrivatePart}
use Rattle.superstep_machine.specs.Steps.{on_own, on_active, is_active}
use Rattle.flat_machine.specs.Flat.{Flat}
use Rattle.flat_stretches.specs.Applied.{AsksNone}
use Rattle.flat_stretches.specs.Folds.{act_at_once, acts_at_once}
use Rattle.compiled_formulas.proofs.Lone.{moved, asked, asks_in}
use Rattle.compiled_formulas.proofs.Parts.{IsPart, sets, negates, calculates, decides, inverts, copies, asks_for, AreParts}

-- the same reads are held and awaited
record SameReads (x y : PrivatePart) : Type 0 where
  asks : y.asks ≡ x.asks
  awaited : y.awaited ≡ x.awaited

either_way : (b : Bool) (x y : PrivatePart) → SameReads x y → SameReads x (if b then y else x)
either_way true x y h = h
either_way false x y h = record { asks = refl; awaited = refl }

module _ (code : SuperstepCode) (base : ℕ) (layout : List SharedEntry) (uniforms : Registers) where
  own_reads : (side : Side) (i : Instr) (r : Registers) (u : UniformPart) (v : ℕ) (x : PrivatePart) → IsPart base side i →
      asked layout uniforms i r ≡ [] → SameReads x (on_own code i u v x)
  own_reads side i r u v x (sets d h) e = either_way (is_active x) x (on_active code i u v x) (record { asks = refl; awaited = refl })
  own_reads side i r u v x (negates d h) e = either_way (is_active x) x (on_active code i u v x) (record { asks = refl; awaited = refl })
  own_reads side i r u v x (calculates d h) e = either_way (is_active x) x (on_active code i u v x) (record { asks = refl; awaited = refl })
  own_reads side i r u v x (decides d h) e = either_way (is_active x) x (on_active code i u v x) (record { asks = refl; awaited = refl })
  own_reads side i r u v x (inverts d h) e = either_way (is_active x) x (on_active code i u v x) (record { asks = refl; awaited = refl })
  own_reads side i r u v x (copies d h) e = either_way (is_active x) x (on_active code i u v x) (record { asks = refl; awaited = refl })
  own_reads side i r u v x (asks_for d h) e = cc

  by_owns : (side : Side) (i : Instr) (r : Registers) (f : Flat) → IsPart base side i → asked layout uniforms i r ≡ [] → AsksNone f →
      (act_at_once code i f).uniform.asks ≡ f.uniform.asks → (act_at_once code i f).uniform.awaited ≡ f.uniform.awaited →
      ((v : ℕ) → SameReads (f.own v) ((act_at_once code i f).own v)) → AsksNone (act_at_once code i f)
  by_owns side i r f p e n a w o = record {
    asks = a ∙ n.asks;
    awaited = w ∙ n.awaited;
    own_asks = λ v. let k = o v in k.asks ∙ n.own_asks v;
    own_awaited = λ v. let k = o v in k.awaited ∙ n.own_awaited v;
  }

  rests_by : (side : Side) (i : Instr) (r : Registers) (f : Flat) → IsPart base side i → asked layout uniforms i r ≡ [] → AsksNone f →
      AsksNone (act_at_once code i f)
  rests_by side i r f (sets d h) e n = by_owns side i r f (sets d h) e n refl refl
      (λ v. own_reads side i r f.uniform v (f.own v) (sets d h) e)
  rests_by side i r f (negates d h) e n = by_owns side i r f (negates d h) e n refl refl
      (λ v. own_reads side i r f.uniform v (f.own v) (negates d h) e)
  rests_by side i r f (calculates d h) e n =
      by_owns side i r f (calculates d h) e n refl refl (λ v. own_reads side i r f.uniform v (f.own v) (calculates d h) e)
  rests_by side i r f (decides d h) e n = by_owns side i r f (decides d h) e n refl refl
      (λ v. own_reads side i r f.uniform v (f.own v) (decides d h) e)
  rests_by side i r f (inverts d h) e n = by_owns side i r f (inverts d h) e n refl refl
      (λ v. own_reads side i r f.uniform v (f.own v) (inverts d h) e)
  rests_by side i r f (copies d h) e n = by_owns Private i r f (copies d h) e n refl refl
      (λ v. own_reads Private i r f.uniform v (f.own v) (copies d h) e)
  rests_by side i r f (asks_for d h) e n = cc

  left_empty : (xs ys : List (ℕ × Option ℕ)) → xs ++ ys ≡ [] → xs ≡ []
  left_empty [] ys e = refl
  left_empty (x ∷ xs) ys e = cc

  right_empty : (xs ys : List (ℕ × Option ℕ)) → xs ++ ys ≡ [] → ys ≡ []
  right_empty [] ys e = e
  right_empty (x ∷ xs) ys e = cc

  pub stays_at_rest : (side : Side) (is : List Instr) (r : Registers) (f : Flat) → AreParts base side is →
      asks_in layout uniforms is r ≡ [] →
      AsksNone f → AsksNone (acts_at_once code is f)
  stays_at_rest side [] r f p e n = n
  stays_at_rest side (i ∷ is) r f p e n =
      let rest = asks_in layout uniforms is (moved layout uniforms i r) in
      stays_at_rest side is (moved layout uniforms i r) (act_at_once code i f) p.1 (right_empty (asked layout uniforms i r) rest e)
      (rests_by side i r f p.0 (left_empty (asked layout uniforms i r) rest e) n)
