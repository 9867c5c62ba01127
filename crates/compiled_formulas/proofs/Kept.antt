-- What the instructions of a formula's code leave as it was.
use Rattle.std.proofs.Common.{◌≡◌, ℕ, ◌≤◌, List, true, refl, sym, subst}
use Rattle.std.specs.List.{AllByRecursion}
use Rattle.superstep_instructions.specs.declared.instr.Side.{Side}
use Rattle.superstep_instructions.specs.declared.instr.Side.TheVariants.{Uniform, Private}
use Rattle.superstep_instructions.specs.declared.instr.Instr.{Instr}
use Rattle.superstep_instructions.specs.Code.{SuperstepCode}
use Rattle.superstep_machine.specs.Parts.{Read}
use Rattle.flat_machine.specs.Flat.{Flat}
use Rattle.flat_stretches.specs.Applied.{IsBare, AsksNone}
use Rattle.flat_stretches.specs.Folds.{acts_at_once}
use Rattle.flat_stretches.specs.Frames.{Frame, StandsIn, StaysIn, AsksAbove, is_above, keeps_masks}
use Rattle.flat_stretches.specs.Leaving.{IsLeft, evaluates, ReadsAbove, IsReadAbove}
use Rattle.flat_stretches.proofs.Leaving.{folds_leave}
use Rattle.flat_stretches.proofs.Frames.{folds_at_once_stay}
use Rattle.compiled_formulas.proofs.Parts.{IsPart, sets, negates, calculates, decides, inverts, copies, asks_for}
use Rattle.std.proofs.lemmas.Bool.{le-leb}

module _ (base : ℕ) where
  pub uniform_evaluates : (i : Instr) → IsPart base Uniform i → evaluates base i ≡ true
  uniform_evaluates i (sets d h) = le-leb base d h
  uniform_evaluates i (negates d h) = le-leb base d h
  uniform_evaluates i (calculates d h) = le-leb base d h
  uniform_evaluates i (decides d h) = le-leb base d h
  uniform_evaluates i (inverts d h) = le-leb base d h
  uniform_evaluates i (asks_for d h) = le-leb base d h

  pub private_evaluates : (any : ℕ) (i : Instr) → IsPart base Private i → evaluates any i ≡ true
  private_evaluates any i (sets d h) = refl
  private_evaluates any i (negates d h) = refl
  private_evaluates any i (calculates d h) = refl
  private_evaluates any i (decides d h) = refl
  private_evaluates any i (inverts d h) = refl
  private_evaluates any i (copies d h) = refl
  private_evaluates any i (asks_for d h) = refl

  pub private_above : (i : Instr) → IsPart base Private i → is_above base i ≡ true
  private_above i (sets d h) = le-leb base d h
  private_above i (negates d h) = le-leb base d h
  private_above i (calculates d h) = le-leb base d h
  private_above i (decides d h) = le-leb base d h
  private_above i (inverts d h) = le-leb base d h
  private_above i (copies d h) = le-leb base d h
  private_above i (asks_for d h) = le-leb base d h

  pub uniform_above : (i : Instr) → IsPart base Uniform i → is_above base i ≡ true
  uniform_above i (sets d h) = refl
  uniform_above i (negates d h) = refl
  uniform_above i (calculates d h) = refl
  uniform_above i (decides d h) = refl
  uniform_above i (inverts d h) = refl
  uniform_above i (asks_for d h) = le-leb base d h

  pub part_keeps_masks : (side : Side) (i : Instr) → IsPart base side i → keeps_masks i ≡ true
  part_keeps_masks side i (sets d h) = refl
  part_keeps_masks side i (negates d h) = refl
  part_keeps_masks side i (calculates d h) = refl
  part_keeps_masks side i (decides d h) = refl
  part_keeps_masks side i (inverts d h) = refl
  part_keeps_masks side i (copies d h) = refl
  part_keeps_masks side i (asks_for d h) = refl

-- at rest
pub rest_reads : (base : ℕ) (f : Flat) → AsksNone f → ReadsAbove base f
rest_reads base f n = record {
  asks = subst (λ (xs : List Read). AllByRecursion (λ (x : Read). IsReadAbove base x.destination x.cell) xs) (sym n.asks) tt;
  awaited = subst (λ (xs : List Read). AllByRecursion (λ (x : Read). IsReadAbove base x.destination x.cell) xs) (sym n.awaited) tt;
}

rest_asks : (base : ℕ) (f : Flat) → AsksNone f → AsksAbove base f
rest_asks base f n = record {
  asks = subst (λ (xs : List Read). AllByRecursion (λ (x : Read). base ≤ x.destination) xs) (sym n.asks) tt;
  awaited = subst (λ (xs : List Read). AllByRecursion (λ (x : Read). base ≤ x.destination) xs) (sym n.awaited) tt;
}

-- each processor's masks, and its registers below `base`, are those of a state
abbrev pub frame_of : Flat → Frame
frame_of f = record { width = f.uniform.width; masks = λ v. (f.own v).masks; flags = λ v. (f.own v).registers }

module _ (code : SuperstepCode) (base : ℕ) (is : List Instr) (f : Flat) (bare : IsBare f) (rests : AsksNone f) where
  pub left_by : AllByRecursion (λ (i : Instr). evaluates base i ≡ true) is → IsLeft base f (acts_at_once code is f)
  left_by h = folds_leave code base is f h bare (rest_reads base f rests)

  pub stands_by : AllByRecursion (λ (i : Instr). is_above base i ≡ true) is → StandsIn 0 base (frame_of f) (acts_at_once code is f)
  stands_by h =
      let start : StaysIn 0 base (frame_of f) f = record {
        stands = record { width = refl; masks = λ v. refl; flags = λ v r l k. refl };
        above = rest_asks base f rests;
      } in
      let end = folds_at_once_stay code 0 base is (frame_of f) f h start in
      end.stands
