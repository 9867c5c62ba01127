-- What an instruction reads and computes is what its change reads and computes.
use Rattle.std.proofs.Common.{◌≡◌, ℕ, Bool, true, false, Option, Some, None, ℤ, refl, sym, ap, ◌∙◌, subst}
use Rattle.std.specs.Prelude.{Ok, if◌then◌else◌, not}
use Rattle.std.specs.Ordering.{int_eq}
use Rattle.std.proofs.lemmas.Bool.Decides.{Decides-int_eq}
use Rattle.pram_model.proofs.Truths.{both}
use Rattle.pram_values.specs.Value.{Value, checked}
use Rattle.pram_values.specs.Truth.{truth, is_nonzero}
use Rattle.std.specs.Prelude.{neg_ℤ}
use Rattle.superstep_instructions.specs.declared.instr.Side.{Side}
use Rattle.superstep_instructions.specs.declared.instr.Side.TheVariants.{Uniform, Private}
use Rattle.superstep_instructions.specs.declared.instr.Instr.{Instr}
use Rattle.superstep_instructions.specs.declared.instr.Instr.TheVariants.{Mark, Set, Copy, Negate, Calculate, Decide, Not, CopyUniform}
use Rattle.superstep_instructions.specs.declared.instr.Instr.TheVariants.{Index}
use Rattle.superstep_instructions.specs.declared.instr.Instr.TheVariants.{Enter, Leave, Mask, Flip, Unmask, Ask, Put, Send, Reply, Vote}
use Rattle.superstep_instructions.specs.declared.instr.Instr.TheVariants.{Print}
use Rattle.superstep_instructions.specs.declared.instr.Instr.TheVariants.{Jump, JumpIfZero, Halt}
use Rattle.superstep_machine.specs.Parts.{Registers, set_register}
use Rattle.superstep_machine.specs.Results.{computed, calculated, tested, is_of, or_zero}
use Rattle.superstep_machine.specs.Steps.{with_result}
use Rattle.tidying.specs.Rows.{Row, Has, Holds}
use Rattle.tidying.specs.Certificates.{by_side, or_first, place_of, changed, is_there, is_known, knows, gives, result_of, resulted}
use Rattle.tidying.proofs.Registers.{put_holds}

pub read_there : (o : Option ℕ) → is_there o ≡ true → o ≡ Some (or_first o)
read_there None h = cc
read_there (Some t) h = refl

-- what is read is the same
pub reads : (number : ℕ → Option ℤ) (row : Row) (r other : Registers) → Holds number row r other → (s : ℕ) → is_there (row s) ≡ true →
    other (or_first (row s)) ≡ r s
reads number row r other h s k = (h s (or_first (row s)) (read_there (row s) k)).0

-- only a number that is set is known to be given
pub plain : (i : Instr) → ((n : ℤ) → gives (Some n) i ≡ false) → (o : Option ℤ) (x : ℤ) → gives o i ≡ true → Has o x
plain i f None x g = tt
plain i f (Some n) x g = absurd (no (gives (Some n) i) (f n) g)
  where
    no : (b : Bool) → b ≡ false → b ≡ true → ⊥
    no true p q = cc
    no false p q = cc

set_given : (side : Side) (d : ℕ) (x : ℤ) (o : Option ℤ) → gives o (Set side d x) ≡ true → Has o x
set_given side d x None g = tt
set_given side d x (Some n) g = sym (same_number n x g)
  where
    same_number : (n x : ℤ) → int_eq n x ≡ true → n ≡ x
    same_number n x g = (Decides-int_eq n x).0 g

-- ---- results

abbrev pub result : Side → Instr → Registers → Option (ℕ × Value)
result side i r = if is_of side i then computed i r else None

abbrev pub redirected : ℕ → Option (ℕ × Value) → Option (ℕ × Value)
redirected e None = None
redirected e (Some (d, value)) = Some (e, value)

module _ (number : Side → ℕ → Option ℤ) (u a : Row) (e : ℕ) (m : ℕ → ℕ) where
  abbrev ch : Instr → Instr
  ch = changed u a e m

  module _ (x : Side) (numbers : ℕ → Option ℤ) (r other : Registers) (h : Holds numbers (by_side x u a) r other) where
    abbrev at : (s : ℕ) → is_known x u a s ≡ true → other (place_of x u a s) ≡ r s
    at s k = reads numbers (by_side x u a) r other h s k

    abbrev IsSame : Instr → Type 0
    IsSame i = result x (ch i) other ≡ redirected e (result x i r)

  pub result_same : (x : Side) (numbers : ℕ → Option ℤ) (r other : Registers) (h : Holds numbers (by_side x u a) r other) (i : Instr) →
      knows number u a i ≡ true → result x (ch i) other ≡ redirected e (result x i r)
  result_same x numbers r other h (Mark line) k = refl
  result_same Uniform numbers r other h (Set Uniform d n) k = refl
  result_same Uniform numbers r other h (Set Private d n) k = refl
  result_same Private numbers r other h (Set Uniform d n) k = refl
  result_same Private numbers r other h (Set Private d n) k = refl
  result_same Uniform numbers r other h (Copy Uniform d s) k = λ j. Some (e, Ok (at Uniform numbers r other h s k j))
  result_same Uniform numbers r other h (Copy Private d s) k = refl
  result_same Private numbers r other h (Copy Uniform d s) k = refl
  result_same Private numbers r other h (Copy Private d s) k = λ j. Some (e, Ok (at Private numbers r other h s k j))
  result_same Uniform numbers r other h (Negate Uniform d s q) k =
      ap (λ y. computed (Negate Uniform e 0 q) (λ z. y)) (at Uniform numbers r other h s k)
  result_same Uniform numbers r other h (Negate Private d s q) k = refl
  result_same Private numbers r other h (Negate Uniform d s q) k = refl
  result_same Private numbers r other h (Negate Private d s q) k =
      ap (λ y. computed (Negate Private e 0 q) (λ z. y)) (at Private numbers r other h s k)
  result_same Uniform numbers r other h (Calculate Uniform o d y z q) k =
      let b = both (is_known Uniform u a y) (is_known Uniform u a z) k in
      λ j. Some (e, calculated o (at Uniform numbers r other h y b.0 j) (at Uniform numbers r other h z b.1 j))
  result_same Uniform numbers r other h (Calculate Private o d y z q) k = refl
  result_same Private numbers r other h (Calculate Uniform o d y z q) k = refl
  result_same Private numbers r other h (Calculate Private o d y z q) k =
      let b = both (is_known Private u a y) (is_known Private u a z) k in
      λ j. Some (e, calculated o (at Private numbers r other h y b.0 j) (at Private numbers r other h z b.1 j))
  result_same Uniform numbers r other h (Decide Uniform o d y z) k =
      let b = both (is_known Uniform u a y) (is_known Uniform u a z) k in
      λ j. Some (e, Ok (truth (tested o (at Uniform numbers r other h y b.0 j) (at Uniform numbers r other h z b.1 j))))
  result_same Uniform numbers r other h (Decide Private o d y z) k = refl
  result_same Private numbers r other h (Decide Uniform o d y z) k = refl
  result_same Private numbers r other h (Decide Private o d y z) k =
      let b = both (is_known Private u a y) (is_known Private u a z) k in
      λ j. Some (e, Ok (truth (tested o (at Private numbers r other h y b.0 j) (at Private numbers r other h z b.1 j))))
  result_same Uniform numbers r other h (Not Uniform d s) k =
      λ j. Some (e, Ok (truth (not (is_nonzero (at Uniform numbers r other h s k j)))))
  result_same Uniform numbers r other h (Not Private d s) k = refl
  result_same Private numbers r other h (Not Uniform d s) k = refl
  result_same Private numbers r other h (Not Private d s) k =
      λ j. Some (e, Ok (truth (not (is_nonzero (at Private numbers r other h s k j)))))
  result_same x numbers r other h (CopyUniform d s) k = refl
  result_same x numbers r other h (Index d) k = refl
  result_same x numbers r other h (Enter y z q) k = refl
  result_same x numbers r other h Leave k = refl
  result_same x numbers r other h (Mask s) k = refl
  result_same x numbers r other h Flip k = refl
  result_same x numbers r other h Unmask k = refl
  result_same Uniform numbers r other h (Ask Uniform d c s q) k = refl
  result_same Uniform numbers r other h (Ask Private d c s q) k = refl
  result_same Private numbers r other h (Ask Uniform d c s q) k = refl
  result_same Private numbers r other h (Ask Private d c s q) k = refl
  result_same Uniform numbers r other h (Put Uniform c s v q) k = refl
  result_same Uniform numbers r other h (Put Private c s v q) k = refl
  result_same Private numbers r other h (Put Uniform c s v q) k = refl
  result_same Private numbers r other h (Put Private c s v q) k = refl
  result_same x numbers r other h Send k = refl
  result_same x numbers r other h Reply k = refl
  result_same x numbers r other h (Vote d) k = refl
  result_same x numbers r other h (Print s) k = refl
  result_same x numbers r other h (Jump t) k = refl
  result_same x numbers r other h (JumpIfZero s t) k = refl
  result_same x numbers r other h Halt k = refl

  -- ---- registers behind a result

  module _ (x : Side) (numbers : ℕ → Option ℤ) (r other : Registers) (h : Holds numbers (by_side x u a) r other) where
    abbrev Goes : Instr → Type 0
    Goes i = Holds numbers (resulted numbers e i (result_of x i) (by_side x u a)) (with_result (result x i r) r)
        (with_result (result x (ch i) other) other)

    finish : (i : Instr) (d : ℕ) (value : Value) → knows number u a i ≡ true → result x i r ≡ Some (d, value) → result_of x i ≡ Some d →
        (gives (numbers d) i ≡ true → Has (numbers d) (or_zero value)) → Goes i
    finish i d value k is of has =
        subst (λ o. Holds numbers (resulted numbers e i (result_of x i) (by_side x u a)) (with_result (result x i r) r) (with_result o
        other))
        (ap (redirected e) (sym is) ∙ sym (result_same x numbers r other h i k))
        (subst (λ o. Holds numbers (resulted numbers e i (result_of x i) (by_side x u a)) (with_result o r) (set_register e (or_zero value)
        other))
        (sym is)
        (subst (λ o. Holds numbers (resulted numbers e i o (by_side x u a)) (set_register d (or_zero value) r) (set_register e
        (or_zero value) other))
        (sym of) (put_holds numbers (by_side x u a) r other h (gives (numbers d) i) d e (or_zero value) has)))

  -- whether its result is of computing with one side's registers
  abbrev pub is_plain : Instr → Bool
  is_plain (CopyUniform d s) = false
  is_plain (Index d) = false
  is_plain i = true

  pub uniform_result : (numbers : ℕ → Option ℤ) (r other : Registers) (h : Holds numbers u r other) (i : Instr) →
      knows number u a i ≡ true → Goes Uniform numbers r other h i
  uniform_result numbers r other h (Set Uniform d n) k =
      finish Uniform numbers r other h (Set Uniform d n) d (Ok n) k refl refl (set_given Uniform d n (numbers d))
  uniform_result numbers r other h (Set Private d n) k = h
  uniform_result numbers r other h (Copy Uniform d s) k =
      finish Uniform numbers r other h (Copy Uniform d s) d (Ok (r s)) k refl refl
      (plain (Copy Uniform d s) (λ n. refl) (numbers d) (or_zero (Ok (r s))))
  uniform_result numbers r other h (Copy Private d s) k = h
  uniform_result numbers r other h (Negate Uniform d s q) k =
      finish Uniform numbers r other h (Negate Uniform d s q) d (checked (neg_ℤ (r s))) k refl refl
      (plain (Negate Uniform d s q) (λ n. refl) (numbers d) (or_zero (checked (neg_ℤ (r s)))))
  uniform_result numbers r other h (Negate Private d s q) k = h
  uniform_result numbers r other h (Calculate Uniform o d y z q) k =
      finish Uniform numbers r other h (Calculate Uniform o d y z q) d (calculated o (r y) (r z)) k refl refl
      (plain (Calculate Uniform o d y z q) (λ n. refl) (numbers d) (or_zero (calculated o (r y) (r z))))
  uniform_result numbers r other h (Calculate Private o d y z q) k = h
  uniform_result numbers r other h (Decide Uniform o d y z) k =
      finish Uniform numbers r other h (Decide Uniform o d y z) d (Ok (truth (tested o (r y) (r z)))) k refl refl
      (plain (Decide Uniform o d y z) (λ n. refl) (numbers d) (or_zero (Ok (truth (tested o (r y) (r z))))))
  uniform_result numbers r other h (Decide Private o d y z) k = h
  uniform_result numbers r other h (Not Uniform d s) k =
      finish Uniform numbers r other h (Not Uniform d s) d (Ok (truth (not (is_nonzero (r s))))) k refl refl
      (plain (Not Uniform d s) (λ n. refl) (numbers d) (or_zero (Ok (truth (not (is_nonzero (r s)))))))
  uniform_result numbers r other h (Not Private d s) k = h
  uniform_result numbers r other h (Mark line) k = h
  uniform_result numbers r other h (CopyUniform d s) k = h
  uniform_result numbers r other h (Index d) k = h
  uniform_result numbers r other h (Enter y z q) k = h
  uniform_result numbers r other h Leave k = h
  uniform_result numbers r other h (Mask s) k = h
  uniform_result numbers r other h Flip k = h
  uniform_result numbers r other h Unmask k = h
  uniform_result numbers r other h Send k = h
  uniform_result numbers r other h Reply k = h
  uniform_result numbers r other h (Vote d) k = h
  uniform_result numbers r other h (Print s) k = h
  uniform_result numbers r other h (Jump t) k = h
  uniform_result numbers r other h (JumpIfZero s t) k = h
  uniform_result numbers r other h Halt k = h
  uniform_result numbers r other h (Ask Uniform d c s q) k = h
  uniform_result numbers r other h (Put Uniform c s v q) k = h
  uniform_result numbers r other h (Ask Private d c s q) k = h
  uniform_result numbers r other h (Put Private c s v q) k = h

  pub private_result : (numbers : ℕ → Option ℤ) (r other : Registers) (h : Holds numbers a r other) (i : Instr) →
      knows number u a i ≡ true → is_plain i ≡ true → Goes Private numbers r other h i
  private_result numbers r other h (Set Private d n) k o =
      finish Private numbers r other h (Set Private d n) d (Ok n) k refl refl (set_given Private d n (numbers d))
  private_result numbers r other h (Set Uniform d n) k o = h
  private_result numbers r other h (Copy Private d s) k o =
      finish Private numbers r other h (Copy Private d s) d (Ok (r s)) k refl refl
      (plain (Copy Private d s) (λ n. refl) (numbers d) (or_zero (Ok (r s))))
  private_result numbers r other h (Copy Uniform d s) k o = h
  private_result numbers r other h (Negate Private d s q) k o =
      finish Private numbers r other h (Negate Private d s q) d (checked (neg_ℤ (r s))) k refl refl
      (plain (Negate Private d s q) (λ n. refl) (numbers d) (or_zero (checked (neg_ℤ (r s)))))
  private_result numbers r other h (Negate Uniform d s q) k o = h
  private_result numbers r other h (Calculate Private op d y z q) k o =
      finish Private numbers r other h (Calculate Private op d y z q) d (calculated op (r y) (r z)) k refl refl
      (plain (Calculate Private op d y z q) (λ n. refl) (numbers d) (or_zero (calculated op (r y) (r z))))
  private_result numbers r other h (Calculate Uniform op d y z q) k o = h
  private_result numbers r other h (Decide Private op d y z) k o =
      finish Private numbers r other h (Decide Private op d y z) d (Ok (truth (tested op (r y) (r z)))) k refl refl
      (plain (Decide Private op d y z) (λ n. refl) (numbers d) (or_zero (Ok (truth (tested op (r y) (r z))))))
  private_result numbers r other h (Decide Uniform op d y z) k o = h
  private_result numbers r other h (Not Private d s) k o =
      finish Private numbers r other h (Not Private d s) d (Ok (truth (not (is_nonzero (r s))))) k refl refl
      (plain (Not Private d s) (λ n. refl) (numbers d) (or_zero (Ok (truth (not (is_nonzero (r s)))))))
  private_result numbers r other h (Not Uniform d s) k o = h
  private_result numbers r other h (Mark line) k o = h
  private_result numbers r other h (CopyUniform d s) k o = cc
  private_result numbers r other h (Index d) k o = cc
  private_result numbers r other h (Enter y z q) k o = h
  private_result numbers r other h Leave k o = h
  private_result numbers r other h (Mask s) k o = h
  private_result numbers r other h Flip k o = h
  private_result numbers r other h Unmask k o = h
  private_result numbers r other h Send k o = h
  private_result numbers r other h Reply k o = h
  private_result numbers r other h (Vote d) k o = h
  private_result numbers r other h (Print s) k o = h
  private_result numbers r other h (Jump t) k o = h
  private_result numbers r other h (JumpIfZero s t) k o = h
  private_result numbers r other h Halt k o = h
  private_result numbers r other h (Ask Uniform d c s q) k o = h
  private_result numbers r other h (Put Uniform c s v q) k o = h
  private_result numbers r other h (Ask Private d c s q) k o = h
  private_result numbers r other h (Put Private c s v q) k o = h
