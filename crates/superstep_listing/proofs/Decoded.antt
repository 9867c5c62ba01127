-- An instruction is found again from its word and its numbers.
use Rattle.std.proofs.Common.{◌≡◌, ℕ, List, [], ◌∷◌, ◌++◌, refl, sym, ◌∙◌, ◌<◌, ◌≤◌, ◌^◌, length, arith, Bool, true, false, map, lit≤}
use Rattle.std.proofs.Common.{append_assoc}
use Rattle.std.proofs.lemmas.Bool.Decides.{nat_tests}
use Rattle.std.proofs.lemmas.Int.{ints}
use Rattle.std.specs.List.{AllByRecursion}
use Rattle.std.specs.Prelude.{pos, Some, ◌&&◌, nat_lt}
use Rattle.superstep_instructions.specs.declared.instr.Arithmetic.TheVariants as arithmetic
use Rattle.superstep_instructions.specs.declared.instr.Instr.{Instr}
use Rattle.superstep_instructions.specs.declared.instr.Instr.TheVariants.{Mark, Set, Copy, Negate, Calculate, Decide, Not, CopyUniform}
use Rattle.superstep_instructions.specs.declared.instr.Instr.TheVariants.{Index}
use Rattle.superstep_instructions.specs.declared.instr.Instr.TheVariants.{Enter, Leave, Mask, Flip, Unmask, Ask, Put, Send, Reply, Vote}
use Rattle.superstep_instructions.specs.declared.instr.Instr.TheVariants.{Print}
use Rattle.superstep_instructions.specs.declared.instr.Instr.TheVariants.{Jump, JumpIfZero, Halt}
use Rattle.superstep_instructions.specs.declared.instr.Side.TheVariants.{Uniform, Private}
use Rattle.superstep_instructions.specs.declared.instr.Truth.TheVariants as truth
use Rattle.superstep_instructions.specs.Code.{Operand, Short, Long, Wide, operands_of}
use Rattle.superstep_listing.specs.Cutting.{Lacks, spaced}
use Rattle.superstep_listing.specs.Decoding.{candidate_of, fit_to, template_of}
use Rattle.superstep_instructions.specs.Limits.{Fits, IsInstr}
use Rattle.superstep_listing.specs.Listing.{number_of, numbers_of, side_of, stem_of}
use Rattle.superstep_listing.proofs.Cuts.{Follows, one_cut}
use Rattle.superstep_listing.proofs.Spaces.{AllFit, follows_spaced}
use Rattle.pram_model.proofs.Truths.{both}

-- with all operands 0
abbrev pub blank : Instr → Instr
blank i = candidate_of i []

pub template_word : (i : Instr) → template_of (side_of i ++ stem_of i) ≡ Some (blank i)
template_word (Mark l) = refl
template_word (Set Uniform d n) = refl
template_word (Set Private d n) = refl
template_word (Copy Uniform d s) = refl
template_word (Copy Private d s) = refl
template_word (Negate Uniform d s p) = refl
template_word (Negate Private d s p) = refl
template_word (Calculate Uniform arithmetic.Add d a b p) = refl
template_word (Calculate Uniform arithmetic.Subtract d a b p) = refl
template_word (Calculate Uniform arithmetic.Multiply d a b p) = refl
template_word (Calculate Uniform arithmetic.Divide d a b p) = refl
template_word (Calculate Uniform arithmetic.Remainder d a b p) = refl
template_word (Calculate Private arithmetic.Add d a b p) = refl
template_word (Calculate Private arithmetic.Subtract d a b p) = refl
template_word (Calculate Private arithmetic.Multiply d a b p) = refl
template_word (Calculate Private arithmetic.Divide d a b p) = refl
template_word (Calculate Private arithmetic.Remainder d a b p) = refl
template_word (Decide Uniform truth.Equal d a b) = refl
template_word (Decide Uniform truth.Less d a b) = refl
template_word (Decide Uniform truth.AtMost d a b) = refl
template_word (Decide Uniform truth.And d a b) = refl
template_word (Decide Uniform truth.Or d a b) = refl
template_word (Decide Private truth.Equal d a b) = refl
template_word (Decide Private truth.Less d a b) = refl
template_word (Decide Private truth.AtMost d a b) = refl
template_word (Decide Private truth.And d a b) = refl
template_word (Decide Private truth.Or d a b) = refl
template_word (Not Uniform d s) = refl
template_word (Not Private d s) = refl
template_word (CopyUniform d s) = refl
template_word (Index d) = refl
template_word (Enter a b p) = refl
template_word Leave = refl
template_word (Mask s) = refl
template_word Flip = refl
template_word Unmask = refl
template_word (Ask Uniform d c s p) = refl
template_word (Ask Private d c s p) = refl
template_word (Put Uniform c s v p) = refl
template_word (Put Private c s v p) = refl
template_word Send = refl
template_word Reply = refl
template_word (Vote d) = refl
template_word (Print s) = refl
template_word (Jump t) = refl
template_word (JumpIfZero s t) = refl
template_word Halt = refl

-- bytes behind the space
abbrev pub are_visible : List ℕ → Bool
are_visible [] = true
are_visible (b ∷ rest) = nat_lt 32 b && are_visible rest

pub visible_word : (i : Instr) → are_visible (side_of i ++ stem_of i) ≡ true
visible_word (Mark l) = refl
visible_word (Set Uniform d n) = refl
visible_word (Set Private d n) = refl
visible_word (Copy Uniform d s) = refl
visible_word (Copy Private d s) = refl
visible_word (Negate Uniform d s p) = refl
visible_word (Negate Private d s p) = refl
visible_word (Calculate Uniform arithmetic.Add d a b p) = refl
visible_word (Calculate Uniform arithmetic.Subtract d a b p) = refl
visible_word (Calculate Uniform arithmetic.Multiply d a b p) = refl
visible_word (Calculate Uniform arithmetic.Divide d a b p) = refl
visible_word (Calculate Uniform arithmetic.Remainder d a b p) = refl
visible_word (Calculate Private arithmetic.Add d a b p) = refl
visible_word (Calculate Private arithmetic.Subtract d a b p) = refl
visible_word (Calculate Private arithmetic.Multiply d a b p) = refl
visible_word (Calculate Private arithmetic.Divide d a b p) = refl
visible_word (Calculate Private arithmetic.Remainder d a b p) = refl
visible_word (Decide Uniform truth.Equal d a b) = refl
visible_word (Decide Uniform truth.Less d a b) = refl
visible_word (Decide Uniform truth.AtMost d a b) = refl
visible_word (Decide Uniform truth.And d a b) = refl
visible_word (Decide Uniform truth.Or d a b) = refl
visible_word (Decide Private truth.Equal d a b) = refl
visible_word (Decide Private truth.Less d a b) = refl
visible_word (Decide Private truth.AtMost d a b) = refl
visible_word (Decide Private truth.And d a b) = refl
visible_word (Decide Private truth.Or d a b) = refl
visible_word (Not Uniform d s) = refl
visible_word (Not Private d s) = refl
visible_word (CopyUniform d s) = refl
visible_word (Index d) = refl
visible_word (Enter a b p) = refl
visible_word Leave = refl
visible_word (Mask s) = refl
visible_word Flip = refl
visible_word Unmask = refl
visible_word (Ask Uniform d c s p) = refl
visible_word (Ask Private d c s p) = refl
visible_word (Put Uniform c s v p) = refl
visible_word (Put Private c s v p) = refl
visible_word Send = refl
visible_word Reply = refl
visible_word (Vote d) = refl
visible_word (Print s) = refl
visible_word (Jump t) = refl
visible_word (JumpIfZero s t) = refl
visible_word Halt = refl

not_byte : (b byte : ℕ) → byte ≤ 32 → nat_lt 32 b ≡ true → b ≡ byte → ⊥
not_byte b byte low h e = grind (arith, nat_tests)

pub lacks_visible : (byte : ℕ) (text : List ℕ) → byte ≤ 32 → are_visible text ≡ true → Lacks byte text
lacks_visible byte [] low h = tt
lacks_visible byte (b ∷ rest) low h =
    let parts = both (nat_lt 32 b) (are_visible rest) h in
    (not_byte b byte low parts.0, lacks_visible byte rest low parts.1)

pub lacks_word : (byte : ℕ) (i : Instr) → byte ≤ 32 → Lacks byte (side_of i ++ stem_of i)
lacks_word byte i low = lacks_visible byte (side_of i ++ stem_of i) low (visible_word i)

fits_to : (bound n : ℕ) → n < bound → fit_to bound (pos n) ≡ n
fits_to bound n h = grind (arith, nat_tests)

short : (n : ℕ) → n < 2 ^ 16 → fit_to 65536 (pos n) ≡ n
short n h = fits_to 65536 n h

long : (n : ℕ) → n < 2 ^ 32 → fit_to 4294967296 (pos n) ≡ n
long n h = fits_to 4294967296 n h

pub candidate_same : (i : Instr) → IsInstr i → candidate_of (blank i) (numbers_of i) ≡ i
candidate_same (Mark l) h = λ j. Mark (long l h.0 j)
candidate_same (Set side d n) h = λ j. Set side (short d h.0 j) n
candidate_same (Copy side d s) h = λ j. Copy side (short d h.0 j) (short s h.1.0 j)
candidate_same (Negate side d s p) h = λ j. Negate side (short d h.0 j) (short s h.1.0 j) (long p h.1.1.0 j)
candidate_same (Calculate side o d a b p) h =
    λ j. Calculate side o (short d h.0 j) (short a h.1.0 j) (short b h.1.1.0 j) (long p h.1.1.1.0 j)
candidate_same (Decide side o d a b) h = λ j. Decide side o (short d h.0 j) (short a h.1.0 j) (short b h.1.1.0 j)
candidate_same (Not side d s) h = λ j. Not side (short d h.0 j) (short s h.1.0 j)
candidate_same (CopyUniform d s) h = λ j. CopyUniform (short d h.0 j) (short s h.1.0 j)
candidate_same (Index d) h = λ j. Index (short d h.0 j)
candidate_same (Enter a b p) h = λ j. Enter (short a h.0 j) (short b h.1.0 j) (long p h.1.1.0 j)
candidate_same Leave h = refl
candidate_same (Mask s) h = λ j. Mask (short s h.0 j)
candidate_same Flip h = refl
candidate_same Unmask h = refl
candidate_same (Ask side d c s p) h = λ j. Ask side (short d h.0 j) (short c h.1.0 j) (short s h.1.1.0 j) (long p h.1.1.1.0 j)
candidate_same (Put side c s v p) h = λ j. Put side (short c h.0 j) (short s h.1.0 j) (short v h.1.1.0 j) (long p h.1.1.1.0 j)
candidate_same Send h = refl
candidate_same Reply h = refl
candidate_same (Vote d) h = λ j. Vote (short d h.0 j)
candidate_same (Print s) h = λ j. Print (short s h.0 j)
candidate_same (Jump t) h = λ j. Jump (short t h.0 j)
candidate_same (JumpIfZero s t) h = λ j. JumpIfZero (short s h.0 j) (short t h.1.0 j)
candidate_same Halt h = refl

wide : (o : Operand) → Fits o → Fits (Wide (number_of o))
wide (Short n) h = (omega (arith, ints), omega (arith, ints))
wide (Long n) h = (omega (arith, ints), omega (arith, ints))
wide (Wide z) h = h

all_wide : (os : List Operand) → AllByRecursion Fits os → AllFit (map number_of os)
all_wide [] h = tt
all_wide (o ∷ os) h = (wide o h.0, all_wide os h.1)

pub numbers_fit : (i : Instr) → IsInstr i → AllFit (numbers_of i)
numbers_fit i h = all_wide (operands_of i) h

pub few_numbers : (i : Instr) → length (numbers_of i) ≤ 4
few_numbers (Mark l) = lit≤ tt
few_numbers (Set side d n) = lit≤ tt
few_numbers (Copy side d s) = lit≤ tt
few_numbers (Negate side d s p) = lit≤ tt
few_numbers (Calculate side o d a b p) = lit≤ tt
few_numbers (Decide side o d a b) = lit≤ tt
few_numbers (Not side d s) = lit≤ tt
few_numbers (CopyUniform d s) = lit≤ tt
few_numbers (Index d) = lit≤ tt
few_numbers (Enter a b p) = lit≤ tt
few_numbers Leave = lit≤ tt
few_numbers (Mask s) = lit≤ tt
few_numbers Flip = lit≤ tt
few_numbers Unmask = lit≤ tt
few_numbers (Ask side d c s p) = lit≤ tt
few_numbers (Put side c s v p) = lit≤ tt
few_numbers Send = lit≤ tt
few_numbers Reply = lit≤ tt
few_numbers (Vote d) = lit≤ tt
few_numbers (Print s) = lit≤ tt
few_numbers (Jump t) = lit≤ tt
few_numbers (JumpIfZero s t) = lit≤ tt
few_numbers Halt = lit≤ tt

-- a text that is an instruction's is parted as it was put together
pub split_body : (text word behind : List ℕ) (i : Instr) → text ≡ word ++ behind → Lacks 32 word → Follows 32 behind →
    text ≡ side_of i ++ (stem_of i ++ spaced (numbers_of i))
    → (word ≡ side_of i ++ stem_of i) × (behind ≡ spaced (numbers_of i))
split_body text word behind i whole lacks follows e =
    one_cut 32 word (side_of i ++ stem_of i) behind (spaced (numbers_of i)) lacks (lacks_word 32 i (lit≤ tt)) follows
    (follows_spaced (numbers_of i))
    (sym whole ∙ e ∙ sym (append_assoc (side_of i) (stem_of i) (spaced (numbers_of i))))
