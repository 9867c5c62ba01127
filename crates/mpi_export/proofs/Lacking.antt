-- Bytes that words and numbers lack, and where a text can be cut.
use Rattle.std.proofs.Common.{◌≡◌, ℕ, List, [], ◌∷◌, ◌++◌, refl, sym, ap, ◌∙◌, ◌+◌, ◌<◌, ◌^◌, ◌%◌, arith, true, false, inl, inr, lit<}
use Rattle.std.proofs.Common.{subst}
use Rattle.std.proofs.lemmas.Fmt.{decimal_by_steps, decimal_injective}
use Rattle.std.specs.Prelude.{ℤ, pos, negsuc, ◌⊎◌, codes}
use Rattle.std.specs.Fmt.{decimal}
use Rattle.pram_model.specs.Names.{are_words, is_word}
use Rattle.pram_model.proofs.Truths.{both}
use Rattle.superstep_instructions.specs.declared.instr.Arithmetic.{Arithmetic}
use Rattle.superstep_instructions.specs.declared.instr.Arithmetic.TheVariants as arithmetic
use Rattle.superstep_instructions.specs.declared.instr.Instr.{Instr}
use Rattle.superstep_instructions.specs.declared.instr.Instr.TheVariants.{Mark, Set, Copy, Negate, Calculate, Decide, Not, CopyUniform}
use Rattle.superstep_instructions.specs.declared.instr.Instr.TheVariants.{Index}
use Rattle.superstep_instructions.specs.declared.instr.Instr.TheVariants.{Enter, Leave, Mask, Flip, Unmask, Ask, Put, Send, Reply, Vote}
use Rattle.superstep_instructions.specs.declared.instr.Instr.TheVariants.{Print}
use Rattle.superstep_instructions.specs.declared.instr.Instr.TheVariants.{Jump, JumpIfZero, Halt}
use Rattle.superstep_instructions.specs.declared.instr.Side.{Side}
use Rattle.superstep_instructions.specs.declared.instr.Side.TheVariants.{Uniform, Private}
use Rattle.superstep_instructions.specs.declared.instr.Truth.{Truth}
use Rattle.superstep_instructions.specs.declared.instr.Truth.TheVariants as truth
use Rattle.superstep_instructions.specs.Code.{Wide}
use Rattle.superstep_instructions.specs.Limits.{Fits}
use Rattle.superstep_listing.specs.Cutting.{Lacks}
use Rattle.superstep_listing.specs.Listing.{arithmetic_word, side_of, side_word, stem_of, truth_word}
use Rattle.superstep_listing.proofs.Cuts.{lacks-append}
use Rattle.superstep_listing.proofs.Numerals.{small}
use Rattle.superstep_listing.proofs.Spaces.{lacks_decimal}
use Rattle.mpi_export.specs.Program.{c_number}

-- letters, digits and `_` are no other byte
pub words_lack : (byte : ℕ) → is_word byte ≡ false → (text : List ℕ) → are_words text ≡ true → Lacks byte text
words_lack byte other [] all = tt
words_lack byte other (b ∷ rest) all =
    let parts = both (is_word b) (are_words rest) all in
    (λ e. absurd (let h : true ≡ false = sym parts.0 ∙ ap is_word e ∙ other in cc), words_lack byte other rest parts.1)

words-append : (a b : List ℕ) → are_words a ≡ true → are_words b ≡ true → are_words (a ++ b) ≡ true
words-append [] b ha hb = hb
words-append (x ∷ a) b ha hb =
    let parts = both (is_word x) (are_words a) ha in
    simp (parts.0, words-append a b parts.1 hb)

side_words : (s : Side) → are_words (side_word s) ≡ true
side_words Uniform = refl
side_words Private = refl

arithmetic_words : (o : Arithmetic) → are_words (arithmetic_word o) ≡ true
arithmetic_words arithmetic.Add = refl
arithmetic_words arithmetic.Subtract = refl
arithmetic_words arithmetic.Multiply = refl
arithmetic_words arithmetic.Divide = refl
arithmetic_words arithmetic.Remainder = refl

truth_words : (o : Truth) → are_words (truth_word o) ≡ true
truth_words truth.Equal = refl
truth_words truth.Less = refl
truth_words truth.AtMost = refl
truth_words truth.And = refl
truth_words truth.Or = refl

-- the word of an instruction
pub letters_of : (i : Instr) → are_words (side_of i ++ stem_of i) ≡ true
letters_of (Mark l) = refl
letters_of (Set side d n) = words-append (side_word side) (codes "set") (side_words side) refl
letters_of (Copy side d s) = words-append (side_word side) (codes "copy") (side_words side) refl
letters_of (Negate side d s p) = words-append (side_word side) (codes "neg") (side_words side) refl
letters_of (Calculate side o d a b p) = words-append (side_word side) (arithmetic_word o) (side_words side) (arithmetic_words o)
letters_of (Decide side o d a b) = words-append (side_word side) (truth_word o) (side_words side) (truth_words o)
letters_of (Not side d s) = words-append (side_word side) (codes "not") (side_words side) refl
letters_of (CopyUniform d s) = refl
letters_of (Index d) = refl
letters_of (Enter a b p) = refl
letters_of Leave = refl
letters_of (Mask s) = refl
letters_of Flip = refl
letters_of Unmask = refl
letters_of (Ask side d c s p) = words-append (side_word side) (codes "ask") (side_words side) refl
letters_of (Put side c s v p) = words-append (side_word side) (codes "put") (side_words side) refl
letters_of Send = refl
letters_of Reply = refl
letters_of (Vote d) = refl
letters_of (Print s) = refl
letters_of (Jump t) = refl
letters_of (JumpIfZero s t) = refl
letters_of Halt = refl

-- decimals have no byte above `9`
lacks_above : (byte n : ℕ) → 57 < byte → n < 2 ^ 64 → Lacks byte (decimal n)
lacks_above byte n high fits =
    decimal_by_steps (λ m ds. Lacks byte ds) (λ m digit. (λ e. absurd (omega arith), tt))
    (λ m ds more front. lacks-append byte ds ((48 + m % 10) ∷ []) front (λ e. absurd (omega arith), tt)) n fits

-- a number in C has neither `,` nor `}`
pub number_lacks_comma : (z : ℤ) → Fits (Wide z) → Lacks 44 (c_number z)
number_lacks_comma (pos n) fits = lacks_decimal 44 n (lit< tt) (let s = small (pos n) fits in omega arith)
number_lacks_comma (negsuc n) fits =
    (λ e. absurd (omega (arith, e)), lacks_decimal 44 n (lit< tt) (let s = small (negsuc n) fits in omega arith))

pub number_lacks_brace : (z : ℤ) → Fits (Wide z) → Lacks 125 (c_number z)
number_lacks_brace (pos n) fits = lacks_above 125 n (lit< tt) (let s = small (pos n) fits in omega arith)
number_lacks_brace (negsuc n) fits =
    (λ e. absurd (omega (arith, e)), lacks_above 125 n (lit< tt) (let s = small (negsuc n) fits in omega arith))

-- a decimal doesn't begin with `~`
not_complement : (n : ℕ) (rest : List ℕ) → n < 2 ^ 64 → decimal n ≡ 126 ∷ rest → ⊥
not_complement n rest fits e =
    let lacks : Lacks 126 (126 ∷ rest) = subst (Lacks 126) e (lacks_above 126 n (lit< tt) fits) in
    lacks.0 refl

-- numbers of one text are one
pub number_once : (y z : ℤ) → Fits (Wide y) → Fits (Wide z) → c_number y ≡ c_number z → y ≡ z
number_once (pos n) (pos m) fy fz e =
    ap pos (decimal_injective n m (let s = small (pos n) fy in omega arith) (let s = small (pos m) fz in omega arith) e)
number_once (pos n) (negsuc m) fy fz e = absurd (not_complement n (decimal m) (let s = small (pos n) fy in omega arith) e)
number_once (negsuc n) (pos m) fy fz e = absurd (not_complement m (decimal n) (let s = small (pos m) fz in omega arith) (sym e))
number_once (negsuc n) (negsuc m) fy fz e =
    let tails : decimal n ≡ decimal m = cc in
    ap negsuc (decimal_injective n m (let s = small (negsuc n) fy in omega arith) (let s = small (negsuc m) fz in omega arith) tails)

-- a text that begins with one of two bytes
abbrev pub BeginsWith : (p q : ℕ) → List ℕ → Type 0
BeginsWith p q [] = ⊥
BeginsWith p q (b ∷ rest) = (b ≡ p) ⊎ (b ≡ q)

is_none : (p q b : ℕ) → (b ≡ p → ⊥) → (b ≡ q → ⊥) → (b ≡ p) ⊎ (b ≡ q) → ⊥
is_none p q b np nq h = elim h [
  | inl e ↦ np e
  | inr e ↦ nq e
]

-- texts that lack two bytes, before one of these, are the same
pub cut_before : (p q : ℕ) (a b x y : List ℕ) → Lacks p a → Lacks q a → Lacks p b → Lacks q b → BeginsWith p q x → BeginsWith p q y →
    a ++ x ≡ b ++ y → (a ≡ b) × (x ≡ y)
cut_before p q [] [] x y pa qa pb qb cx cy e = (refl, e)
cut_before p q [] (c ∷ b) [] y pa qa pb qb cx cy e = absurd cx
cut_before p q [] (c ∷ b) (d ∷ x) y pa qa pb qb cx cy e =
    let same : d ≡ c = cc in
    absurd (is_none p q d (λ h. pb.0 (sym same ∙ h)) (λ h. qb.0 (sym same ∙ h)) cx)
cut_before p q (c ∷ a) [] x [] pa qa pb qb cx cy e = absurd cy
cut_before p q (c ∷ a) [] x (d ∷ y) pa qa pb qb cx cy e =
    let same : c ≡ d = cc in
    absurd (is_none p q d (λ h. pa.0 (same ∙ h)) (λ h. qa.0 (same ∙ h)) cy)
cut_before p q (c ∷ a) (d ∷ b) x y pa qa pb qb cx cy e =
    let head : c ≡ d = cc in
    let tail : a ++ x ≡ b ++ y = cc in
    let rest = cut_before p q a b x y pa.1 qa.1 pb.1 qb.1 cx cy tail in
    (let front : a ≡ b = rest.0 in cc, rest.1)
