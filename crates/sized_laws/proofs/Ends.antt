-- Line ends, byte by byte.
use Rattle.std.proofs.Common.{◌≡◌, ℕ, zero, suc, ◌+◌, ◌<◌, ◌==◌, Bool, true, false, List, [], ◌∷◌, ◌++◌}
use Rattle.std.proofs.Common.{take, drop, length, refl, ap, ◌∙◌, arith, cond}
use Rattle.std.proofs.lemmas.Bool.Decides.{nat_tests}
use Rattle.pram_tokens.specs.Scanning.{line_after, next_line}

-- one for a line end
abbrev pub end_of : ℕ → ℕ
end_of b = cond (b == 10) 1 0

abbrev pub ends : List ℕ → ℕ
ends [] = 0
ends (b ∷ rest) = end_of b + ends rest

pub line_is : (line : ℕ) (text : List ℕ) → line_after line text ≡ line + ends text
line_is line [] = omega arith
line_is line (b ∷ rest) = line_is (next_line line b) rest ∙ by (b == 10)
  where
    by : (t : Bool) → cond t (line + 1) line + ends rest ≡ line + (cond t 1 0 + ends rest)
    by true = omega arith
    by false = omega arith

pub ends_append : (a b : List ℕ) → ends (a ++ b) ≡ ends a + ends b
ends_append [] b = omega arith
ends_append (x ∷ a) b = let h = ends_append a b in omega (arith, h)

pub no_end : (b : ℕ) → (b ≡ 10 → ⊥) → end_of b ≡ 0
no_end b differs = by (b == 10) refl
  where
    by : (t : Bool) → t ≡ (b == 10) → ◌≡◌ {A = ℕ} (cond t 1 0) 0
    by true is = absurd (differs (grind (arith, nat_tests)))
    by false is = refl

-- a step on in a text: the text behind the byte there, and the line ends before it
rest_there : (at : ℕ) (whole : List ℕ) (b : ℕ) (rest : List ℕ) → drop at whole ≡ b ∷ rest → drop (suc at) whole ≡ rest
rest_there zero [] b rest is = absurd (cc)
rest_there (suc at) [] b rest is = absurd (cc)
rest_there zero (x ∷ whole) b rest is = cc
rest_there (suc at) (x ∷ whole) b rest is = rest_there at whole b rest is

ends_there : (at : ℕ) (whole : List ℕ) (b : ℕ) (rest : List ℕ) → drop at whole ≡ b ∷ rest →
    ends (take (suc at) whole) ≡ ends (take at whole) + end_of b
ends_there zero [] b rest is = absurd (cc)
ends_there (suc at) [] b rest is = absurd (cc)
ends_there zero (x ∷ whole) b rest is = let e : x ≡ b = cc in let k = ap end_of e in omega (arith, k)
ends_there (suc at) (x ∷ whole) b rest is = let h = ends_there at whole b rest is in omega (arith, h)

pub step_rest : (at : ℕ) (whole : List ℕ) (b : ℕ) (rest : List ℕ) → drop at whole ≡ b ∷ rest → drop (at + 1) whole ≡ rest
step_rest at whole b rest is =
    let e : at + 1 ≡ suc at = omega arith in ap (λ n. drop n whole) e ∙ rest_there at whole b rest is

pub step_ends : (at : ℕ) (whole : List ℕ) (b : ℕ) (rest : List ℕ) → drop at whole ≡ b ∷ rest →
    ends (take (at + 1) whole) ≡ ends (take at whole) + end_of b
step_ends at whole b rest is =
    let e : at + 1 ≡ suc at = omega arith in ap (λ n. ends (take n whole)) e ∙ ends_there at whole b rest is

pub step_within : (at : ℕ) (whole : List ℕ) (b : ℕ) (rest : List ℕ) → drop at whole ≡ b ∷ rest → at < length whole
step_within zero [] b rest is = absurd (cc)
step_within (suc at) [] b rest is = absurd (cc)
step_within zero (x ∷ whole) b rest is = omega arith
step_within (suc at) (x ∷ whole) b rest is = let h = step_within at whole b rest is in omega (arith, h)

-- behind the last byte all line ends are before
pub ends_at_end : (at : ℕ) (whole : List ℕ) → drop at whole ≡ [] → ends (take at whole) ≡ ends whole
ends_at_end zero [] is = refl
ends_at_end (suc at) [] is = refl
ends_at_end zero (x ∷ whole) is = absurd (cc)
ends_at_end (suc at) (x ∷ whole) is = ap (λ n. end_of x + n) (ends_at_end at whole is)
