-- How the growth of a number is written.
use Rattle.std.specs.Prelude.{ℕ, ℤ, pos, negsuc, ◌==◌, ◌&&◌, Bool, true, false, if◌then◌else◌, List, [], ◌∷◌, ◌++◌, codes, decimal}
use Rattle.std.specs.Prelude.{unsigned_abs}
use Rattle.std.specs.Fmt.{signed_decimal}
use Rattle.sweeps.specs.declared.formula.Formula.{Formula}
use Rattle.sweeps.specs.declared.term.Term.{Term}
use Rattle.sweeps.specs.declared.term.Term.TheVariants.{Constant, Logarithm, Linear, Linearithmic, Square, Cube}
use Rattle.sweeps.specs.declared.growth.Growth.{Growth}
use Rattle.sweeps.specs.declared.growth.Growth.TheVariants.{Formula as ByFormula, Doubling, Nothing}
use Rattle.sweeps.specs.Formulas.{coefficient}

-- the terms as they are written, from the one that grows fastest
abbrev pub written : List Term
written = Cube ∷ Square ∷ Linearithmic ∷ Linear ∷ Logarithm ∷ Constant ∷ []

-- the sign of a coefficient, of the first term that is written or of a later one
abbrev pub sign_text : Bool → ℤ → List ℕ
sign_text true (pos m) = []
sign_text true (negsuc m) = codes "-"
sign_text false (pos m) = codes " + "
sign_text false (negsuc m) = codes " - "

-- `4 `, and nothing for 1
abbrev pub factor_text : ℕ → List ℕ
factor_text m = if m == 1 then [] else decimal m ++ codes " "

-- `4 log n`, `log n` where the coefficient is 1, and `5` for a constant, in a size of that name
abbrev pub product_text : List ℕ → ℕ → Term → List ℕ
product_text n m Constant = decimal m
product_text n m Logarithm = factor_text m ++ (codes "log " ++ n)
product_text n m Linear = factor_text m ++ n
product_text n m Linearithmic = factor_text m ++ (n ++ (codes " log " ++ n))
product_text n m Square = factor_text m ++ (n ++ codes "^2")
product_text n m Cube = factor_text m ++ (n ++ codes "^3")

-- `4 log n`, ` + 4 log n` or ` - 4 log n`
abbrev pub signed_text : List ℕ → Bool → ℤ → Term → List ℕ
signed_text n first c t = sign_text first c ++ product_text n (unsigned_abs c) t

abbrev pub is_zero : ℤ → Bool
is_zero c = unsigned_abs c == 0

-- a term is left out where its coefficient is 0
abbrev pub term_text : List ℕ → Bool → ℤ → Term → List ℕ
term_text n first c t = if is_zero c then [] else signed_text n first c t

-- behind a term that is left out the next one may be the first
abbrev pub is_still_first : Bool → ℤ → Bool
is_still_first first c = first && is_zero c

-- a sum without terms is 0
abbrev pub rest_text : Bool → List ℕ
rest_text first = if first then codes "0" else []

-- these terms of a formula, of which the first may be the first that is written
abbrev pub terms_text : List ℕ → Formula → Bool → List Term → List ℕ
terms_text n f first [] = rest_text first
terms_text n f first (t ∷ ts) =
    term_text n first (coefficient f t) t ++ terms_text n f (is_still_first first (coefficient f t)) ts

-- `4 log n + 5`
abbrev pub formula_text : List ℕ → Formula → List ℕ
formula_text n f = terms_text n f true written

-- `grows by 17 at each doubling`
abbrev pub doubling_text : ℤ → List ℕ
doubling_text step = codes "grows by " ++ (signed_decimal step ++ codes " at each doubling")

abbrev pub is_told : Growth → Bool
is_told (ByFormula f) = true
is_told (Doubling step) = true
is_told Nothing = false

-- how a number grows, in a size of this name, and no words where nothing is told
abbrev pub growth_words : List ℕ → Growth → List ℕ
growth_words n (ByFormula f) = formula_text n f
growth_words n (Doubling step) = doubling_text step
growth_words n Nothing = []

-- `time 4 log n + 5`: what grows, and how
abbrev pub growth_line : (label n : List ℕ) → Growth → List ℕ
growth_line label n g = (label ++ codes " ") ++ (growth_words n g ++ codes "\n")

-- the line of a growth, and none where nothing is told
abbrev pub growth_text : (label n : List ℕ) → Growth → List ℕ
growth_text label n g = if is_told g then growth_line label n g else []
