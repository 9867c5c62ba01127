-- Formulas that may be told, and the equations of their terms.
use Rattle.std.proofs.lemmas.Bool.{cases_eq}
use Rattle.std.proofs.Common.{◌≡◌, ◌≢◌, ◌⊎◌, inl, inr, ℕ, ◌+◌, ◌*◌, ◌<◌, ◌≤◌, List, All, ℤ, pos, negsuc, ◌+ℤ◌}
use Rattle.std.proofs.Common.{get_or, refl, sym, ap, ◌∙◌, arith, subst, Option, Some, None, Bool, true, false, ◌==◌}
use Rattle.std.specs.Prelude.{MatchOption, if◌then◌else◌, unsigned_abs}
use Rattle.std.proofs.lemmas.Int.{ints}
use Rattle.std.proofs.lemmas.Bool.Decides.{nat_tests}
use Rattle.sweeps.specs.declared.equation.Equation.{Equation}
use Rattle.sweeps.specs.declared.formula.Formula.{Formula}
use Rattle.sweeps.specs.declared.row.Row.{Row}
use Rattle.sweeps.specs.declared.term.Term.TheVariants.{Constant, Logarithm, Linear, Linearithmic, Square, Cube}
use Rattle.sweeps.specs.Choices.{chosen, chosen_count}
use Rattle.sweeps.specs.Echelons.{IsDependent, IsOfChoice, SolveFirst, Solves}
use Rattle.sweeps.specs.Equations.{Vector, dot, row_entry, vector}
use Rattle.sweeps.specs.Formulas.{IsLogFor, counted, term_count, value}
use Rattle.sweeps.specs.Solutions.{HasSmall}
use Rattle.sweeps.specs.Tables.{Fits, HasTermsOf, IsCandidate, IsDetermined, IsNotAfter, term_set}
use Rattle.sweeps.proofs.Eliminations.{times_nothing}
use Rattle.sweeps.proofs.Ring.{add_mul, mul_comm}
use Rattle.sweeps.proofs.Sizes.{below_6}
use Rattle.sweeps.proofs.Solved.{fits_solves}

-- ---- the terms of a formula are those of its set

pub counted_most : (c : ℤ) → counted c ≤ 1
counted_most c = by (unsigned_abs c == 0)
  where
    by : (t : Bool) → (if t then 0 else 1) ≤ 1
    by true = omega arith
    by false = omega arith

nothing : (c : ℤ) → unsigned_abs c ≡ 0 → c ≡ pos 0
nothing (pos n) is = ap pos is
nothing (negsuc n) is = absurd (omega (arith, is))

pub counted_none : (c : ℤ) → counted c ≡ 0 → c ≡ pos 0
counted_none c is = by (unsigned_abs c == 0) refl is
  where
    by : (t : Bool) → t ≡ (unsigned_abs c == 0) → ◌≡◌ {A = ℕ} (if t then 0 else 1) 0 → c ≡ pos 0
    by true same h = nothing c (grind (arith, nat_tests))
    by false same h = absurd (omega (arith, h))

bits_are : (a b c d e f : ℕ) → a ≤ 1 → b ≤ 1 → c ≤ 1 → d ≤ 1 → e ≤ 1 → f ≤ 1 →
    (chosen (a + 2 * b + 4 * c + 8 * d + 16 * e + 32 * f) 0 ≡ a) × (chosen (a + 2 * b + 4 * c + 8 * d + 16 * e + 32 * f) 1 ≡ b)
    × (chosen (a + 2 * b + 4 * c + 8 * d + 16 * e + 32 * f) 2 ≡ c) × (chosen (a + 2 * b + 4 * c + 8 * d + 16 * e + 32 * f) 3 ≡ d)
    × (chosen (a + 2 * b + 4 * c + 8 * d + 16 * e + 32 * f) 4 ≡ e)
    × (chosen (a + 2 * b + 4 * c + 8 * d + 16 * e + 32 * f) 5 ≡ f)
bits_are a b c d e f la lb lc ld le lf = (
  omega (arith, la),
  omega (arith, la, lb),
  omega (arith, la, lb, lc),
  omega (arith, la, lb, lc, ld),
  omega (arith, la, lb, lc, ld, le),
  omega (arith, la, lb, lc, ld, le, lf),
)

pub chosen_is : (g : Formula) (j : ℕ) → j < 6 → chosen (term_set g) j ≡ counted (vector g j)
chosen_is g =
    let b = bits_are (counted g.constant) (counted g.logarithm) (counted g.linear) (counted g.linearithmic) (counted g.square)
    (counted g.cube)
    (counted_most g.constant) (counted_most g.logarithm) (counted_most g.linear) (counted_most g.linearithmic) (counted_most g.square)
    (counted_most g.cube) in
    below_6 (λ j. chosen (term_set g) j ≡ counted (vector g j)) b.0 b.1 b.2 b.3 b.4 b.5

pub of_terms : (g : Formula) (j : ℕ) → j < 6 → chosen (term_set g) j ≡ 0 → vector g j ≡ pos 0
of_terms g j less none = counted_none (vector g j) (sym (chosen_is g j less) ∙ none)

no_term : (g : Formula) (j : ℕ) → j < 6 → vector g j ≡ pos 0 → chosen (term_set g) j ≡ 0
no_term g j less none = chosen_is g j less ∙ ap counted none

-- ---- where columns depend on one another no formula of them is determined

abbrev moved : Formula → Vector → Formula
moved g z = record {
  constant = g.constant +ℤ z 0;
  logarithm = g.logarithm +ℤ z 1;
  linear = g.linear +ℤ z 2;
  linearithmic = g.linearithmic +ℤ z 3;
  square = g.square +ℤ z 4;
  cube = g.cube +ℤ z 5;
}

moved_value : (g : Formula) (z : Vector) (n log v : ℕ) → pos v ≡ value g n log → dot 7 (row_entry n log v) z ≡ pos 0 → z 6 ≡ pos 0 →
    pos v ≡ value (moved g z) n log
moved_value g z n log v is none last =
    let a = mul_comm (pos log) (z 1) in
    let b = mul_comm (pos n) (z 2) in
    let c = mul_comm (pos (n * log)) (z 3) in
    let d = mul_comm (pos (n * n)) (z 4) in
    let k = mul_comm (pos (n * n * n)) (z 5) in
    let e = times_nothing (pos v) (z 6) last in
    let f = add_mul g.logarithm (z 1) (pos log) in
    let h = add_mul g.linear (z 2) (pos n) in
    let i = add_mul g.linearithmic (z 3) (pos (n * log)) in
    let j = add_mul g.square (z 4) (pos (n * n)) in
    let l = add_mul g.cube (z 5) (pos (n * n * n)) in
    omega (arith, ints, is, none, a, b, c, d, e, f, h, i, j, k, l)

pub not_determined : (table : List Row) (set : ℕ) → IsDependent table set → (g : Formula) → IsCandidate g table → term_set g ≢ set
not_determined table set d g candidate same =
    d.some (by_column d.column d.within (candidate.determined (moved g z) terms fits))
  where
    z : Vector
    z = d.numbers

    none : (j : ℕ) → j < 6 → vector g j ≡ pos 0 → z j ≡ pos 0
    none j less gone = d.of_choice j less (subst (λ s. chosen s j ≡ 0) same (no_term g j less gone))

    both : (a b : ℤ) → a ≡ pos 0 → b ≡ pos 0 → a +ℤ b ≡ pos 0
    both a b x y = omega (arith, ints, x, y)

    terms : HasTermsOf g (moved g z)
    terms Constant gone = both g.constant (z 0) gone (none 0 (omega arith) gone)
    terms Logarithm gone = both g.logarithm (z 1) gone (none 1 (omega arith) gone)
    terms Linear gone = both g.linear (z 2) gone (none 2 (omega arith) gone)
    terms Linearithmic gone = both g.linearithmic (z 3) gone (none 3 (omega arith) gone)
    terms Square gone = both g.square (z 4) gone (none 4 (omega arith) gone)
    terms Cube gone = both g.cube (z 5) gone (none 5 (omega arith) gone)

    fits : Fits (moved g z) table
    fits k row less =
        let v = candidate.explains.fits k row less in
        record {
          log = v.log;
          is_log = moved_log v.log v.is_log;
          is = moved_value g z _ v.log _ v.is (d.rows k row less v.log (apart_log v.log v.is_log)) d.last;
        }
      where
        moved_log : (log : ℕ) → IsLogFor g.logarithm g.linearithmic (get_or table k row).size log →
            IsLogFor (g.logarithm +ℤ z 1) (g.linearithmic +ℤ z 3) (get_or table k row).size log
        moved_log log (inl is) = inl is
        moved_log log (inr gone) = inr (terms Logarithm gone.0, terms Linearithmic gone.1)

        apart_log : (log : ℕ) → IsLogFor g.logarithm g.linearithmic (get_or table k row).size log →
            IsLogFor (z 1) (z 3) (get_or table k row).size log
        apart_log log (inl is) = inl is
        apart_log log (inr gone) = inr (none 1 (omega arith) gone.0, none 3 (omega arith) gone.1)

    left : (a b : ℤ) → a +ℤ b ≡ a → b ≡ pos 0
    left a b x = omega (arith, ints, x)

    by_column : (column : ℕ) → column < 6 → moved g z ≡ g → z column ≡ pos 0
    by_column =
        below_6 (λ column. moved g z ≡ g → z column ≡ pos 0) (λ e. left g.constant (z 0) (ap (λ (f : Formula). f.constant) e))
        (λ e. left g.logarithm (z 1) (ap (λ (f : Formula). f.logarithm) e)) (λ e. left g.linear (z 2) (ap (λ (f : Formula). f.linear) e))
        (λ e. left g.linearithmic (z 3) (ap (λ (f : Formula). f.linearithmic) e))
        (λ e. left g.square (z 4) (ap (λ (f : Formula). f.square) e)) (λ e. left g.cube (z 5) (ap (λ (f : Formula). f.cube) e))

-- what solves the equations is what fits
pub fitting : (table : List Row) (set : ℕ) (ps : List Equation) →
    ((z : Vector) → All (Solves z) table → IsOfChoice set z → SolveFirst ps 6 z) → (o : Option Formula) →
    MatchOption o ((g : Formula) → HasSmall g → ¬ SolveFirst ps 6 (vector g)) (λ f. (g : Formula) → SolveFirst ps 6 (vector g) → f ≡ g) →
    MatchOption o ((g : Formula) → IsCandidate g table → term_set g ≢ set)
    (λ f. (g : Formula) → Fits g table → IsOfChoice set (vector g) → f ≡ g)
fitting table set ps solve None none = λ g candidate same.
    none g candidate.small (solve (vector g) (fits_solves g table candidate.explains.fits)
    (λ j less out. of_terms g j less (subst (λ s. chosen s j ≡ 0) (sym same) out)))
fitting table set ps solve (Some f) is = λ g fits of_choice. is g (solve (vector g) (fits_solves g table fits) of_choice)

-- ---- sets and counts

pub count_is : (g : Formula) → chosen_count (term_set g) ≡ term_count g
count_is g =
    let a = chosen_is g 0 (omega arith) in
    let b = chosen_is g 1 (omega arith) in
    let c = chosen_is g 2 (omega arith) in
    let d = chosen_is g 3 (omega arith) in
    let e = chosen_is g 4 (omega arith) in
    let f = chosen_is g 5 (omega arith) in
    omega (arith, a, b, c, d, e, f)

pub set_below : (g : Formula) → term_set g < 64
set_below g =
    let a = counted_most g.constant in
    let b = counted_most g.logarithm in
    let c = counted_most g.linear in
    let d = counted_most g.linearithmic in
    let e = counted_most g.square in
    let f = counted_most g.cube in
    omega (arith, a, b, c, d, e, f)

pub count_below : (g : Formula) → term_count g ≤ 6
count_below g =
    let a = counted_most g.constant in
    let b = counted_most g.logarithm in
    let c = counted_most g.linear in
    let d = counted_most g.linearithmic in
    let e = counted_most g.square in
    let f = counted_most g.cube in
    omega (arith, a, b, c, d, e, f)

-- the formula of some terms is the only one
pub only : (table : List Row) (set : ℕ) (f : Formula) →
    ((g : Formula) → Fits g table → IsOfChoice set (vector g) → f ≡ g) → term_set f ≡ set → IsDetermined f table
only table set f unique is g terms fits =
    sym (unique g fits (λ j less none. has j less (of_terms f j less (subst (λ s. chosen s j ≡ 0) (sym is) none))))
  where
    has : (j : ℕ) → j < 6 → vector f j ≡ pos 0 → vector g j ≡ pos 0
    has = below_6 (λ j. vector f j ≡ pos 0 → vector g j ≡ pos 0) (terms Constant) (terms Logarithm) (terms Linear) (terms Linearithmic)
        (terms Square) (terms Cube)

pub same_as : (table : List Row) (set : ℕ) (f g : Formula) →
    ((g : Formula) → Fits g table → IsOfChoice set (vector g) → f ≡ g) → IsCandidate g table → term_set g ≡ set → f ≡ g
same_as table set f g unique candidate is =
    unique g candidate.explains.fits (λ j less none. of_terms g j less (subst (λ s. chosen s j ≡ 0) (sym is) none))

-- ---- the order

pub not_after : (f g : Formula) (count : ℕ) → term_count f ≡ count → count ≤ term_count g →
    (term_count g ≡ count → term_set f ≤ term_set g) → IsNotAfter f g
not_after f g count is least first = by (cases_eq (term_count g) count)
  where
    by : (term_count g ≡ count) ⊎ (term_count g ≡ count → ⊥) → IsNotAfter f g
    by (inl same) = inr (is ∙ sym same, first same)
    by (inr differ) = inl (omega (arith, is, least, differ))
