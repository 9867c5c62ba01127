-- The reads of one level of a formula, and what comes into a register by them.
use Rattle.std.proofs.Common.{◌≡◌, ◌≢◌, ℕ, ◌+◌, ◌<◌, ◌≤◌, List, [], ◌∷◌, ◌++◌, Bool, true, false, cond, eqb, Option, Some, None, ℤ, refl}
use Rattle.std.proofs.Common.{ap, ◌∙◌, arith}
use Rattle.std.specs.Prelude.{nat_eq}
use Rattle.std.proofs.lemmas.Bool.{ne_eqb}
use Rattle.pram_model.specs.Layout.{cell_of}
use Rattle.superstep_machine.specs.Parts.{Registers}
use Rattle.superstep_machine.specs.Answering.{answer, answers}
use Rattle.pram_meaning.specs.Store.{View}
use Rattle.statement_evaluation.specs.Whole.{value}
use Rattle.plain_form.specs.Formulas.{Formula, Zero, Number, Variable, Index, Local, Read, Before, Between, Pair, reads, nesting}
use Rattle.compiled_formulas.specs.Terms.{term}

abbrev pub reads_if : Bool → List (ℕ × Option ℕ) → List (ℕ × Option ℕ)
reads_if true xs = xs
reads_if false xs = []

-- the registers, from t on, and the cells of the reads with l reads nested in their subscripts
abbrev pub level_reads : View → ℕ → Formula → ℕ → List (ℕ × Option ℕ)
level_reads s l Zero t = []
level_reads s l (Number z) t = []
level_reads s l (Variable x) t = []
level_reads s l Index t = []
level_reads s l (Local x) t = []
level_reads s l (Read a f) t =
    level_reads s l f t ++ reads_if (nat_eq (nesting f) l) ((t + reads f, cell_of s.layout a (value s (term f))) ∷ [])
level_reads s l (Before o f) t = level_reads s l f t
level_reads s l (Between o f g) t = level_reads s l f t ++ level_reads s l g (t + reads f)
level_reads s l (Pair f g) t = level_reads s l f t ++ level_reads s l g (t + reads f)

-- ---- what comes into a register

-- the value of a cell, if there is one
abbrev pub came : (ℕ → ℤ) → Option ℕ → ℤ → ℤ
came memory None z = z
came memory (Some c) z = memory c

-- what register d has behind some reads, if it had z before
abbrev pub delivered : (ℕ → ℤ) → ℕ → List (ℕ × Option ℕ) → ℤ → ℤ
delivered memory d [] z = z
delivered memory d ((e, cell) ∷ rest) z = delivered memory d rest (cond (eqb e d) (came memory cell z) z)

module _ (memory : ℕ → ℤ) (d : ℕ) where
  answer_is : (e : ℕ) (cell : Option ℕ) (r : Registers) → answer memory e cell r d ≡ cond (eqb e d) (came memory cell (r d)) (r d)
  answer_is e None r = go (eqb e d)
    where
      go : (b : Bool) → r d ≡ cond b (r d) (r d)
      go true = refl
      go false = refl
  answer_is e (Some c) r = refl

  pub answers_are : (k : ℕ) (xs : List (ℕ × Option ℕ)) (r : Registers) → answers (λ k c. memory c) k xs r d ≡ delivered memory d xs (r d)
  answers_are k [] r = refl
  answers_are k ((e, cell) ∷ xs) r =
      answers_are (k + 1) xs (answer memory e cell r) ∙ ap (delivered memory d xs) (answer_is e cell r)

  pub delivered_join : (xs ys : List (ℕ × Option ℕ)) (z : ℤ) →
      delivered memory d (xs ++ ys) z ≡ delivered memory d ys (delivered memory d xs z)
  delivered_join [] ys z = refl
  delivered_join ((e, cell) ∷ xs) ys z = delivered_join xs ys (cond (eqb e d) (came memory cell z) z)

  -- another register's
  pub delivered_other : (e : ℕ) (cell : Option ℕ) (z : ℤ) → e ≢ d → delivered memory d ((e, cell) ∷ []) z ≡ z
  delivered_other e cell z n = ap (λ b. cond b (came memory cell z) z) (ne_eqb e d n)

  other_if : (b : Bool) (e : ℕ) (cell : Option ℕ) (z : ℤ) → e ≢ d → delivered memory d (reads_if b ((e, cell) ∷ [])) z ≡ z
  other_if true e cell z n = delivered_other e cell z n
  other_if false e cell z n = refl

  module _ (s : View) (l : ℕ) where
    -- a register that is none of the formula's reads
    pub delivered_past : (f : Formula) (t : ℕ) (z : ℤ) → ((x : ℕ) → t ≤ x → x < t + reads f → x ≢ d) →
        delivered memory d (level_reads s l f t) z ≡ z
    delivered_past Zero t z h = refl
    delivered_past (Number y) t z h = refl
    delivered_past (Variable x) t z h = refl
    delivered_past Index t z h = refl
    delivered_past (Local x) t z h = refl
    delivered_past (Read a f) t z h =
        let cell = cell_of s.layout a (value s (term f)) in
        delivered_join (level_reads s l f t) (reads_if (nat_eq (nesting f) l) ((t + reads f, cell) ∷ [])) z
        ∙ other_if (nat_eq (nesting f) l) (t + reads f) cell (delivered memory d (level_reads s l f t) z)
        (h (t + reads f) (omega arith) (omega arith))
        ∙ delivered_past f t z (λ x low high. h x low (omega (arith, high)))
    delivered_past (Before o f) t z h = delivered_past f t z h
    delivered_past (Between o f g) t z h =
        delivered_join (level_reads s l f t) (level_reads s l g (t + reads f)) z
        ∙ delivered_past g (t + reads f) (delivered memory d (level_reads s l f t) z)
        (λ x low high. h x (omega (arith, low)) (omega (arith, high)))
        ∙ delivered_past f t z (λ x low high. h x low (omega (arith, high)))
    delivered_past (Pair f g) t z h =
        delivered_join (level_reads s l f t) (level_reads s l g (t + reads f)) z
        ∙ delivered_past g (t + reads f) (delivered memory d (level_reads s l f t) z)
        (λ x low high. h x (omega (arith, low)) (omega (arith, high)))
        ∙ delivered_past f t z (λ x low high. h x low (omega (arith, high)))
