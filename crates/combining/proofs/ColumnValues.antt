-- Values that have come to the first processors of a column, and to one more.
use Rattle.std.proofs.Common.{◌≡◌, ℕ, ℤ, ◌+◌, ◌<◌, List, Option, Some, None, length, get_or, set, pos, sym, ap, ◌∙◌, arith, ⊎_elim}
use Rattle.std.proofs.lemmas.List.{get_or-set_same, get_or-set_other}
use Rattle.std.proofs.lemmas.Bool.{cases_lt}
use Rattle.combining.specs.Columns.{HaveComeTo}

abbrev inside : Option ℕ → ℕ
inside None = 0
inside (Some x) = x

module _ (value : ℕ → ℤ) (cells : List (Option ℕ)) (values : List ℤ) (n : ℕ) (known : HaveComeTo n value cells values) where
  pub come_more : (cell : ℕ) (v : ℤ) → get_or cells n None ≡ Some cell → v ≡ value cell → n < length values →
      HaveComeTo (n + 1) value cells (set values n v)
  come_more cell v is here room k other l e =
      ⊎_elim
      (λ lt. get_or-set_other values n k v (pos 0) (λ q. omega (arith, q, lt)) ∙ known k other lt e)
      (λ ge.
      let q : k ≡ n = omega (arith, l, ge) in
      let same : cell ≡ other = ap inside (sym is ∙ ap (λ i. get_or cells i None) (sym q) ∙ e) in
      ap (λ i. get_or (set values n v) i (pos 0)) q ∙ get_or-set_same values n v (pos 0) room ∙ here ∙ ap value same)
      (cases_lt k n)

  pub come_set : (v : ℤ) → ((cell : ℕ) → get_or cells n None ≡ Some cell → v ≡ value cell) → n < length values →
      HaveComeTo (n + 1) value cells (set values n v)
  come_set v here room k other l e =
      ⊎_elim
      (λ lt. get_or-set_other values n k v (pos 0) (λ q. omega (arith, q, lt)) ∙ known k other lt e)
      (λ ge.
      let q : k ≡ n = omega (arith, l, ge) in
      ap (λ i. get_or (set values n v) i (pos 0)) q ∙ get_or-set_same values n v (pos 0) room
      ∙ here other (ap (λ i. get_or cells i None) (sym q) ∙ e))
      (cases_lt k n)

  pub come_none : ((cell : ℕ) → get_or cells n None ≡ Some cell → ⊥) → HaveComeTo (n + 1) value cells values
  come_none none k other l e =
      ⊎_elim
      (λ lt. known k other lt e)
      (λ ge. let q : k ≡ n = omega (arith, l, ge) in absurd (none other (ap (λ i. get_or cells i None) (sym q) ∙ e)))
      (cases_lt k n)
