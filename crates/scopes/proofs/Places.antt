-- Where the cells of declarations begin.
use Rattle.std.proofs.Common.{◌≡◌, ℕ, zero, suc, ◌+◌, ◌-ℤ◌, nat_abs, true, Option, Some, None, ℤ, pos, List, [], ◌∷◌, length}
use Rattle.std.proofs.Common.{refl, ap, sym, ◌∙◌, arith}
use Rattle.std.proofs.lemmas.Int.{ints}
use Rattle.std.specs.Prelude.{◌≤ℤ◌, int_le, slice_get}
use Rattle.pram_model.specs.Layout.{SharedEntry, cell_at, cell_from, cell_in, size, subscripts}
use Rattle.scopes.specs.Handed.{Placed, placed}

at_low : (f : ℕ) (low high : ℤ) → low ≤ℤ high → cell_at f low high low ≡ Some f
at_low f low high le =
    let a : int_le low low ≡ true = grind (arith, ints) in
    let b : int_le low high ≡ true = grind (arith, ints) in
    let none : f + nat_abs (low -ℤ low) ≡ f = omega (arith, ints) in
    rw (a, b) (ap Some none)

in_low : (f : ℕ) (b : Option (ℤ × ℤ)) (low high : ℤ) → low ≤ℤ high → low ≡ (subscripts b).0 → high ≡ (subscripts b).1 →
    cell_in f b low ≡ Some f
in_low f None low high le l h = ap (cell_at f (pos 0) (pos 0)) l ∙ at_low f (pos 0) (pos 0) (omega (arith, ints))
in_low f (Some (a, b)) low high le l h = ap (cell_at f a b) l ∙ at_low f a b (omega (arith, ints))

-- what range says of a declaration's cells says where they begin
pub placed_at : (s : ℕ) (l : List SharedEntry) (i : ℕ) (e : SharedEntry) (first : ℕ) (low high : ℤ) → slice_get l i ≡ Some e →
    low ≤ℤ high → low ≡ (subscripts e.bounds).0 → high ≡ (subscripts e.bounds).1 → cell_from s l i low ≡ cell_at first low high low →
    slice_get (placed s l) i ≡ Some (record { entry = e; start = first })
placed_at s [] i e first low high at le l h same = absurd (let P : None ≡ Some e → ⊥ = λ k. cc in P at)
placed_at s (x ∷ es) zero e first low high at le l h same =
    let is : x ≡ e = cc at in
    let begins : Some s ≡ Some first =
    sym (ap (λ (y : SharedEntry). cell_in s y.bounds low) is ∙ in_low s e.bounds low high le l h) ∙ same ∙ at_low first low high le in
    let starts : s ≡ first = cc begins in
    λ i. Some (record { entry = is i; start = starts i })
placed_at s (x ∷ es) (suc i) e first low high at le l h same = placed_at (s + size x.bounds) es i e first low high at le l h same

pub placed_entry : (s : ℕ) (l : List SharedEntry) (i : ℕ) (p : Placed) → slice_get (placed s l) i ≡ Some p → slice_get l i ≡ Some p.entry
placed_entry s [] i p at = absurd (let P : None ≡ Some p → ⊥ = λ k. cc in P at)
placed_entry s (x ∷ es) zero p at = let is : (record { entry = x; start = s }) ≡ p = cc at in ap (λ (q : Placed). Some q.entry) is
placed_entry s (x ∷ es) (suc i) p at = placed_entry (s + size x.bounds) es i p at

pub placed_length : (s : ℕ) (l : List SharedEntry) → length (placed s l) ≡ length l
placed_length s [] = refl
placed_length s (x ∷ es) = ap suc (placed_length (s + size x.bounds) es)
