-- Worker 0 without its room for items: all else is as it was.
use Rattle.std.proofs.Common.{◌≡◌, ℕ, zero, suc, List, [], ◌∷◌, length, map, Bool, Some, Vec, ℤ, refl, sym, ap, subst, ◌∙◌}
use Rattle.std.specs.Global.{Global}
use Rattle.std.specs.Prelude.{slice_get, slice_set, slice_index_or, pos}
use Rattle.std.specs.List.{range_with_len}
use Rattle.pram_model.specs.Layout.{total_size}
use Rattle.address_map.specs.Lawful.{Shape}
use Rattle.superstep_instructions.specs.Code.{SuperstepCode}
use Rattle.exchange_counts.specs.Tallies.{is_kept, rows_of}
use Rattle.bsp_machine.specs.declared.counted.CountedWorker.{CountedWorker}
use Rattle.bsp_machine.specs.Workers.{AreKept}
use Rattle.bsp_machine.specs.Ended.{AreWide, cells_of, memory_of, counts_of}
use Rattle.bsp_machine.proofs.ListLemmas.{some_is}

abbrev pub without : CountedWorker → Vec ℤ Global → CountedWorker
without x items = record x { items = items }

module _ (y : CountedWorker) (rest : List CountedWorker) (items : Vec ℤ Global) where
  cells_at : (p : ℕ) → cells_of (slice_get (without y items ∷ rest) p) ≡ cells_of (slice_get (y ∷ rest) p)
  cells_at zero = refl
  cells_at (suc p) = refl

  wide_at : (m : Shape) → AreWide m (y ∷ rest) → AreWide m (without y items ∷ rest)
  wide_at m wide zero x e =
      ap (λ (z : CountedWorker). length z.local.cells) (some_is x (without y items) (sym e)) ∙ wide zero y refl
  wide_at m wide (suc w) x e = wide (suc w) x e

  memory_at : (code : SuperstepCode) (m : Shape) → memory_of code m (without y items ∷ rest) ≡ memory_of code m (y ∷ rest)
  memory_at code m =
      ap (λ (f : ℕ → ℤ). map f (range_with_len 0 (total_size code.layout)))
      (λ i c. slice_index_or (cells_at (m.part c) i) (m.offset c) (pos 0))

  kept_at : (kept : Bool) → AreKept kept (y ∷ rest) → AreKept kept (without y items ∷ rest)
  kept_at kept all zero x e = ap (λ (z : CountedWorker). is_kept z.counts) (some_is x (without y items) (sym e)) ∙ all zero y refl
  kept_at kept all (suc w) x e = all (suc w) x e

module _ (x : CountedWorker) (items : Vec ℤ Global) where
  pub first_left : (xs : List CountedWorker) → slice_get xs 0 ≡ Some x → slice_get (slice_set xs 0 (without x items)) 0 ≡ Some
      (without x items)
  first_left [] e = absurd (cc e)
  first_left (y ∷ xs) e = refl

  pub wide_left : (m : Shape) (xs : List CountedWorker) → slice_get xs 0 ≡ Some x → AreWide m xs →
      AreWide m (slice_set xs 0 (without x items))
  wide_left m [] e wide = absurd (cc e)
  wide_left m (y ∷ xs) e wide =
      subst (λ (z : CountedWorker). AreWide m (without z items ∷ xs)) (some_is y x e) (wide_at y xs items m wide)

  pub memory_left : (code : SuperstepCode) (m : Shape) (xs : List CountedWorker) → slice_get xs 0 ≡ Some x →
      memory_of code m (slice_set xs 0 (without x items)) ≡ memory_of code m xs
  memory_left code m [] e = absurd (cc e)
  memory_left code m (y ∷ xs) e =
      ap (λ (z : CountedWorker). memory_of code m (without z items ∷ xs)) (some_is x y (sym e)) ∙ memory_at y xs items code m

  pub counts_left : (xs : List CountedWorker) → slice_get xs 0 ≡ Some x → counts_of (slice_set xs 0 (without x items)) ≡ counts_of xs
  counts_left [] e = absurd (cc e)
  counts_left (y ∷ xs) e = ap (λ (z : CountedWorker). rows_of z.counts ∷ counts_of xs) (some_is x y (sym e))

  pub kept_left : (kept : Bool) (xs : List CountedWorker) → slice_get xs 0 ≡ Some x → AreKept kept xs →
      AreKept kept (slice_set xs 0 (without x items))
  kept_left kept [] e all = absurd (cc e)
  kept_left kept (y ∷ xs) e all =
      subst (λ (z : CountedWorker). AreKept kept (without z items ∷ xs)) (some_is y x e) (kept_at y xs items kept all)

  pub kept_before : (kept : Bool) (xs : List CountedWorker) → slice_get xs 0 ≡ Some x → AreKept kept (slice_set xs 0 (without x items)) →
      AreKept kept xs
  kept_before kept [] e all w z at = absurd (cc e)
  kept_before kept (y ∷ xs) e all zero z at =
      ap (λ (q : CountedWorker). is_kept q.counts) (some_is z y (sym at) ∙ some_is y x e) ∙ all zero (without x items) refl
  kept_before kept (y ∷ xs) e all (suc w) z at = all (suc w) z at

-- The list that is left.
module _ (xs ys : List CountedWorker) (x : CountedWorker) (items : Vec ℤ Global) (here : slice_get xs 0 ≡ Some x)
    (left : ys ≡ slice_set xs 0 (without x items)) where
  pub there : slice_get ys 0 ≡ Some (without x items)
  there = ap (λ zs. slice_get zs 0) left ∙ first_left x items xs here

  pub first_is : (y : CountedWorker) → slice_get ys 0 ≡ Some y → y ≡ without x items
  first_is y at = some_is y (without x items) (sym at ∙ there)

  pub wide_is : (m : Shape) → AreWide m xs → AreWide m ys
  wide_is m wide = subst (AreWide m) (sym left) (wide_left x items m xs here wide)

  pub memory_is : (code : SuperstepCode) (m : Shape) → memory_of code m ys ≡ memory_of code m xs
  memory_is code m = ap (memory_of code m) left ∙ memory_left x items code m xs here

  pub counts_is : counts_of ys ≡ counts_of xs
  counts_is = ap counts_of left ∙ counts_left x items xs here

  pub kept_is : (kept : Bool) → AreKept kept xs → AreKept kept ys
  kept_is kept all = subst (AreKept kept) (sym left) (kept_left x items kept xs here all)

  pub kept_was : (kept : Bool) → AreKept kept ys → AreKept kept xs
  kept_was kept all = kept_before x items kept xs here (subst (AreKept kept) left all)
