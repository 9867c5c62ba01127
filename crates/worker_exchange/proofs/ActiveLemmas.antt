-- Some processor is active where the set of the active ones isn't empty.
use Rattle.std.proofs.Common.{◌≡◌, ℕ, suc, List, [], ◌∷◌, map, length, Bool, true, false, not, refl, sym, ap, ◌∙◌, arith}
use Rattle.std.specs.Prelude.{◌==◌, ◌||◌, if◌then◌else◌}
use Rattle.std.specs.List.{list_any, filter, range_with_len}
use Rattle.std.proofs.lemmas.Bool.Decides.{nat_tests}
use Rattle.superstep_machine.specs.Steps.{under, is_active}
use Rattle.worker_bank.specs.Masks.{masks_of}
use Rattle.worker_steps.specs.declared.worker.WorkerState.{WorkerState}
use Rattle.worker_steps.specs.Shown.{part_in}
use Rattle.worker_exchange.specs.MessagesWritten.{any_active}

any_mapped : {A B : Type 0} (p : B → Bool) (f : A → B) (xs : List A) → list_any p (map f xs) ≡ list_any (λ x. p (f x)) xs
any_mapped p f [] = refl
any_mapped p f (x ∷ xs) = ap (λ b. p (f x) || b) (any_mapped p f xs)

nonzero : (n : ℕ) → not (suc n == 0) ≡ true
nonzero n = grind (arith, nat_tests)

some_kept : {A : Type 0} (p : A → Bool) (xs : List A) → not (length (filter p xs) == 0) ≡ list_any p xs
some_kept p [] = refl
some_kept p (x ∷ xs) = go (p x) (some_kept p xs)
  where
    go : (b : Bool) → not (length (filter p xs) == 0) ≡ list_any p xs →
        not (length (if b then x ∷ filter p xs else filter p xs) == 0) ≡ (b || list_any p xs)
    go true rest = nonzero (length (filter p xs))
    go false rest = rest

pub active_is : (x : WorkerState) → not (length (filter (λ j. under (masks_of x.bank.masks j)) (range_with_len 0 x.bank.masks.many)) == 0)
    ≡ any_active x
active_is x =
    some_kept (λ j. under (masks_of x.bank.masks j)) (range_with_len 0 x.bank.masks.many)
    ∙ sym (any_mapped is_active (part_in x) (range_with_len 0 x.bank.masks.many))
