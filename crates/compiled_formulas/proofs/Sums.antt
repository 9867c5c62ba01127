-- The keys of active processors, summed over the range.
use Rattle.std.proofs.Common.{◌≡◌, ℕ, Bool, true, false, if◌then◌else◌, Option, None, refl, sym, ◌∙◌}
use Rattle.std.specs.List.{range_with_len}
use Rattle.pram_values.specs.Total.{total}
use Rattle.pram_values.proofs.Totals.{total_same, total_none, total_both}
use Rattle.superstep_machine.specs.declared.key.Key.{Key}
use Rattle.superstep_machine.specs.Keys.{least}
use Rattle.superstep_machine.proofs.KeyOrder.{keys_are_monoid}

-- the keys of processors, where each is given for those that are active
abbrev pub sum_of : ℕ → (ℕ → Bool) → (ℕ → Option Key) → Option Key
sum_of width active key = total None least (λ v. if active v then key v else None) (range_with_len 0 width)

if_both : (b : Bool) (x y : Option Key) → least (if b then x else None) (if b then y else None) ≡ (if b then least x y else None)
if_both true x y = refl
if_both false x y = refl

pub if_none : (b : Bool) → (if b then (let x : Option Key = None in x) else None) ≡ None
if_none true = refl
if_none false = refl

pub unless_both : (b : Bool) (x y : Option Key) → least (if b then None else x) (if b then None else y) ≡ (if b then None else least x y)
unless_both true x y = refl
unless_both false x y = refl

pub sums_join : (width : ℕ) (active : ℕ → Bool) (x y : ℕ → Option Key) →
    least (sum_of width active x) (sum_of width active y) ≡ sum_of width active (λ v. least (x v) (y v))
sums_join width active x y =
    sym (total_both None least keys_are_monoid (λ v. if active v then x v else None) (λ v. if active v then y v else None)
    (range_with_len 0 width))
    ∙ total_same None least (λ v. least (if active v then x v else None) (if active v then y v else None))
    (λ v. if active v then least (x v) (y v) else None) (λ v. if_both (active v) (x v) (y v)) (range_with_len 0 width)

pub sum_none : (width : ℕ) (active : ℕ → Bool) → sum_of width active (λ v. None) ≡ None
sum_none width active =
    total_none None least keys_are_monoid (λ v. if active v then None else None) (λ v. if_none (active v)) (range_with_len 0 width)
