-- The declaration of a number, where there is one.
use Rattle.std.proofs.Common.{◌≡◌, ◌<◌, ◌≤◌, ℕ, zero, suc, ℤ, List, [], ◌∷◌, arith, length, refl, ap, ◌∙◌}
use Rattle.std.specs.Prelude.{IfSome, OnOk, Result, Ok, Err, slice_get}
use Rattle.serde_json.specs.Data.{Members}
use Rattle.json_texts.specs.Facts.{with_fields}
use Rattle.pram_model.specs.Layout.{SharedEntry, subscripts}
use Rattle.json_texts.specs.CauseFacts.{array_fields, beyond_fields}

-- what is known of the declaration by its number, in the fields
pub told_beyond : (layout : List SharedEntry) (i : ℕ) (name : List ℕ) (z low high : ℤ) (old new : Members) → i < length layout →
    IfSome (slice_get layout i) (λ e. name ≡ e.name) →
    IfSome (slice_get layout i) (λ e. (low ≡ (subscripts e.bounds).0) × (high ≡ (subscripts e.bounds).1)) →
    new ≡ with_fields (array_fields name z low high) old → new ≡ with_fields (beyond_fields z (slice_get layout i)) old
told_beyond [] i name z low high old new h n b e = absurd (omega (arith, h))
told_beyond (x ∷ layout) zero name z low high old new h n b e =
    e ∙ ap (λ name. with_fields (array_fields name z low high) old) n ∙ ap (λ low. with_fields (array_fields x.name z low high) old) b.0
    ∙ ap (λ high. with_fields (array_fields x.name z (subscripts x.bounds).0 high) old) b.1
told_beyond (x ∷ layout) (suc i) name z low high old new h n b e =
    told_beyond layout i name z low high old new (omega (arith, h)) n b e

pub none_beyond : (layout : List SharedEntry) (i : ℕ) (z : ℤ) (old : Members) → length layout ≤ i →
    old ≡ with_fields (beyond_fields z (slice_get layout i)) old
none_beyond [] i z old h = refl
none_beyond (x ∷ layout) zero z old h = absurd (omega (arith, h))
none_beyond (x ∷ layout) (suc i) z old h = none_beyond layout i z old (omega (arith, h))

-- what follows from what was put
pub if_put : {E : Type 0} (r : Result (Unit {0}) E) (P Q : Type 0) → (P → Q) → OnOk r P → OnOk r Q
if_put (Ok u) P Q f h = f h
if_put (Err e) P Q f h = tt
