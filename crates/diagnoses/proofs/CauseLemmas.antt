-- What is said of causes, in pieces.
use Rattle.std.proofs.Common.{◌≡◌, ◌∙◌, ◌<◌, ◌≤◌, ◌+◌, ◌++◌, ◌∷◌, [], List, ℕ, zero, suc, ℤ, ap, arith, codes, drop, get_or, length, refl}
use Rattle.std.proofs.Common.{subst, sym}
use Rattle.std.specs.Prelude.{IfSome, Option, Some, None, slice_get}
use Rattle.std.proofs.lemmas.List.{drop_more}
use Rattle.pram_model.specs.Layout.{SharedEntry, subscripts}
use Rattle.write_rules.specs.declared.write.Write.{Write}
use Rattle.diagnoses.specs.FaultTexts.{beyond_text, outside_text, subscript_text, write_text, writes_text}

-- the write at i behind a comma, and those behind it
pub others_at : (ws : List Write) (i : ℕ) (w : Write) → i < length ws → w ≡ get_or ws i w →
    writes_text (codes ",") (drop i ws) ≡ write_text (codes ",") w ++ writes_text (codes ",") (drop (i + 1) ws)
others_at ws i w below is =
    ap (writes_text (codes ",")) (drop_more ws i w below)
    ∙ ap (λ w. write_text (codes ",") w ++ writes_text (codes ",") (drop (i + 1) ws)) (sym is)

-- what holds of the text by the name and the bounds holds of it by the declaration that has them
pub subscript_told : (P : List ℕ → Type 0) (o : Option SharedEntry) (name : List ℕ) (z low high : ℤ) → IfSome o (λ e. name ≡ e.name) →
    IfSome o (λ e. (low ≡ (subscripts e.bounds).0) × (high ≡ (subscripts e.bounds).1)) → P (outside_text name z low high) →
    IfSome o (λ e. P (subscript_text z e))
subscript_told P None name z low high n b h = tt
subscript_told P (Some e) name z low high n b h =
    subst P
    (ap (λ name. outside_text name z low high) n ∙ ap (λ low. outside_text e.name z low high) b.0
    ∙ ap (λ high. outside_text e.name z (subscripts e.bounds).0 high) b.1) h

-- what holds of the text by the declaration of a number holds of it by the number
pub beyond_here : (P : List ℕ → Type 0) (layout : List SharedEntry) (i : ℕ) (z : ℤ) → i < length layout →
    IfSome (slice_get layout i) (λ e. P (subscript_text z e)) → P (beyond_text z (slice_get layout i))
beyond_here P [] i z below h = absurd (omega (arith, below))
beyond_here P (e ∷ layout) zero z below h = h
beyond_here P (e ∷ layout) (suc i) z below h = beyond_here P layout i z (omega (arith, below)) h

-- there is no declaration of that number
pub none_beyond : (layout : List SharedEntry) (i : ℕ) (z : ℤ) → length layout ≤ i →
    beyond_text z (slice_get layout i) ≡ codes "a subscript is outside the bounds of its array\n"
none_beyond [] i z h = refl
none_beyond (e ∷ layout) zero z h = absurd (omega (arith, h))
none_beyond (e ∷ layout) (suc i) z h = none_beyond layout i z (omega (arith, h))
