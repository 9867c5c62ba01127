-- Levels are indented one by one.
use Rattle.std.proofs.Common.{◌≡◌, ℕ, zero, suc, ◌+◌, List, [], ◌∷◌, ◌++◌, refl, sym, ap, ◌∙◌, append_assoc, add-one}
use Rattle.laid_out_texts.specs.Layout.{indent}

indent-more : (n : ℕ) → indent n ++ 32 ∷ 32 ∷ [] ≡ indent (suc n)
indent-more zero = refl
indent-more (suc n) = ap (λ x. 32 ∷ 32 ∷ x) (indent-more n)

pub indent-next : (to before now : List ℕ) (n : ℕ) → now ≡ to ++ 32 ∷ 32 ∷ [] → to ≡ before ++ indent n → now ≡ before ++ indent (n + 1)
indent-next to before now n is so =
    is ∙ ap (λ x. x ++ 32 ∷ 32 ∷ []) so ∙ append_assoc before (indent n) (32 ∷ 32 ∷ [])
    ∙ ap (λ x. before ++ x) (indent-more n ∙ ap indent (sym (add-one n)))
