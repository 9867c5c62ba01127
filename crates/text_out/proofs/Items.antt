-- A list from one of its items on.
use Rattle.std.proofs.Common.{◌≡◌, ◌∙◌, ℕ, ◌+◌, ◌<◌, List, ◌∷◌, ap, drop, get_or, length, sym}
use Rattle.std.proofs.lemmas.List.{at_drop_more}

-- what is made of the list from the item x on
pub at_item : {X Y : Type 0} (F : List X → Y) (xs : List X) (i : ℕ) (x : X) → i < length xs → x ≡ get_or xs i x →
    F (drop i xs) ≡ F (x ∷ drop (i + 1) xs)
at_item F xs i x within is = at_drop_more F xs i x within ∙ ap (λ y. F (y ∷ drop (i + 1) xs)) (sym is)
