-- One value more of each of so many places.
use Rattle.std.proofs.Common.{◌≡◌, ◌∙◌, ◌+◌, ◌++◌, ◌∷◌, [], ℕ, ℤ, List, map, ap, sym, append_assoc, arith}
use Rattle.std.proofs.lemmas.List.FromFn.{map-range_with_len_more}
use Rattle.drawn_kinds.specs.Orders.{places}

pub push_more : (f : ℕ → ℤ) (n : ℕ) (found : List ℤ) (value : ℤ) → value ≡ f n → found ≡ map f (places n) →
    found ++ value ∷ [] ≡ map f (places (n + 1))
push_more f n found value is before =
    ap (λ l. l ++ value ∷ []) before ∙ ap (λ v. map f (places n) ++ v ∷ []) is ∙ sym (map-range_with_len_more f 0 n n (omega arith))

-- the same behind others
pub push_behind : (front : List ℤ) (f : ℕ → ℤ) (n : ℕ) (found : List ℤ) (value : ℤ) → value ≡ f n → found ≡ front ++ map f (places n) →
    found ++ value ∷ [] ≡ front ++ map f (places (n + 1))
push_behind front f n found value is before =
    ap (λ l. l ++ value ∷ []) before ∙ append_assoc front (map f (places n)) (value ∷ [])
    ∙ ap (λ l. front ++ l) (ap (λ v. map f (places n) ++ v ∷ []) is ∙ sym (map-range_with_len_more f 0 n n (omega arith)))
