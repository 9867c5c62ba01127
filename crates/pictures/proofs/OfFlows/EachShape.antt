-- Shapes of items, one behind the other.
use Rattle.std.proofs.Common.{◌≡◌, ◌∙◌, inl, inr, ℕ, zero, suc, ◌<◌, List, [], ◌∷◌, ◌++◌, ap, append_assoc, arith, get_or, length, map}
use Rattle.std.proofs.Common.{refl, subst, sym}
use Rattle.std.specs.List.{Contains}
use Rattle.svg_texts.specs.Shapes.{Shape, Over, IsIn, shape_text}
use Rattle.svg_texts.proofs.Inside.{itself}
use Rattle.pictures.specs.Flows.MarkShapes.{each}

-- ---- their texts

pub joined : {X : Type 0} (t : X → Shape) (xs ys : List X) → shape_text (each t (xs ++ ys)) ≡ shape_text (each t xs)
    ++ shape_text (each t ys)
joined t [] ys = refl
joined t (x ∷ xs) ys =
    ap (λ l. shape_text (t x) ++ l) (joined t xs ys)
    ∙ sym (append_assoc (shape_text (t x)) (shape_text (each t xs)) (shape_text (each t ys)))

pub each_mapped : {X Y : Type 0} (t : Y → Shape) (f : X → Y) (xs : List X) → each t (map f xs) ≡ each (λ x. t (f x)) xs
each_mapped t f [] = refl
each_mapped t f (x ∷ xs) = ap (λ s. Over (t (f x)) s) (each_mapped t f xs)

-- ---- what is in them

each_has_at : {X : Type 0} (t : X → Shape) (xs : List X) (k : ℕ) (x : X) → k < length xs → get_or xs k x ≡ x → IsIn (t x) (each t xs)
each_has_at t [] k x within is = absurd (omega (arith, within))
each_has_at t (y ∷ ys) zero x within is =
    subst (λ z. IsIn (t x) (Over (t z) (each t ys))) (sym is) (inr (inl (itself (t x))))
each_has_at t (y ∷ ys) (suc k) x within is = inr (inr (each_has_at t ys k x (omega (arith, within)) is))

pub each_has : {X : Type 0} (t : X → Shape) (xs : List X) (x : X) → Contains xs x → IsIn (t x) (each t xs)
each_has t xs x one = each_has_at t xs one.0 x one.1 one.2
