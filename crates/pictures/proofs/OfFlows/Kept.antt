-- What is written of the items of a list that pass a test, one by one.
use Rattle.std.proofs.Common.{◌≡◌, ◌∙◌, ℕ, ◌+◌, ◌<◌, Bool, true, false, List, ◌∷◌, ◌++◌, ap, cond, drop, get_or, length, map, refl}
use Rattle.std.proofs.Common.{sym}
use Rattle.std.specs.List.{filter, flat_map}
use Rattle.std.specs.Prelude.{if◌then◌else◌}
use Rattle.svg_texts.specs.Shapes.{Shape, Empty, shape_text}
use Rattle.text_out.proofs.Items.{at_item}
use Rattle.pictures.specs.Flows.MarkShapes.{each}
use Rattle.pictures.proofs.OfFlows.EachShape.{joined}

one_kept : {X Y : Type 0} (t : Y → Shape) (m : X → Y) (p : X → Bool) (x : X) (xs : List X) (b : Bool) → b ≡ p x →
    shape_text (each t (map m (filter p (x ∷ xs)))) ≡ shape_text (if b then t (m x) else Empty)
    ++ shape_text (each t (map m (filter p xs)))
one_kept t m p x xs true is = ap (λ c. shape_text (each t (map m (cond c (x ∷ filter p xs) (filter p xs))))) (sym is)
one_kept t m p x xs false is = ap (λ c. shape_text (each t (map m (cond c (x ∷ filter p xs) (filter p xs))))) (sym is)

pub kept_at : {X Y : Type 0} (t : Y → Shape) (m : X → Y) (p : X → Bool) (xs : List X) (i : ℕ) (x : X) → i < length xs →
    x ≡ get_or xs i x → shape_text (each t (map m (filter p (drop i xs)))) ≡
    shape_text (if p x then t (m x) else Empty) ++ shape_text (each t (map m (filter p (drop (i + 1) xs))))
kept_at t m p xs i x within is =
    at_item (λ ys. shape_text (each t (map m (filter p ys)))) xs i x within is ∙ one_kept t m p x (drop (i + 1) xs) (p x) refl

all_kept : {X Y : Type 0} (t : Y → Shape) (g : X → List Y) (p : X → Bool) (x : X) (xs : List X) (b : Bool) → b ≡ p x →
    shape_text (each t (flat_map g (filter p (x ∷ xs)))) ≡ shape_text (if b then each t (g x) else Empty)
    ++ shape_text (each t (flat_map g (filter p xs)))
all_kept t g p x xs true is =
    ap (λ c. shape_text (each t (flat_map g (cond c (x ∷ filter p xs) (filter p xs))))) (sym is)
    ∙ joined t (g x) (flat_map g (filter p xs))
all_kept t g p x xs false is = ap (λ c. shape_text (each t (flat_map g (cond c (x ∷ filter p xs) (filter p xs))))) (sym is)

-- the same of lists
pub all_kept_at : {X Y : Type 0} (t : Y → Shape) (g : X → List Y) (p : X → Bool) (xs : List X) (i : ℕ) (x : X) → i < length xs →
    x ≡ get_or xs i x → shape_text (each t (flat_map g (filter p (drop i xs)))) ≡
    shape_text (if p x then each t (g x) else Empty) ++ shape_text (each t (flat_map g (filter p (drop (i + 1) xs))))
all_kept_at t g p xs i x within is =
    at_item (λ ys. shape_text (each t (flat_map g (filter p ys)))) xs i x within is
    ∙ all_kept t g p x (drop (i + 1) xs) (p x) refl
