-- Shapes that are in others.
use Rattle.std.proofs.Common.{inl, inr, refl, subst}
use Rattle.svg_texts.specs.Shapes.{Words, Shape, Empty, Drawn, Through, Text, Titled, Over, IsIn}

-- each is in itself
pub itself : (s : Shape) → IsIn s s
itself Empty = refl
itself (Drawn f p) = refl
itself (Through ps) = refl
itself (Text x y l w) = refl
itself (Titled w s) = inl refl
itself (Over a b) = inl refl

-- what is in one of two, or in one that has a title
pub in_first : (s a b : Shape) → IsIn s a → IsIn s (Over a b)
in_first s a b f = inr (inl f)

pub in_second : (s a b : Shape) → IsIn s b → IsIn s (Over a b)
in_second s a b f = inr (inr f)

pub in_titled : (s : Shape) (w : Words) (t : Shape) → IsIn s t → IsIn s (Titled w t)
in_titled s w t f = inr f

-- what is in a part is in the whole
pub within : (s t u : Shape) → IsIn s t → IsIn t u → IsIn s u
within s t Empty f is = subst (IsIn s) is f
within s t (Drawn g p) f is = subst (IsIn s) is f
within s t (Through ps) f is = subst (IsIn s) is f
within s t (Text x y l w) f is = subst (IsIn s) is f
within s t (Titled w u) f (inl is) = subst (IsIn s) is f
within s t (Titled w u) f (inr g) = inr (within s t u f g)
within s t (Over a b) f (inl is) = subst (IsIn s) is f
within s t (Over a b) f (inr (inl g)) = inr (inl (within s t a f g))
within s t (Over a b) f (inr (inr g)) = inr (inr (within s t b f g))
