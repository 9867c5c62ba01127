-- Pictures as values: shapes, and the text of SVG 1.1 that each has. Lengths are pixels, from the left and the upper edge.
use Rattle.std.specs.Prelude.{◌≡◌, ◌⊎◌, ℕ, ℤ, ◌++◌, List, [], Bool, true, false, Option, Some, None, codes, decimal}
use Rattle.std.specs.Fmt.{signed_decimal}
use Rattle.svg_texts.specs.declared.colour.Colour.{Colour}
use Rattle.svg_texts.specs.declared.colour.Colour.TheVariants as colour
use Rattle.svg_texts.specs.declared.form.Form.{Form}
use Rattle.svg_texts.specs.declared.form.Form.TheVariants as form
use Rattle.svg_texts.specs.declared.lettering.Anchor.{Anchor}
use Rattle.svg_texts.specs.declared.lettering.Anchor.TheVariants as anchor
use Rattle.svg_texts.specs.declared.lettering.Face.{Face}
use Rattle.svg_texts.specs.declared.lettering.Face.TheVariants as face
use Rattle.svg_texts.specs.declared.lettering.Lettering.{Lettering}
use Rattle.svg_texts.specs.declared.paint.Fill.{Fill}
use Rattle.svg_texts.specs.declared.paint.Fill.TheVariants as fill
use Rattle.svg_texts.specs.declared.paint.Paint.{Paint}
use Rattle.svg_texts.specs.declared.paint.Stroke.{Stroke}
use Rattle.svg_texts.specs.declared.paint.Weight.{Weight}
use Rattle.svg_texts.specs.declared.paint.Weight.TheVariants as weight
use Rattle.svg_texts.specs.Letters.{letters}

-- ---- shapes

-- what a text says: letters, numbers, and one behind the other
pub data Words : Type 0 where
  Nothing : Words
  Letters : List ℕ → Words
  Natural : ℕ → Words
  Integer : ℤ → Words
  Then : Words → Words → Words

pub data Points : Type 0 where
  NoPoint : Points
  At : (x y : ℕ) → Points
  Both : Points → Points → Points

-- a form; a black line through points; a text that begins, ends or has its middle at a point; shapes that say what they are where they
-- are pointed at; and two shapes, the second one in front of the first
pub data Shape : Type 0 where
  Empty : Shape
  Drawn : Form → Paint → Shape
  Through : Points → Shape
  Text : (x y : ℕ) → Lettering → Words → Shape
  Titled : Words → Shape → Shape
  Over : Shape → Shape → Shape

pub record Picture : Type 0 where
  pub title : Words
  pub wide : ℕ
  pub tall : ℕ
  pub shape : Shape

-- ---- as texts

abbrev pub words_text : Words → List ℕ
words_text Nothing = []
words_text (Letters bytes) = letters bytes
words_text (Natural n) = decimal n
words_text (Integer z) = signed_decimal z
words_text (Then a b) = words_text a ++ words_text b

abbrev pub points_text : Points → List ℕ
points_text NoPoint = []
points_text (At x y) = decimal x ++ (codes "," ++ (decimal y ++ codes " "))
points_text (Both a b) = points_text a ++ points_text b

abbrev pub colour_text : Colour → List ℕ
colour_text colour.Black = codes "#000000"
colour_text colour.White = codes "#ffffff"
colour_text colour.Blue = codes "#0072b2"
colour_text colour.Orange = codes "#e69f00"
colour_text colour.Brown = codes "#b06000"
colour_text colour.Pale = codes "#f2f2f2"
colour_text colour.Light = codes "#e0e0e0"
colour_text colour.Silver = codes "#c0c0c0"
colour_text colour.Grey = codes "#b0b0b0"

abbrev pub fill_text : Fill → List ℕ
fill_text fill.Hollow = codes "none"
fill_text (fill.Plain c) = colour_text c
fill_text fill.Striped = codes "url(#stripes)"

abbrev pub weight_text : Weight → List ℕ
weight_text weight.Thin = codes "1"
weight_text weight.Firm = codes "1.5"
weight_text weight.Heavy = codes "3"

abbrev pub dashes_text : (dashed : Bool) → List ℕ
dashes_text true = codes " stroke-dasharray='6 4'"
dashes_text false = []

abbrev pub stroke_text : Option Stroke → List ℕ
stroke_text None = []
stroke_text (Some s) = codes " stroke='" ++ (colour_text s.colour ++ (codes "' stroke-width='" ++ (weight_text s.weight ++ (codes "'"
    ++ dashes_text s.dashed))))

abbrev pub filled_text : Fill → List ℕ
filled_text f = codes " fill='" ++ (fill_text f ++ codes "'")

abbrev pub paint_text : Paint → List ℕ
paint_text p = filled_text p.fill ++ stroke_text p.stroke

abbrev pub form_text : Form → List ℕ
form_text (form.Rectangle left top wide tall) = codes "<rect x='" ++ (decimal left ++ (codes "' y='" ++ (decimal top
    ++ (codes "' width='" ++ (decimal wide ++ (codes "' height='" ++ (decimal tall ++ codes "'")))))))
form_text (form.Circle x y) = codes "<circle cx='" ++ (decimal x ++ (codes "' cy='" ++ (decimal y ++ codes "' r='4'")))
form_text (form.Line x y to_x to_y) = codes "<path d='M" ++ (decimal x ++ (codes " " ++ (decimal y ++ (codes "L" ++ (decimal to_x
    ++ (codes " " ++ (decimal to_y ++ codes "'")))))))

abbrev pub anchor_text : Anchor → List ℕ
anchor_text anchor.Start = []
anchor_text anchor.Middle = codes " text-anchor='middle'"
anchor_text anchor.End = codes " text-anchor='end'"

abbrev pub face_text : Face → List ℕ
face_text face.Plain = []
face_text face.Bold = codes " font-weight='bold'"
face_text face.Small = codes " font-size='10'"
face_text face.Tiny = codes " font-size='6'"
face_text face.Code = codes " font-family='monospace' font-size='11'"

-- a text is black where nothing else is said
abbrev pub ink_text : Option Colour → List ℕ
ink_text None = []
ink_text (Some c) = codes " fill='" ++ (colour_text c ++ codes "'")

-- level, or upwards
abbrev pub place_text : (upwards : Bool) → (x y : ℕ) → List ℕ
place_text false x y = codes "<text x='" ++ (decimal x ++ (codes "' y='" ++ (decimal y ++ codes "'")))
place_text true x y = codes "<text transform='translate(" ++ (decimal x ++ (codes " " ++ (decimal y ++ codes ")rotate(-90)'")))

abbrev pub text_front : (x y : ℕ) → Lettering → List ℕ
text_front x y l = place_text l.upwards x y ++ (anchor_text l.anchor ++ (face_text l.face ++ (ink_text l.ink ++ codes ">")))

abbrev pub shape_text : Shape → List ℕ
shape_text Empty = []
shape_text (Drawn f p) = form_text f ++ (paint_text p ++ codes "/>\n")
shape_text (Through ps) = codes "<polyline fill='none' stroke='#000000' points='" ++ (points_text ps ++ codes "'/>\n")
shape_text (Text x y l w) = text_front x y l ++ (words_text w ++ codes "</text>\n")
shape_text (Titled w s) = codes "<g><title>" ++ (words_text w ++ (codes "</title>\n" ++ (shape_text s ++ codes "</g>\n")))
shape_text (Over a b) = shape_text a ++ shape_text b

-- what a reader's program needs to know of its size: it fits any window
abbrev pub size_text : (wide tall : ℕ) → List ℕ
size_text wide tall = codes "<svg xmlns='http://www.w3.org/2000/svg' version='1.1' width='" ++ (decimal wide ++ (codes "' height='"
    ++ (decimal tall ++ (codes "' viewBox='0 0 " ++ (decimal wide ++ (codes " " ++ (decimal tall
    ++ codes "' font-family='sans-serif' font-size='12' xml:space='preserve'>\n<title>")))))))

-- the stripes that a fill may have, and the white ground
abbrev pub ground_text : (wide tall : ℕ) → List ℕ
ground_text wide tall = codes "</title>\n<defs><pattern id='stripes' width='4' height='4' patternUnits='userSpaceOnUse'>"
    ++ (codes "<rect width='4' height='4' fill='#ffffff'/><rect width='4' height='2' fill='#e69f00'/></pattern></defs>\n<rect width='"
    ++ (decimal wide ++ (codes "' height='" ++ (decimal tall ++ codes "' fill='#ffffff'/>\n"))))

abbrev pub picture_front : Words → (wide tall : ℕ) → List ℕ
picture_front title wide tall = size_text wide tall ++ (words_text title ++ ground_text wide tall)

abbrev pub picture_text : Picture → List ℕ
picture_text p = picture_front p.title p.wide p.tall ++ (shape_text p.shape ++ codes "</svg>\n")

-- ---- what stands in a picture

abbrev pub IsIn : Shape → Shape → Type 0
IsIn s Empty = s ≡ Empty
IsIn s (Drawn f p) = s ≡ Drawn f p
IsIn s (Through ps) = s ≡ Through ps
IsIn s (Text x y l w) = s ≡ Text x y l w
IsIn s (Titled w t) = (s ≡ Titled w t) ⊎ IsIn s t
IsIn s (Over a b) = (s ≡ Over a b) ⊎ (IsIn s a ⊎ IsIn s b)
