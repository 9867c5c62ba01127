-- Pictures, shape by shape.
use Rattle.std.proofs.Common.{◌≡◌, ◌∙◌, ℕ, Bool, true, false, List, [], ◌∷◌, ◌++◌, ap, append_assoc, refl}
use Rattle.std.specs.Prelude.{Option, Some, None, codes, decimal, if◌then◌else◌}
use Rattle.svg_texts.specs.declared.colour.Colour.{Colour}
use Rattle.svg_texts.specs.declared.colour.Colour.TheVariants as colour
use Rattle.svg_texts.specs.declared.form.Form.{Form}
use Rattle.svg_texts.specs.declared.form.Form.TheVariants as form
use Rattle.svg_texts.specs.declared.lettering.Anchor.{Anchor}
use Rattle.svg_texts.specs.declared.lettering.Anchor.TheVariants as anchor
use Rattle.svg_texts.specs.declared.lettering.Face.{Face}
use Rattle.svg_texts.specs.declared.lettering.Face.TheVariants as face
use Rattle.svg_texts.specs.declared.lettering.Lettering.{Lettering}
use Rattle.svg_texts.specs.declared.paint.Fill.{Fill}
use Rattle.svg_texts.specs.declared.paint.Fill.TheVariants as fill
use Rattle.svg_texts.specs.declared.paint.Paint.{Paint}
use Rattle.svg_texts.specs.declared.paint.Stroke.{Stroke}
use Rattle.svg_texts.specs.declared.paint.Weight.{Weight}
use Rattle.svg_texts.specs.declared.paint.Weight.TheVariants as weight
use Rattle.svg_texts.specs.Shapes.{
  Words,
  Nothing,
  Letters,
  Natural,
  Integer,
  Then,
  Points,
  NoPoint,
  At,
  Both,
  Shape,
  Empty,
  Drawn,
  Through,
  Text,
}
use Rattle.svg_texts.specs.Shapes.{
  Titled,
  Over,
  Picture,
  anchor_text,
  colour_text,
  dashes_text,
  face_text,
  fill_text,
  form_text,
  ground_text,
}
use Rattle.svg_texts.specs.Shapes.{
  ink_text,
  paint_text,
  picture_front,
  picture_text,
  place_text,
  points_text,
  shape_text,
  size_text,
  stroke_text,
}
use Rattle.svg_texts.specs.Shapes.{text_front, weight_text, words_text}
use Rattle.svg_texts.specs.WellFormed.{IsDocument}
use Rattle.svg_texts.proofs.Pieces.{
  IsValue,
  Keeps,
  both,
  bytes_keep,
  integer_keeps,
  nothing_keeps,
  number_is_value,
  number_keeps,
  numbers,
  past,
}
use Rattle.svg_texts.proofs.Pieces.{passed, quoted_past, run_append, values_join}
use Rattle.svg_texts.proofs.Reader.{behind, equated, failed, inside, is_one_of, quoted, run, start}
use Rattle.svg_texts.proofs.Sound.{document}

-- ---- values

abbrev Passes : List ℕ → Type 0
Passes text = (rest name : List ℕ) (names : List (List ℕ)) (tag : List ℕ) (outer : List (List ℕ)) →
    run (quoted name names tag outer) (text ++ rest) ≡ run (quoted name names tag outer) rest

colour_passes : (c : Colour) → Passes (colour_text c)
colour_passes colour.Black rest name names tag outer = refl
colour_passes colour.White rest name names tag outer = refl
colour_passes colour.Blue rest name names tag outer = refl
colour_passes colour.Orange rest name names tag outer = refl
colour_passes colour.Brown rest name names tag outer = refl
colour_passes colour.Pale rest name names tag outer = refl
colour_passes colour.Light rest name names tag outer = refl
colour_passes colour.Silver rest name names tag outer = refl
colour_passes colour.Grey rest name names tag outer = refl

fill_passes : (f : Fill) → Passes (fill_text f)
fill_passes fill.Hollow rest name names tag outer = refl
fill_passes (fill.Plain c) rest name names tag outer = colour_passes c rest name names tag outer
fill_passes fill.Striped rest name names tag outer = refl

weight_passes : (w : Weight) → Passes (weight_text w)
weight_passes weight.Thin rest name names tag outer = refl
weight_passes weight.Firm rest name names tag outer = refl
weight_passes weight.Heavy rest name names tag outer = refl

-- ---- attributes, where none of their names stands in the tag

abbrev IsFree : List (List ℕ) → List ℕ → Type 0
IsFree names name = is_one_of names name ≡ false

opens : (name : List ℕ) (names : List (List ℕ)) (self : List ℕ) (outer : List (List ℕ)) (rest : List ℕ) → IsFree names name →
    run (if is_one_of names name then failed else equated name names self outer) (codes "'" ++ rest) ≡
    run (quoted name names self outer) rest
opens name names self outer rest free =
    ap (λ s. run s (codes "'" ++ rest)) (passed (is_one_of names name) failed (equated name names self outer) free)

abbrev pub closed : List ℕ
closed = codes "/>\n"

dashes_end : (names : List (List ℕ)) (self tag : List ℕ) (outer : List (List ℕ)) → IsFree names (codes "stroke-dasharray") → (d : Bool) →
    run (behind names self (tag ∷ outer)) (dashes_text d ++ closed) ≡ inside (tag ∷ outer)
dashes_end names self tag outer free true = opens (codes "stroke-dasharray") names self (tag ∷ outer) (codes "6 4'/>\n") free
dashes_end names self tag outer free false = refl

-- what a stroke and a fill ask of a tag
record IsOpen (names : List (List ℕ)) : Type 0 where
  fill : IsFree names (codes "fill")
  stroke : IsFree names (codes "stroke")
  wide : IsFree names (codes "stroke-width")
  dashed : IsFree names (codes "stroke-dasharray")

stroke_ends : (names : List (List ℕ)) (self tag : List ℕ) (outer : List (List ℕ)) → IsFree names (codes "stroke") →
    IsFree names (codes "stroke-width") → IsFree names (codes "stroke-dasharray") → (s : Option Stroke) →
    run (behind names self (tag ∷ outer)) (stroke_text s ++ closed) ≡ inside (tag ∷ outer)
stroke_ends names self tag outer free wide dashed None = refl
stroke_ends names self tag outer free wide dashed (Some s) =
    let ends : List ℕ = codes "'" ++ dashes_text s.dashed in
    let middle : List ℕ = codes "' stroke-width='" ++ (weight_text s.weight ++ ends) in
    let first : List (List ℕ) = codes "stroke" ∷ names in
    opens (codes "stroke") names self (tag ∷ outer) ((colour_text s.colour ++ middle) ++ closed) free
    ∙ ap (run (quoted (codes "stroke") names self (tag ∷ outer))) (append_assoc (colour_text s.colour) middle closed)
    ∙ colour_passes s.colour (middle ++ closed) (codes "stroke") names self (tag ∷ outer)
    ∙ opens (codes "stroke-width") first self (tag ∷ outer) ((weight_text s.weight ++ ends) ++ closed) wide
    ∙ ap (run (quoted (codes "stroke-width") first self (tag ∷ outer))) (append_assoc (weight_text s.weight) ends closed)
    ∙ weight_passes s.weight (ends ++ closed) (codes "stroke-width") first self (tag ∷ outer)
    ∙ dashes_end (codes "stroke-width" ∷ first) self tag outer dashed s.dashed

paint_ends : (names : List (List ℕ)) (self tag : List ℕ) (outer : List (List ℕ)) → IsOpen names → (p : Paint) →
    run (behind names self (tag ∷ outer)) (paint_text p ++ closed) ≡ inside (tag ∷ outer)
paint_ends names self tag outer free p =
    let how : List ℕ = fill_text p.fill in
    let line : List ℕ = stroke_text p.stroke in
    opens (codes "fill") names self (tag ∷ outer) (((how ++ codes "'") ++ line) ++ closed) free.fill
    ∙ ap (run (quoted (codes "fill") names self (tag ∷ outer)))
    (append_assoc (how ++ codes "'") line closed ∙ append_assoc how (codes "'") (line ++ closed))
    ∙ fill_passes p.fill (codes "'" ++ (line ++ closed)) (codes "fill") names self (tag ∷ outer)
    ∙ stroke_ends (codes "fill" ∷ names) self tag outer free.stroke free.wide free.dashed p.stroke

rectangle_opens : (left top wide tall : ℕ) (tag : List ℕ) (outer : List (List ℕ)) →
    run (inside (tag ∷ outer)) (form_text (form.Rectangle left top wide tall))
    ≡ behind (codes "height" ∷ codes "width" ∷ codes "y" ∷ codes "x" ∷ []) (codes "rect") (tag ∷ outer)
rectangle_opens left top wide tall tag outer = simp numbers

circle_opens : (x y : ℕ) (tag : List ℕ) (outer : List (List ℕ)) →
    run (inside (tag ∷ outer)) (form_text (form.Circle x y))
    ≡ behind (codes "r" ∷ codes "cy" ∷ codes "cx" ∷ []) (codes "circle") (tag ∷ outer)
circle_opens x y tag outer = simp numbers

line_opens : (x y to_x to_y : ℕ) (tag : List ℕ) (outer : List (List ℕ)) →
    run (inside (tag ∷ outer)) (form_text (form.Line x y to_x to_y)) ≡ behind (codes "d" ∷ []) (codes "path") (tag ∷ outer)
line_opens x y to_x to_y tag outer = simp numbers

painted : (names : List (List ℕ)) (self : List ℕ) → IsOpen names → (place : List ℕ) (p : Paint) →
    ((tag : List ℕ) (outer : List (List ℕ)) → run (inside (tag ∷ outer)) place ≡ behind names self (tag ∷ outer)) →
    Keeps (place ++ (paint_text p ++ closed))
painted names self free place p begins = record {
  is = λ tag outer. run_append place (paint_text p ++ closed) _ ∙ ap (λ s. run s (paint_text p ++ closed)) (begins tag outer)
      ∙ paint_ends names self tag outer free p;
}

drawn_keeps : (f : Form) (p : Paint) → Keeps (form_text f ++ (paint_text p ++ closed))
drawn_keeps (form.Rectangle left top wide tall) p = painted _ (codes "rect")
    (record { fill = refl; stroke = refl; wide = refl; dashed = refl }) (form_text (form.Rectangle left top wide tall)) p
    (rectangle_opens left top wide tall)
drawn_keeps (form.Circle x y) p = painted _ (codes "circle") (record { fill = refl; stroke = refl; wide = refl; dashed = refl })
    (form_text (form.Circle x y)) p (circle_opens x y)
drawn_keeps (form.Line x y to_x to_y) p = painted _ (codes "path") (record { fill = refl; stroke = refl; wide = refl; dashed = refl })
    (form_text (form.Line x y to_x to_y)) p (line_opens x y to_x to_y)

-- ---- texts

ink_ends : (names : List (List ℕ)) (self : List ℕ) (outer : List (List ℕ)) → IsFree names (codes "fill") → (ink : Option Colour) →
    run (behind names self outer) (ink_text ink ++ codes ">") ≡ inside (self ∷ outer)
ink_ends names self outer free None = refl
ink_ends names self outer free (Some c) =
    opens (codes "fill") names self outer ((colour_text c ++ codes "'") ++ codes ">") free
    ∙ ap (run (quoted (codes "fill") names self outer)) (append_assoc (colour_text c) (codes "'") (codes ">"))
    ∙ colour_passes c (codes "'>") (codes "fill") names self outer

-- what the looks of a text ask of its tag
record IsPlain (names : List (List ℕ)) : Type 0 where
  fill : IsFree names (codes "fill")
  bold : IsFree names (codes "font-weight")
  size : IsFree names (codes "font-size")
  family : IsFree names (codes "font-family")

face_ends : (names : List (List ℕ)) (self : List ℕ) (outer : List (List ℕ)) → IsPlain names → (f : Face) (ink : Option Colour) →
    run (behind names self outer) (face_text f ++ (ink_text ink ++ codes ">")) ≡ inside (self ∷ outer)
face_ends names self outer free face.Plain ink = ink_ends names self outer free.fill ink
face_ends names self outer free face.Bold ink =
    opens (codes "font-weight") names self outer (codes "bold'" ++ (ink_text ink ++ codes ">")) free.bold
    ∙ ink_ends (codes "font-weight" ∷ names) self outer free.fill ink
face_ends names self outer free face.Small ink =
    opens (codes "font-size") names self outer (codes "10'" ++ (ink_text ink ++ codes ">")) free.size
    ∙ ink_ends (codes "font-size" ∷ names) self outer free.fill ink
face_ends names self outer free face.Tiny ink =
    opens (codes "font-size") names self outer (codes "6'" ++ (ink_text ink ++ codes ">")) free.size
    ∙ ink_ends (codes "font-size" ∷ names) self outer free.fill ink
face_ends names self outer free face.Code ink =
    opens (codes "font-family") names self outer (codes "monospace' font-size='11'" ++ (ink_text ink ++ codes ">")) free.family
    ∙ opens (codes "font-size") (codes "font-family" ∷ names) self outer (codes "11'" ++ (ink_text ink ++ codes ">")) free.size
    ∙ ink_ends (codes "font-size" ∷ codes "font-family" ∷ names) self outer free.fill ink

abbrev pub looks : Anchor → Face → Option Colour → List ℕ
looks a f ink = anchor_text a ++ (face_text f ++ (ink_text ink ++ codes ">"))

looks_end : (names : List (List ℕ)) (self : List ℕ) (outer : List (List ℕ)) → IsFree names (codes "text-anchor") → IsPlain names →
    IsPlain (codes "text-anchor" ∷ names) → (a : Anchor) (f : Face) (ink : Option Colour) →
    run (behind names self outer) (looks a f ink) ≡ inside (self ∷ outer)
looks_end names self outer free plain anchored anchor.Start f ink = face_ends names self outer plain f ink
looks_end names self outer free plain anchored anchor.Middle f ink =
    opens (codes "text-anchor") names self outer (codes "middle'" ++ (face_text f ++ (ink_text ink ++ codes ">"))) free
    ∙ face_ends (codes "text-anchor" ∷ names) self outer anchored f ink
looks_end names self outer free plain anchored anchor.End f ink =
    opens (codes "text-anchor") names self outer (codes "end'" ++ (face_text f ++ (ink_text ink ++ codes ">"))) free
    ∙ face_ends (codes "text-anchor" ∷ names) self outer anchored f ink

level_opens : (x y : ℕ) (tag : List ℕ) (outer : List (List ℕ)) →
    run (inside (tag ∷ outer)) (place_text false x y) ≡ behind (codes "y" ∷ codes "x" ∷ []) (codes "text") (tag ∷ outer)
level_opens x y tag outer = simp numbers

upwards_opens : (x y : ℕ) (tag : List ℕ) (outer : List (List ℕ)) →
    run (inside (tag ∷ outer)) (place_text true x y) ≡ behind (codes "transform" ∷ []) (codes "text") (tag ∷ outer)
upwards_opens x y tag outer = simp numbers

text_opens : (upwards : Bool) (x y : ℕ) (a : Anchor) (f : Face) (ink : Option Colour) (tag : List ℕ) (outer : List (List ℕ)) →
    run (inside (tag ∷ outer)) (place_text upwards x y ++ looks a f ink) ≡ inside (codes "text" ∷ tag ∷ outer)
text_opens false x y a f ink tag outer =
    run_append (place_text false x y) (looks a f ink) (inside (tag ∷ outer)) ∙ ap (λ s. run s (looks a f ink)) (level_opens x y tag outer)
    ∙ looks_end (codes "y" ∷ codes "x" ∷ []) (codes "text") (tag ∷ outer) refl
    (record { fill = refl; bold = refl; size = refl; family = refl }) (record { fill = refl; bold = refl; size = refl; family = refl }) a
    f ink
text_opens true x y a f ink tag outer =
    run_append (place_text true x y) (looks a f ink) (inside (tag ∷ outer)) ∙ ap (λ s. run s (looks a f ink)) (upwards_opens x y tag
    outer)
    ∙ looks_end (codes "transform" ∷ []) (codes "text") (tag ∷ outer) refl
    (record { fill = refl; bold = refl; size = refl; family = refl }) (record { fill = refl; bold = refl; size = refl; family = refl }) a
    f ink

words_keep : (w : Words) → Keeps (words_text w)
words_keep Nothing = nothing_keeps
words_keep (Letters bytes) = bytes_keep bytes
words_keep (Natural n) = number_keeps n
words_keep (Integer z) = integer_keeps z
words_keep (Then a b) = both (words_keep a) (words_keep b)

text_keeps : (x y : ℕ) (l : Lettering) (w : Words) → Keeps (shape_text (Text x y l w))
text_keeps x y l w = record {
  is = λ tag outer. run_append (text_front x y l) (words_text w ++ codes "</text>\n") (inside (tag ∷ outer))
      ∙ ap (λ s. run s (words_text w ++ codes "</text>\n")) (text_opens l.upwards x y l.anchor l.face l.ink tag outer)
      ∙ past (words_keep w) (codes "</text>\n") (codes "text") (tag ∷ outer);
}

-- ---- shapes

points_are : (ps : Points) → IsValue (points_text ps)
points_are NoPoint = tt
points_are (At x y) = values_join (decimal x) (codes "," ++ (decimal y ++ codes " ")) (number_is_value x)
    (refl, values_join (decimal y) (codes " ") (number_is_value y) (refl, tt))
points_are (Both a b) = values_join (points_text a) (points_text b) (points_are a) (points_are b)

shape_keeps : (s : Shape) → Keeps (shape_text s)
shape_keeps Empty = nothing_keeps
shape_keeps (Drawn f p) = drawn_keeps f p
shape_keeps (Through ps) = record {
  is = λ tag outer. quoted_past (points_text ps) (points_are ps) (codes "'/>\n") (codes "points")
      (codes "stroke" ∷ codes "fill" ∷ []) (codes "polyline") (tag ∷ outer);
}
shape_keeps (Text x y l w) = text_keeps x y l w
shape_keeps (Titled w s) = record {
  is = λ tag outer. past (words_keep w) (codes "</title>\n" ++ (shape_text s ++ codes "</g>\n")) (codes "title") (codes "g" ∷ tag ∷ outer)
      ∙ past (shape_keeps s) (codes "</g>\n") (codes "g") (tag ∷ outer);
}
shape_keeps (Over a b) = both (shape_keeps a) (shape_keeps b)

-- ---- all of it

size_opens : (wide tall : ℕ) → run start (size_text wide tall) ≡ inside (codes "title" ∷ codes "svg" ∷ [])
size_opens wide tall = simp numbers

ground_goes : (wide tall : ℕ) → run (inside (codes "title" ∷ codes "svg" ∷ [])) (ground_text wide tall) ≡ inside (codes "svg" ∷ [])
ground_goes wide tall = simp numbers

front_opens : (title : Words) (wide tall : ℕ) → run start (picture_front title wide tall) ≡ inside (codes "svg" ∷ [])
front_opens title wide tall =
    run_append (size_text wide tall) (words_text title ++ ground_text wide tall) start
    ∙ ap (λ s. run s (words_text title ++ ground_text wide tall)) (size_opens wide tall)
    ∙ past (words_keep title) (ground_text wide tall) (codes "title") (codes "svg" ∷ []) ∙ ground_goes wide tall

pub picture_is_document : (p : Picture) → IsDocument (picture_text p)
picture_is_document p = document (picture_text p) (run_append (picture_front p.title p.wide p.tall) (shape_text p.shape ++ codes
    "</svg>\n") start
    ∙ ap (λ s. run s (shape_text p.shape ++ codes "</svg>\n")) (front_opens p.title p.wide p.tall)
    ∙ past (shape_keeps p.shape) (codes "</svg>\n") (codes "svg") [])
