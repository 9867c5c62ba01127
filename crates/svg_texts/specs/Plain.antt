-- The plainest shapes: of one colour, and of one word or number.
use Rattle.std.specs.Prelude.{ℕ, List, Some, None, false}
use Rattle.svg_texts.specs.declared.colour.Colour.{Colour}
use Rattle.svg_texts.specs.declared.colour.Colour.TheVariants as colour
use Rattle.svg_texts.specs.declared.form.Form.TheVariants as form
use Rattle.svg_texts.specs.declared.lettering.Anchor.{Anchor}
use Rattle.svg_texts.specs.declared.lettering.Face.{Face}
use Rattle.svg_texts.specs.declared.lettering.Lettering.{Lettering}
use Rattle.svg_texts.specs.declared.paint.Fill.TheVariants as fill
use Rattle.svg_texts.specs.declared.paint.Paint.{Paint}
use Rattle.svg_texts.specs.declared.paint.Stroke.{Stroke}
use Rattle.svg_texts.specs.declared.paint.Weight.TheVariants as weight
use Rattle.svg_texts.specs.Shapes.{Shape, Drawn, Text, Words, Letters, Natural, Then}

-- black letters on a level line
abbrev pub lettered : Anchor → Face → Lettering
lettered a f = record { anchor = a; face = f; ink = None; upwards = false }

-- of one colour, with no line around it
abbrev pub filled : Colour → Paint
filled c = record { fill = fill.Plain c; stroke = None }

-- a line of a pixel
abbrev pub thin : Colour → Stroke
thin c = record { colour = c; weight = weight.Thin; dashed = false }

abbrev pub lined : Colour → Paint
lined c = record { fill = fill.Hollow; stroke = Some (thin c) }

-- of one colour, within a black line
abbrev pub outlined : Colour → Paint
outlined c = record { fill = fill.Plain c; stroke = Some (thin colour.Black) }

abbrev pub line : (x y to_x to_y : ℕ) → Colour → Shape
line x y to_x to_y c = Drawn (form.Line x y to_x to_y) (lined c)

abbrev pub label : (x y : ℕ) → Anchor → Face → (words : List ℕ) → Shape
label x y a f words = Text x y (lettered a f) (Letters words)

-- a number behind a word
abbrev pub numbered : (word : List ℕ) → ℕ → Words
numbered word n = Then (Letters word) (Natural n)

abbrev pub number : (x y : ℕ) → Anchor → Face → ℕ → Shape
number x y a f n = Text x y (lettered a f) (Natural n)
