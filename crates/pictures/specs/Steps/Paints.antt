-- How forms are painted, and how letters look.
use Rattle.std.specs.Prelude.{ℕ, List, Some, false}
use Rattle.svg_texts.specs.declared.colour.Colour.TheVariants as colour
use Rattle.svg_texts.specs.declared.lettering.Anchor.TheVariants as anchor
use Rattle.svg_texts.specs.declared.lettering.Face.TheVariants as face
use Rattle.svg_texts.specs.declared.lettering.Lettering.{Lettering}
use Rattle.svg_texts.specs.Plain.{label}
use Rattle.svg_texts.specs.Shapes.{Letters, Shape, Text}

abbrev pub white : Lettering
white = record { anchor = anchor.Start; face = face.Plain; ink = Some colour.White; upwards = false }

-- plain letters
abbrev pub note : (x y : ℕ) → List ℕ → Shape
note x y what = label x y anchor.Start face.Plain what

abbrev pub white_note : (x y : ℕ) → List ℕ → Shape
white_note x y what = Text x y white (Letters what)

-- the title of an axis
abbrev pub axis : (y : ℕ) → List ℕ → Shape
axis y what = label 12 y anchor.Start face.Bold what
