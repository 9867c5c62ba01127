-- How forms are painted, and how texts stand, in several kinds of pictures.
use Rattle.std.specs.Prelude.{Bool, true, false, Some, None}
use Rattle.svg_texts.specs.Plain.{lettered, outlined}
use Rattle.svg_texts.specs.declared.colour.Colour.TheVariants as colour
use Rattle.svg_texts.specs.declared.lettering.Anchor.TheVariants as anchor
use Rattle.svg_texts.specs.declared.lettering.Face.TheVariants as face
use Rattle.svg_texts.specs.declared.lettering.Lettering.{Lettering}
use Rattle.svg_texts.specs.declared.paint.Fill.TheVariants as fill
use Rattle.svg_texts.specs.declared.paint.Paint.{Paint}
use Rattle.svg_texts.specs.declared.paint.Weight.{Weight}
use Rattle.svg_texts.specs.declared.paint.Weight.TheVariants as weight

-- a black text that begins at its point
abbrev pub plain : Lettering
plain = lettered anchor.Start face.Plain

-- a line of the program
abbrev pub upwards : Lettering
upwards = record { anchor = anchor.Start; face = face.Code; ink = None; upwards = true }

-- boxes and rings
abbrev pub white : Paint
white = outlined colour.White

-- a black line alone
abbrev pub black : Weight → (dashed : Bool) → Paint
black thick dashed = record { fill = fill.Hollow; stroke = Some (record { colour = colour.Black; weight = thick; dashed = dashed }) }

-- frames of faults
abbrev pub heavy : Paint
heavy = black weight.Heavy false

-- lines that values take
abbrev pub firm : (dashed : Bool) → Paint
firm dashed = black weight.Firm dashed
