-- The line that says what was wrong.
use Rattle.std.specs.Prelude.{ℕ, List}
use Rattle.pram_model.specs.Layout.{SharedEntry}
use Rattle.program_texts.specs.Shown.{fault_text}
use Rattle.svg_texts.specs.Shapes.{Letters, Shape, Text}
use Rattle.write_rules.specs.declared.fault.Fault.{Fault}
use Rattle.pictures.specs.Looks.{plain}

abbrev pub fault_line : List SharedEntry → (y : ℕ) → Fault → Shape
fault_line layout y f = Text 12 y plain (Letters (fault_text layout f))
