-- Sizes: names that stand for numbers.
use Rattle.std.specs.Prelude.{ℕ, List, Option}
use Rattle.std.specs.List.{find}
use Rattle.std.specs.Option.{option_map}
use Rattle.pram_model.specs.Names.{same_text}
use Rattle.sized_texts.specs.declared.size.Size.{Size}

-- the number that a name stands for, if it is one of these
abbrev pub value_in : List Size → List ℕ → Option ℕ
value_in sizes name = option_map (λ s. s.value) (find (λ s. same_text s.name name) sizes)
