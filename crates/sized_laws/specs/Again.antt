-- Expanding an expansion.
use Rattle.std.specs.Prelude.{◌≡◌, ℕ, List, Ok, None}
use Rattle.sized_texts.specs.declared.size.Size.{Size}
use Rattle.sized_texts.specs.Expansion.{expansion, itself, undeclared}
use Rattle.sized_texts.specs.Pieces.{Expansion}
use Rattle.sized_texts.specs.SizeLines.{sizes_of}

-- an expansion, expanded with any numbers given to sizes of its text, is itself
abbrev pub ExpansionsAreFinal : Type 0
ExpansionsAreFinal =
    (given other : List Size) (text : List ℕ) (sizes : List Size) (e : Expansion) → sizes_of given text ≡ Ok sizes →
    expansion given text ≡ Ok e → undeclared sizes other ≡ None → expansion other e.text ≡ Ok (itself e.text)
