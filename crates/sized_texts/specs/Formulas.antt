-- A number that is said by the sizes of a text.
use Rattle.std.specs.Prelude.{ℕ, nat_lt, if◌then◌else◌, List, length, Result, Ok, Err}
use Rattle.pram_tokens.specs.Scanning.{longest}
use Rattle.sized_texts.specs.declared.fault.SizeFault.{SizeFault}
use Rattle.sized_texts.specs.declared.fault.SizeFault.TheVariants.{TooLong}
use Rattle.sized_texts.specs.declared.size.Size.{Size}
use Rattle.sized_texts.specs.Expressions.{whole}
use Rattle.sized_texts.specs.Faults.{in_text}
use Rattle.sized_texts.specs.Reading.{◌>>=◌}
use Rattle.sized_texts.specs.SizeLines.{sizes_of}

-- what all of an expression comes to by the sizes of a text, where those numbers are given: an expression of at most 1,048,576 bytes
abbrev pub number_by : (given : List Size) → (text : List ℕ) → (expression : List ℕ) → Result ℕ SizeFault
number_by given text expression =
    if nat_lt longest (length expression) then Err TooLong
    else (in_text (length text) (sizes_of given text) >>= λ sizes. in_text (length expression) (whole sizes expression))
