-- A text with the numbers of its braces put in, without size lines.
use Rattle.std.specs.Prelude.{ℕ, nat_lt, if◌then◌else◌, List, length, Result, Ok, Err}
use Rattle.pram_tokens.specs.Scanning.{longest}
use Rattle.sized_texts.specs.declared.fault.SizeFault.{SizeFault}
use Rattle.sized_texts.specs.declared.fault.SizeFault.TheVariants.{TooLong}
use Rattle.sized_texts.specs.declared.size.Size.{Size}
use Rattle.sized_texts.specs.Faults.{in_text}
use Rattle.sized_texts.specs.Pieces.{pieces_of}
use Rattle.sized_texts.specs.Reading.{◌>>=◌}

-- what a text comes to where these are its sizes: at most 1,048,576 bytes, by their pieces
abbrev pub filled : List Size → List ℕ → Result (List ℕ) SizeFault
filled sizes text =
    if nat_lt longest (length text) then Err TooLong else (in_text (length text) (pieces_of sizes text) >>= λ e. Ok e.text)
