-- What is said of a text that is refused before it is a program: E1 to E5.
use Rattle.std.specs.Prelude.{ℕ, List, ◌++◌, Option, Some, None, codes, decimal, slice_index}
use Rattle.pram_tokens.specs.declared.error.TextFault.{TextFault}
use Rattle.pram_tokens.specs.declared.error.TextFault.TheVariants as fault
use Rattle.help.specs.Pasted.{pasted_at, pasted_text}
use Rattle.help.specs.declared.pasted.Pasted.{Pasted}
use Rattle.help.specs.Strays.{stray_sentence}
use Rattle.help.specs.Messages.{Message, said}
use Rattle.diagnoses.specs.declared.source.Kind.{Kind}
use Rattle.diagnoses.specs.declared.source.Kind.TheVariants as kind
use Rattle.diagnoses.specs.declared.source.Source.{Source}
use Rattle.diagnoses.specs.Remarks.{Remark}
use Rattle.diagnoses.specs.Sources.{text_in}
use Rattle.diagnoses.specs.SyntaxFaults.{placed, syntax_message}

abbrev pub not_ascii : ℕ → List ℕ
not_ascii byte = codes "byte " ++ (decimal byte ++ codes " is no ASCII: a text has bytes from 0 to 127 alone, in comments too")

-- of a byte that is no ASCII, or of the sign that it begins
abbrev pub other_text : Option Pasted → (byte : ℕ) → List ℕ
other_text (Some sign) byte = pasted_text sign
other_text None byte = not_ascii byte

abbrev pub other_byte : List ℕ → ℕ → List ℕ
other_byte text at = other_text (pasted_at text at) (slice_index text at)

abbrev pub too_long : Kind → List ℕ
too_long kind.Program = codes "a program has at most 1048576 bytes"
too_long kind.Input = codes "an input has at most 1048576 bytes"
too_long kind.Memory = codes "a memory has at most 1048576 bytes"
too_long kind.Listing = codes "a listing has at most 8388608 bytes"

abbrev pub bad_token : Kind → List ℕ → ℕ → List ℕ
bad_token kind.Input text at = (codes "an input has whole numbers from -9223372036854775808 to 9223372036854775807, with white "
    ++ codes "space between them")
bad_token kind.Memory text at =
    (codes "a line of a memory is a name, the bounds of some of its cells if they are not all meant, = and their values, as "
    ++ codes "a[1..4] = 4 3 2 1")
bad_token kind.Program text at = stray_sentence text at
bad_token kind.Listing text at = stray_sentence text at

abbrev pub too_deep : List ℕ
too_deep = codes "this is one level too many: blocks nest at most 64 deep, and so do expressions"

abbrev pub no_memory : List ℕ
no_memory = codes "memory was refused: nothing is said of the text or the run, and with more memory it may go well"

-- what is said of such a fault of a text, by what could stand at the place of E4
abbrev pub text_message : Source → TextFault → Remark → Message
text_message s (fault.NotAscii at) r = placed s at (other_byte (text_in s) at)
text_message s fault.TextTooLong r = said None (too_long s.kind)
text_message s (fault.BadToken at) r = placed s at (bad_token s.kind (text_in s) at)
text_message s (fault.Syntax at) r = syntax_message s at r
text_message s (fault.TooDeep at) r = placed s at too_deep
text_message s fault.OutOfMemory r = said None no_memory
