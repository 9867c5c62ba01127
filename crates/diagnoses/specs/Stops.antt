-- What is said behind the line of a refusal.
use Rattle.std.specs.Prelude.{◌≡◌, ◌⊎◌, ℕ, if◌then◌else◌, List, [], ◌++◌, Option, Some, None, codes, decimal}
use Rattle.pram_model.specs.Names.{same_text}
use Rattle.pram_tokens.specs.declared.error.TextFault.{TextFault}
use Rattle.pram_tokens.specs.declared.error.TextFault.TheVariants as fault
use Rattle.pram_names.specs.declared.fault.Breach.{Breach}
use Rattle.sized_texts.specs.declared.reason.Reason.{Reason}
use Rattle.help.specs.declared.message.Point.{Point}
use Rattle.help.specs.declared.message.Point.TheVariants.{Byte, Line}
use Rattle.help.specs.Messages.{Message, message_text, nothing, said}
use Rattle.program_texts.specs.declared.from_text.Refusal.{Refusal}
use Rattle.program_texts.specs.declared.from_text.Refusal.TheVariants as refusal
use Rattle.program_texts.specs.declared.stop.Stop.{Stop}
use Rattle.program_texts.specs.declared.stop.Stop.TheVariants as stop
use Rattle.diagnoses.specs.FalseLines.{note_about}
use Rattle.diagnoses.specs.declared.about.About.{About}
use Rattle.diagnoses.specs.declared.about.About.TheVariants as about
use Rattle.diagnoses.specs.Files.{file_message}
use Rattle.diagnoses.specs.Remarks.{Remark, IsExpectation, IsRemark, Nothing}
use Rattle.diagnoses.specs.Sources.{text_in}
use Rattle.diagnoses.specs.SizeFaults.{size_message}
use Rattle.diagnoses.specs.TextFaults.{no_memory, text_message}
use Rattle.diagnoses.specs.Breaches.{breach_message}

-- a text that is refused; where it isn't at hand nothing is said
abbrev pub of_text : TextFault → About → Remark → Message
of_text f about.Nothing r = nothing
of_text f (about.Text s) r = text_message s f r
of_text f (about.Line s line) r = nothing
of_text f (about.Values values cells) r = nothing
of_text f (about.File u) r = nothing

-- a program that is refused
abbrev pub of_program : Breach → About → Remark → Message
of_program b about.Nothing r = nothing
of_program b (about.Text s) r = breach_message s b r
of_program b (about.Line s line) r = nothing
of_program b (about.Values values cells) r = nothing
of_program b (about.File u) r = nothing

abbrev pub too_many : (values cells : ℕ) → List ℕ
too_many values cells = codes "there are " ++ (decimal values ++ (codes " values, and the cells for them are " ++ decimal cells))

-- an input that is too long
abbrev pub of_input : About → Message
of_input about.Nothing = nothing
of_input (about.Text s) = nothing
of_input (about.Line s line) = nothing
of_input (about.Values values cells) = said None (too_many values cells)
of_input (about.File u) = nothing

abbrev pub of_refusal : Refusal → About → Remark → Message
of_refusal (refusal.Text f) a r = of_text f a r
of_refusal (refusal.Program b) a r = of_program b a r
of_refusal refusal.InputTooLong a r = of_input a
of_refusal refusal.BadMap a r = said None (codes "`--map` wants affine:A,B with an odd A, so that no two cells have one place")
of_refusal refusal.BadWorkers a r = said None (codes "`--workers` wants a number from 1 to 32")
of_refusal refusal.OutOfMemory a r = said None no_memory
of_refusal refusal.OutOfReserve a r = said None (codes "the run prints more numbers, or has more exchanges, than its reserve was made for")

abbrev pub line_sentence : List ℕ
line_sentence = codes "no listing goes on with this line, or one is missing here"

abbrev pub line_fault : ℕ → Message
line_fault at = said (Some (Byte at)) line_sentence

-- a text that is no listing
abbrev pub of_listing : ℕ → About → Message
of_listing at about.Nothing = nothing
of_listing at (about.Text s) = line_fault at
of_listing at (about.Line s line) = nothing
of_listing at (about.Values values cells) = nothing
of_listing at (about.File u) = nothing

-- what the word for the reason means
abbrev pub reason_sentence : List ℕ → List ℕ
reason_sentence word =
    if same_text word (codes "state") then codes "no lower place leads here, or one that does comes in another state"
    else (if same_text word (codes "register") then codes "it names a register that isn't there"
    else (if same_text word (codes "entry") then codes "it names an entry that the layout doesn't have"
    else (if same_text word (codes "target") then codes "its target is no instruction, or is neither above it nor a mark"
    else (if same_text word (codes "mode") then codes "it may not stand there: some stand outside of a range alone, some within"
    else (if same_text word (codes "mask") then codes "it is a 65th mask, or wants one that isn't on, or leaves one on"
    else (if same_text word (codes "exchange") then codes "an exchange, a reply, a read or a put may not stand there"
    else codes "it is the last one and goes on, or there are no instructions"))))))

abbrev pub instruction_fault : ℕ → List ℕ → List ℕ
instruction_fault at word = codes "instruction " ++ (decimal at ++ (codes ": " ++ reason_sentence word))

-- the line that is meant, where one is known
abbrev pub meant_line : About → Option Point
meant_line about.Nothing = None
meant_line (about.Text s) = None
meant_line (about.Line s line) = Some (Line line)
meant_line (about.Values values cells) = None
meant_line (about.File u) = None

-- code that isn't well formed
abbrev pub of_code : ℕ → List ℕ → About → Message
of_code at word a = said (meant_line a) (instruction_fault at word)

-- a text with sizes that has no expansion
abbrev pub of_size : ℕ → Reason → About → Message
of_size at r about.Nothing = nothing
of_size at r (about.Text s) = size_message s at r
of_size at r (about.Line s line) = nothing
of_size at r (about.Values values cells) = nothing
of_size at r (about.File u) = nothing

-- what is said behind the line, by what is known besides, and by what there is to say of a name or of a token
abbrev pub stop_message : Stop → About → Remark → Message
stop_message (stop.Words text) a r = nothing
stop_message (stop.Number word) a r = nothing
stop_message (stop.Unreadable name) a r = file_message a
stop_message (stop.Refused refusal) a r = of_refusal refusal a r
stop_message (stop.NotVerified at word) a r = of_code at word.now a
stop_message (stop.BadListing at) a r = of_listing at a
stop_message stop.WriteFailed a r = said None (codes "standard output failed: what stands there is a beginning of the text")
stop_message (stop.BadSize at reason) a r = of_size at reason a

-- ---- what there is to say of a name or of a token

-- of a name, of a program whose text is at hand; of anything else nothing
abbrev pub IsRemarkIn : Breach → About → Remark → Type 0
IsRemarkIn b about.Nothing r = r ≡ Nothing
IsRemarkIn b (about.Text s) r = IsRemark (text_in s) b r
IsRemarkIn b (about.Line s line) r = r ≡ Nothing
IsRemarkIn b (about.Values values cells) r = r ≡ Nothing
IsRemarkIn b (about.File u) r = r ≡ Nothing

-- and of a token with which no program goes on
abbrev pub IsExpectationIn : ℕ → About → Remark → Type 0
IsExpectationIn at about.Nothing r = r ≡ Nothing
IsExpectationIn at (about.Text s) r = IsExpectation (text_in s) at r
IsExpectationIn at (about.Line s line) r = r ≡ Nothing
IsExpectationIn at (about.Values values cells) r = r ≡ Nothing
IsExpectationIn at (about.File u) r = r ≡ Nothing

abbrev pub HasRemark : Stop → About → Remark → Type 0
HasRemark (stop.Refused (refusal.Program b)) a r = IsRemarkIn b a r
HasRemark (stop.Refused (refusal.Text (fault.Syntax at))) a r = IsExpectationIn at a r
HasRemark _ a r = r ≡ Nothing

-- ---- the message, and its text

-- what there is to say of a refusal, by the remark that there is
pub record IsMessageOf (why : Stop) (a : About) (m : Message) : Type 0 where
  pub remark : Remark
  pub true_of : HasRemark why a remark
  pub whole : m ≡ stop_message why a remark

-- the name of the file that it is about, if it is about one
abbrev pub name_in : About → List ℕ
name_in about.Nothing = []
name_in (about.Text s) = s.name.now
name_in (about.Line s line) = s.name.now
name_in (about.Values values cells) = []
name_in (about.File u) = []

-- and all that this file holds
abbrev pub bytes_in : About → List ℕ
bytes_in about.Nothing = []
bytes_in (about.Text s) = s.bytes.items
bytes_in (about.Line s line) = s.bytes.items
bytes_in (about.Values values cells) = []
bytes_in (about.File u) = []

-- a message about that file, as text
abbrev pub text_about : About → Message → List ℕ
text_about a m = message_text (name_in a) (bytes_in a) m

-- where memory was refused for it
abbrev pub unsaid : List ℕ
unsaid = codes "memory was refused for what there is to say of it\n"

-- the text of what there is to say of a refusal, and of a comment that is no size line, or that memory was refused for it
abbrev pub IsSaid : Stop → About → List ℕ → Type 0
IsSaid why a text = (text ≡ unsaid) ⊎ ((m : Message) × IsMessageOf why a m × (text ≡ text_about a m ++ note_about a))
