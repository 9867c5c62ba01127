-- What is said of a token with which no program goes on, or of the end of a text whose program goes on: E4.
use Rattle.std.specs.Prelude.{ℕ, ◌+◌, nat_le, if◌then◌else◌, List, [], ◌++◌, Some, codes, decimal, length, map}
use Rattle.pram_printer.specs.Spelling.{opening_text}
use Rattle.text_places.specs.Places.{place_of}
use Rattle.help.specs.ChoiceTexts.{choice_text, choices_text}
use Rattle.help.specs.declared.choice.Choice.{Choice}
use Rattle.help.specs.Habits.{habit_text}
use Rattle.help.specs.declared.habit.Habit.{Habit as HabitOf}
use Rattle.help.specs.declared.hint.Hint.{Hint}
use Rattle.help.specs.declared.hint.Hint.TheVariants as hint
use Rattle.help.specs.declared.message.Other.TheVariants.{Begins, Ends}
use Rattle.help.specs.declared.message.Point.TheVariants.{Byte}
use Rattle.help.specs.Messages.{Message, said, with_expected, with_more, with_other}
use Rattle.diagnoses.specs.declared.source.Source.{Source}
use Rattle.diagnoses.specs.Places.{quoted, token_at}
use Rattle.diagnoses.specs.Remarks.{Remark, Nothing, Nearest, Declared, Misplaced, Elsewhere, Undeclared, Expected}
use Rattle.diagnoses.specs.Sources.{origin, text_in}

-- ---- what could stand there

abbrev pub stranger : List ℕ → List ℕ
stranger token = quoted token ++ codes " can't stand here: no program goes on with it"

abbrev pub could_stand : List Choice → List ℕ
could_stand found = codes "here could stand " ++ choices_text found

-- what could stand there, if that is known
abbrev pub expected : Remark → List ℕ
expected Nothing = []
expected (Nearest name) = []
expected (Declared sort line) = []
expected (Misplaced sort line role) = []
expected (Elsewhere sort line) = []
expected (Undeclared role inside) = []
expected (Expected found hint) = could_stand found

abbrev pub bare_end : List ℕ
bare_end = codes "the text ends here, and the program does not"

abbrev pub open_end : List Choice → List ℕ
open_end found = codes "the text ends here; " ++ could_stand found

-- the end of a text whose program goes on
abbrev pub ended : Remark → List ℕ
ended Nothing = bare_end
ended (Nearest name) = bare_end
ended (Declared sort line) = bare_end
ended (Misplaced sort line role) = bare_end
ended (Elsewhere sort line) = bare_end
ended (Undeclared role inside) = bare_end
ended (Expected found hint) = open_end found

-- the sentence: a token with which no program goes on, or the end of the text
abbrev pub bad_sentence : List ℕ → ℕ → Remark → List ℕ
bad_sentence text at r = if nat_le (length text) at then ended r else stranger (token_at text at)

-- and behind the sentence of a token what could stand in its place
abbrev pub bad_more : List ℕ → ℕ → Remark → List ℕ
bad_more text at r = if nat_le (length text) at then [] else expected r

-- the kinds that could stand there, each as a text
abbrev pub expected_texts : Remark → List (List ℕ)
expected_texts (Expected found hint) = map choice_text found
expected_texts _ = []

-- ---- by a hint

-- a sentence about a place of the text that is judged, with that place in the file
abbrev pub placed : Source → ℕ → List ℕ → Message
placed s at sentence = said (Some (Byte (origin s at))) sentence

-- the line of the file on which it stands
abbrev pub line_in : Source → ℕ → ℕ
line_in s at = (place_of s.bytes.items (origin s at)).line

-- behind a token that begins there
abbrev pub end_in : Source → ℕ → ℕ
end_in s at = at + length (token_at (text_in s) at)

abbrev pub plainly : Source → ℕ → Remark → Message
plainly s at r = with_more (placed s at (bad_sentence (text_in s) at r)) (bad_more (text_in s) at r)

abbrev pub named_habit : List ℕ → HabitOf → List ℕ
named_habit word h = quoted word ++ habit_text h

abbrev pub of_habit : Source → ℕ → HabitOf → Message
of_habit s at h = placed s at (named_habit (token_at (text_in s) at) h)

-- `expected ";" here`
abbrev pub kind_here : Choice → List ℕ
kind_here k = choice_text k ++ codes " here"

abbrev pub missing_sentence : Choice → List ℕ
missing_sentence k = codes "expected " ++ kind_here k

abbrev pub of_missing : Source → Choice → ℕ → Message
of_missing s k behind = placed s (end_in s behind) (missing_sentence k)

abbrev pub open_sentence : List ℕ → ℕ → List ℕ
open_sentence word line =
    codes "the text ends here, and the \"" ++ (word ++ (codes "\" of line " ++ (decimal line ++ codes " has no \"end\"")))

-- the end of the text within a block that begins there
abbrev pub of_open : Source → ℕ → List ℕ → ℕ → Message
of_open s at word begins = with_other (placed s at (open_sentence word (line_in s begins))) (Begins (origin s begins))

abbrev pub taken_sentence : List ℕ → (line by : ℕ) → List ℕ
taken_sentence word line by =
    codes "the text ends here, and the program has no \"end\": that of line " ++ (decimal by ++ (codes " ends the \"" ++ (word
    ++ (codes "\" of line " ++ decimal line))))

-- the end of the text within the program, whose last `end` ends a block that begins there
abbrev pub of_taken : Source → ℕ → List ℕ → (begins by : ℕ) → Message
of_taken s at word begins by =
    with_other (placed s at (taken_sentence word (line_in s begins) (line_in s by))) (Begins (origin s begins))

abbrev pub ended_line : ℕ → List ℕ
ended_line line = codes " can't stand here: the program ended at line " ++ decimal line

abbrev pub behind_end : List ℕ → ℕ → List ℕ
behind_end word line = quoted word ++ ended_line line

-- a token behind the program, whose last one stands there
abbrev pub of_ended : Source → ℕ → ℕ → Message
of_ended s at ends = with_other (placed s at (behind_end (token_at (text_in s) at) (line_in s ends))) (Ends (origin s ends))

abbrev pub hinted : Source → ℕ → Remark → Hint → Message
hinted s at r hint.Nothing = plainly s at r
hinted s at r (hint.Habit h place) = of_habit s place h
hinted s at r (hint.Missing k behind) = of_missing s k behind
hinted s at r (hint.Open o begins) = of_open s at (opening_text o) begins
hinted s at r (hint.OpenProgram begins) = of_open s at (codes "begin") begins
hinted s at r (hint.Taken o begins by) = of_taken s at (opening_text o) begins by
hinted s at r (hint.Ended ends) = of_ended s at ends

abbrev pub hint_of : Remark → Hint
hint_of (Expected found h) = h
hint_of _ = hint.Nothing

-- what is said of that place, by what could stand there and what else there is to say of it
abbrev pub syntax_message : Source → ℕ → Remark → Message
syntax_message s at r = with_expected (hinted s at r (hint_of r)) (expected_texts r)
