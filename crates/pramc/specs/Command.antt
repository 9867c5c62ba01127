-- What the program leaves on its streams.
use Rattle.std.specs.Prelude.{◌≡◌, ◌||◌, ℕ, List, Option, Bool, true, false, Result, Ok, IfErr}
use Rattle.text_out.specs.Out.{OutState}
use Rattle.program_texts.specs.declared.status.Status.{Status}
use Rattle.program_texts.specs.declared.stop.Stop.{Stop}
use Rattle.command_requests.specs.Words.{AsksForVersion, IsOfWords, asks_for_gnu, asks_for_json, asks_to_explain}
use Rattle.command_requests.specs.declared.request.Request.{Request}
use Rattle.command_requests.specs.declared.request.Request.TheVariants as request
use Rattle.command_text.specs.Left.{LeavesFound}
use Rattle.command_text.specs.Explained.{IsRefusalReported, IsWrittenSaid}
use Rattle.command_text.specs.declared.terminal.Terminal.{Terminal}
use Rattle.command_json.specs.Left as json
use Rattle.command_json.specs.Left.{IsUnsaid}
use Rattle.pramc.specs.Left.{Leaves}

-- the streams of a call: what is refused, and a fault, is explained where standard error is a terminal or a word asks for it, and told in
-- the lines that editors read where words ask for these
abbrev pub explaining : Terminal → List (List ℕ) → Terminal
explaining on words = record on { errors = on.errors || asks_to_explain words; gnu = asks_for_gnu words }

-- What the words ask for, by their parser, of which no more is known: the version where they ask for that alone, and of a refusal that it
-- is of the words.
abbrev pub IsAsked : List (List ℕ) → Result Request Stop → Type 0
IsAsked words asked = (AsksForVersion words → asked ≡ Ok request.Version) × IfErr asked IsOfWords

-- what is left, in JSON or in words; `holds` and `holds_new` are what names stand for before and behind
abbrev pub LeavesIn : Bool → (holds holds_new : List ℕ → Option (List ℕ) → Type 0) → Terminal → List (List ℕ) → Result Request Stop
    → (out out_new err err_new : OutState) → Status → Type 0
LeavesIn true holds holds_new on words asked out out_new err err_new ends =
    Leaves json.LeavesFound json.IsRefusalSaid IsUnsaid holds holds_new words asked out out_new err err_new ends
LeavesIn false holds holds_new on words asked out out_new err err_new ends =
    Leaves (LeavesFound on) (IsRefusalReported on) IsWrittenSaid holds holds_new words asked out out_new err err_new ends

abbrev pub LeavesAs : (holds holds_new : List ℕ → Option (List ℕ) → Type 0) → Terminal → List (List ℕ) → (out out_new err err_new : OutState)
    → Status → Type 0
LeavesAs holds holds_new on words out out_new err err_new ends = (asked : Result Request Stop) × IsAsked words asked
    × LeavesIn (asks_for_json words) holds holds_new (explaining on words) words asked out out_new err err_new ends
