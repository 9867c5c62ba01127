-- What a call leaves on its streams, by what a voice leaves of what was found, and of a refusal.
use Rattle.std.specs.Prelude.{◌≡◌, ℕ, List, Option, Result, Ok}
use Rattle.text_out.specs.Out.{OutState}
use Rattle.program_texts.specs.declared.status.Status.{Status}
use Rattle.program_texts.specs.declared.status.Status.TheVariants as status
use Rattle.program_texts.specs.declared.stop.Stop.{Stop}
use Rattle.diagnoses.specs.declared.about.About.{About}
use Rattle.diagnoses.specs.declared.halted.Halted.{Halted}
use Rattle.command_requests.specs.declared.arrange_words.ArrangeWords.{ArrangeWords}
use Rattle.command_requests.specs.declared.request.Request.{Request}
use Rattle.command_requests.specs.declared.request.Request.TheVariants as request
use Rattle.command_facts.specs.declared.found.Found.{Found}
use Rattle.command_files.specs.Left.{LeavesArranged}
use Rattle.command_files.specs.WitnessLeft.{LeavesWitness}
use Rattle.command_files.specs.Witness.{wrong_in}
use Rattle.pramc.specs.Calls.{Finds, IsStop, witness_of}

-- What was found is told, and then the first input of it on which something goes wrong is written into the file that is named for it, if
-- one is. `holds` is what names stand for behind that.
pub record LeavesTold (leaves : List (List ℕ) → Found → (out out_new err err_new : OutState) → Status → Type 0)
    (refuses : List (List ℕ) → Stop → About → (err err_new : OutState) → Type 0) (wrote : List ℕ → (err err_new : OutState) → Type 0)
    (holds : List ℕ → Option (List ℕ) → Type 0) (words : List (List ℕ)) (witness : Option (List ℕ)) (found : Found)
    (out out_new err err_new : OutState) (ends : Status) : Type 0 where
  pub between : OutState
  pub told : Status
  pub tells : leaves words found out out_new err between told
  pub writes : LeavesWitness (refuses words) wrote holds witness (wrong_in found) told between err_new ends

-- After a call of these words. What was found is of all that the files hold which the request names. What is refused is said on standard
-- error, and nothing is on standard output then.
pub data Leaves (leaves : List (List ℕ) → Found → (out out_new err err_new : OutState) → Status → Type 0)
    (refuses : List (List ℕ) → Stop → About → (err err_new : OutState) → Type 0) (wrote : List ℕ → (err err_new : OutState) → Type 0)
    (holds holds_new : List ℕ → Option (List ℕ) → Type 0) (words : List (List ℕ)) (asked : Result Request Stop)
    (out out_new err err_new : OutState) : Status → Type 0 where
  Answered : (request : Request) (found : Found) (ends : Status) → asked ≡ Ok request → Finds holds request found
      → LeavesTold leaves refuses wrote holds_new words (witness_of request) found out out_new err err_new ends
      → Leaves leaves refuses wrote holds holds_new words asked out out_new err err_new ends
  LaidOut : (arrange : ArrangeWords) (ends : Status) → asked ≡ Ok (request.Arrange arrange)
      → LeavesArranged (refuses words) holds arrange out out_new err err_new ends
      → Leaves leaves refuses wrote holds holds_new words asked out out_new err err_new ends
  Stopped : (h : Halted) → IsStop holds asked h → out_new ≡ out → refuses words h.stop h.about err err_new
      → Leaves leaves refuses wrote holds holds_new words asked out out_new err err_new status.Refused
