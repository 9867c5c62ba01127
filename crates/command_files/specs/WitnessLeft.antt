-- What is left of an input that is to be written.
use Rattle.std.specs.Prelude.{◌≡◌, ℕ, ℤ, List, Option, Some, None}
use Rattle.text_out.specs.Out.{OutState}
use Rattle.program_texts.specs.declared.status.Status.{Status}
use Rattle.program_texts.specs.declared.status.Status.TheVariants as status
use Rattle.program_texts.specs.declared.stop.Stop.{Stop}
use Rattle.diagnoses.specs.declared.about.About.{About}
use Rattle.command_facts.specs.Refused.{IsUnwritten}
use Rattle.memory_texts.specs.InputText.{input_text}

-- The input on which something goes wrong, if there is one, is written into the file that is asked for, if one is: the file holds its text,
-- which is said; or it isn't written, which is said. `holds` is what names stand for behind that, and `before` the exit status so far.
pub data LeavesWitness (refuses : Stop → About → (err err_new : OutState) → Type 0) (wrote : List ℕ → (err err_new : OutState) → Type 0)
    (holds : List ℕ → Option (List ℕ) → Type 0) (asked : Option (List ℕ)) (wrong : Option (List ℤ)) (before : Status)
    (err err_new : OutState) : Status → Type 0 where
  NotAsked : asked ≡ None → err_new ≡ err → LeavesWitness refuses wrote holds asked wrong before err err_new before
  NothingWrong : wrong ≡ None → err_new ≡ err → LeavesWitness refuses wrote holds asked wrong before err err_new before
  Written : (name : List ℕ) (input : List ℤ) → asked ≡ Some name → wrong ≡ Some input → holds name (Some (input_text input))
      → wrote name err err_new → LeavesWitness refuses wrote holds asked wrong before err err_new before
  Unwritten : (name : List ℕ) (input : List ℤ) (why : Stop) (a : About) → asked ≡ Some name → wrong ≡ Some input → IsUnwritten name why a
      → refuses why a err err_new → LeavesWitness refuses wrote holds asked wrong before err err_new status.Refused
