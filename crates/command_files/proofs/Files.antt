-- What is found of a file is so as long as the names stand for the same files.
use Rattle.std.proofs.Common.{ℕ, List}
use Rattle.std.specs.Prelude.{Option}
use Rattle.system_files.specs.Files.{IsSame}
use Rattle.text_out.specs.Out.{OutState}
use Rattle.program_texts.specs.declared.stop.Stop.{Stop}
use Rattle.diagnoses.specs.declared.about.About.{About}
use Rattle.command_requests.specs.declared.arrange_words.ArrangeForm.{ArrangeForm}
use Rattle.command_requests.specs.declared.request.ProgramFile.{ProgramFile}
use Rattle.command_facts.proofs.Same.{program_stops}
use Rattle.command_files.specs.declared.arranging.ArrangedFile.{ArrangedFile}
use Rattle.command_files.specs.Arranged.{IsArranged}
use Rattle.command_files.specs.Left as left
use Rattle.command_files.specs.Left.{Found, Takes}

module _ (now before : List ℕ → Option (List ℕ) → Type 0) (same : IsSame now before) where
  arranged_held : (file : ProgramFile) (a : ArrangedFile) → IsArranged (now file.name.now) file a → IsArranged (before file.name.now) file a
  arranged_held file a h = record {
    source = h.source;
    is_text = ((same file.name.now _).0 h.is_text.0, h.is_text.1);
    tree = h.tree;
    is_tree = h.is_tree;
    name = h.name;
    old = h.old;
    new = h.new;
  }

  pub takes_held : (refuses : Stop → About → (err err_new : OutState) → Type 0) (form : ArrangeForm) (file : ProgramFile) (f g : Found)
      (err err_new : OutState) → Takes refuses now form file f err err_new g → Takes refuses before form file f err err_new g
  takes_held refuses form file f g err err_new (left.Arranged a is becomes stays) = left.Arranged a (arranged_held file a is) becomes stays
  takes_held refuses form file f g err err_new (left.Refused h stops said becomes) =
      left.Refused h (program_stops now before same file h stops) said becomes
