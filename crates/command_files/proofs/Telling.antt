-- What is told behind the files.
use Rattle.std.proofs.Common.{◌≡◌, ℕ, List, subst, sym}
use Rattle.std.specs.Prelude.{Ok, Err}
use Rattle.text_out.specs.Out.{OutState}
use Rattle.program_texts.specs.declared.status.Status.{Status}
use Rattle.program_texts.specs.declared.status.Status.TheVariants as status
use Rattle.program_texts.specs.declared.stop.Stop.{Stop}
use Rattle.diagnoses.specs.declared.about.About.{About}
use Rattle.diagnoses.specs.declared.about.About.TheVariants as about
use Rattle.command_facts.specs.Written.{Wrote}
use Rattle.command_files.specs.declared.arranging.ArrangedFile.{ArrangedFile}
use Rattle.command_files.specs.Left as left
use Rattle.command_files.specs.Left.{Found, LeavesFound, Writes}

module _ (refuses : Stop → About → (err err_new : OutState) → Type 0) (found : Found) (out out_new err between : OutState) (ends : Status)
    (files : List ArrangedFile) (text : List ℕ) (are_files : files ≡ found.written) (is_text : text ≡ found.told)
    (writes : Writes refuses found.ends err files between ends) where
  writes_them : Writes refuses found.ends err found.written between ends
  writes_them = subst (λ (fs : List ArrangedFile). Writes refuses found.ends err fs between ends) are_files writes

  pub told : (s : Status) → Wrote ends text out out_new (Ok s) → LeavesFound refuses found out out_new err between s
  told s wrote =
      let is : Wrote ends found.told out out_new (Ok s) = subst (λ (t : List ℕ). Wrote ends t out out_new (Ok s)) is_text wrote in
      subst (λ (e : Status). LeavesFound refuses found out out_new err between e) (sym is.0) (left.Told ends writes_them is.1)

  pub cut_off : (why told_why : Stop) (a : About) (err_new : OutState) → Wrote ends text out out_new (Err why) → told_why ≡ why →
      a ≡ about.Nothing → refuses told_why a between err_new → LeavesFound refuses found out out_new err err_new status.Refused
  cut_off why told_why a err_new wrote same plain said =
      let is : Wrote ends found.told out out_new (Err why) = subst (λ (t : List ℕ). Wrote ends t out out_new (Err why)) is_text wrote in
      left.CutOff between ends writes_them is.1 (subst (λ (w : Stop). refuses w about.Nothing between err_new) is.0
      (subst (λ (w : Stop). refuses w about.Nothing between err_new) same
      (subst (λ (b : About). refuses told_why b between err_new) plain said)))
