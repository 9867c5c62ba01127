-- A comparison of what the files of a call hold.
use Rattle.std.proofs.Common.{◌≡◌, ◌≤◌, ℕ, ℤ, List, subst, sym}
use Rattle.std.specs.Prelude.{Option, length}
use Rattle.pram_model.specs.Layout.{SharedEntry, total_size}
use Rattle.comparing.specs.Compared.{IsComparison}
use Rattle.comparing.specs.declared.rules.UnderRules.{UnderRules}
use Rattle.command_requests.specs.declared.opening.Opening.{Opening}
use Rattle.command_requests.specs.declared.request.ProgramFile.{ProgramFile}
use Rattle.command_facts.specs.declared.loaded.Loaded.{Loaded}
use Rattle.command_facts.specs.Found.{IsLoaded, IsOpening}
use Rattle.command_runs.specs.Runs.{IsComparisonFound}

pub comparison_found : (holds : List ℕ → Option (List ℕ) → Type 0) (file : ProgramFile) (opening : Opening) (bound : ℕ) (l : Loaded)
    (input given : List ℤ) (c : UnderRules) → given ≡ input → IsLoaded (holds file.name.now) file l →
    IsOpening holds l.program.layout opening input → c.layout ≡ l.program.layout → length given ≤ total_size l.program.layout →
    IsComparison l.program given bound c → IsComparisonFound holds file opening bound c
comparison_found holds file opening bound l input given c same is is_input declared fits compared = record {
  loaded = l;
  is_loaded = is;
  input = input;
  given = is_input;
  declared = declared;
  fits = subst (λ (i : List ℤ). length i ≤ total_size c.layout) same
      (subst (λ (e : List SharedEntry). length given ≤ total_size e) (sym declared) fits);
  compared = subst (λ (i : List ℤ). IsComparison l.program i bound c) same compared;
}
