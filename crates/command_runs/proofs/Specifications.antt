-- Preconditions and postconditions of files hold as long as names stand for the same files.
use Rattle.std.proofs.Common.{ℕ, List, inl, inr}
use Rattle.std.specs.Prelude.{Option, Some, None}
use Rattle.pram_model.specs.Layout.{SharedEntry}
use Rattle.pram_check.specs.Checked.{Checked}
use Rattle.scopes.specs.declared.specification.Specification.{Specification}
use Rattle.system_files.specs.Files.{IsSame}
use Rattle.command_requests.specs.declared.request.ProgramFile.{ProgramFile}
use Rattle.command_requests.specs.declared.specification_files.SpecificationFiles.{SpecificationFiles}
use Rattle.diagnoses.specs.declared.halted.Halted.{Halted}
use Rattle.command_facts.proofs.Same.{named_held, named_stops, program_held, program_stops}
use Rattle.command_runs.specs.Specified.{IsPostcondition, IsSpecification, StopsAtAlike, StopsAtPostcondition, StopsAtSpecification}

module _ (now before : List ℕ → Option (List ℕ) → Type 0) (same : IsSame now before) (layout : List SharedEntry) where
  pub postcondition_held : (file : Option ProgramFile) (q : Option Checked) → IsPostcondition now layout file q → IsPostcondition before
      layout file q
  postcondition_held None q h = h
  postcondition_held (Some file) None h = h
  postcondition_held (Some file) (Some q) h = (program_held now before same file q h.0, h.1)

  pub specification_held : (files : SpecificationFiles) (s : Specification) → IsSpecification now layout files s → IsSpecification before
      layout files s
  specification_held files s h = record {
    precondition = named_held now before same files.precondition s.precondition h.precondition;
    postcondition = postcondition_held files.postcondition s.postcondition h.postcondition;
  }

  alike_stops : (name : List ℕ) (file : ProgramFile) (h : Halted) → StopsAtAlike now name layout file h → StopsAtAlike before name layout
      file h
  alike_stops name file h (inl stops) = inl (program_stops now before same file h stops)
  alike_stops name file h (inr unlike) = inr (unlike.0, program_held now before same file unlike.0 unlike.1, unlike.2)

  pub postcondition_stops : (name : List ℕ) (file : Option ProgramFile) (h : Halted) → StopsAtPostcondition now name layout file h →
      StopsAtPostcondition before name layout file h
  postcondition_stops name None h stops = stops
  postcondition_stops name (Some file) h stops = alike_stops name file h stops

  pub specification_stops : (name : List ℕ) (files : SpecificationFiles) (h : Halted) → StopsAtSpecification now name layout files h →
      StopsAtSpecification before name layout files h
  specification_stops name files h (inl stops) = inl (named_stops now before same files.precondition h stops)
  specification_stops name files h (inr stops) = inr (postcondition_stops name files.postcondition h stops)
