-- What is said of a fault, by the reason that was found or none.
use Rattle.std.proofs.Common.{◌≡◌, List, Option, None, Some, ap, inl, inr, refl}
use Rattle.std.specs.Option.{option_map}
use Rattle.std.specs.Prelude.{IfSome}
use Rattle.pram_model.specs.Layout.{SharedEntry}
use Rattle.write_rules.specs.declared.fault.Fault.{Fault}
use Rattle.diagnoses.specs.declared.reason.Reason.{Reason}
use Rattle.diagnoses.specs.Reasons.{reason_is, run_reason}
use Rattle.command_facts.specs.declared.found.FoundRun.{FoundRun}
use Rattle.command_text.specs.Explained.{IsFaultSaid, fault_said}

pub fault_is_said : (r : FoundRun) (fault : Fault) (found : Option Reason) →
    IfSome found (λ reason. reason_is reason ≡ run_reason r.loaded.program r.input.items r.limit.bound) →
    IsFaultSaid r fault (fault_said r.loaded.source r.loaded.program.layout fault (option_map reason_is found))
fault_is_said r fault None is = inr refl
fault_is_said r fault (Some reason) is =
    inl (ap (λ why. fault_said r.loaded.source r.loaded.program.layout fault (Some why)) is)
