use Rattle.std.proofs.Common.{◌≡◌, List, ap, subst, ℤ}
use Rattle.std.specs.Option.{option_map}
use Rattle.std.specs.Prelude.{IfSome}
use Rattle.pram_model.specs.Layout.{SharedEntry}
use Rattle.diagnoses.specs.Reasons.{reason_is, run_reason}
use Rattle.command_facts.proofs.Writing.{reported, reported_in_part}
use Rattle.command_text.specs.Explained.{fault_said}
use Rattle.command_text.proofs.FaultSaid.{fault_is_said}
use Rattle.command_text.proofs.explaining.say_run_fault.Goals as goal

pub returns-then-is_ok : goal.returns-then-is_ok
returns-then-is_ok g c =
    let run = c.args.run.now in
    let found = c.find_reason-reason.result in
    let same = ap (λ (l : List SharedEntry). fault_said run.loaded.source l c.args.fault.now (option_map reason_is found))
    c.layout.ensures in
    record {
      written = (
        _,
        fault_is_said run c.args.fault.now found
            (subst (λ (i : List ℤ). IfSome found (λ reason. reason_is reason ≡ run_reason run.loaded.program i run.limit.bound))
            c.deref.ensures.value c.find_reason-reason.ensures),
        reported _ _ _ _ _ c.write_fault_of.result c.flush.result same c.write_fault_of.ensures.written c.if-is_ok.ensures.value
            c.flush.ensures.ok c.flush.ensures.failed,
      );
    }

pub returns : goal.returns
returns g c =
    let run = c.args.run.now in
    let found = c.find_reason-reason.result in
    let same = ap (λ (l : List SharedEntry). fault_said run.loaded.source l c.args.fault.now (option_map reason_is found))
    c.layout.ensures in
    record {
      written = (
        _,
        fault_is_said run c.args.fault.now found
            (subst (λ (i : List ℤ). IfSome found (λ reason. reason_is reason ≡ run_reason run.loaded.program i run.limit.bound))
            c.deref.ensures.value c.find_reason-reason.ensures),
        reported_in_part _ _ _ _ c.write_fault_of.result same c.write_fault_of.ensures.written c.if-is_ok.ensures.value,
      );
    }
