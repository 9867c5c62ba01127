use Rattle.std.proofs.Common.{◌++◌, ap, sym}
use Rattle.text_places.proofs.Pieces.{both, stops_in_first}
use Rattle.diagnoses.specs.FaultTexts.{fault_diagnosis}
use Rattle.diagnoses.specs.Reasons.{reason_is}
use Rattle.command_text.specs.Explained.{no_reason}
use Rattle.command_text.proofs.explaining.write_fault_alone.Goals as goal

pub returns-in_err-write_run_fault : goal.returns-in_err-write_run_fault
returns-in_err-write_run_fault g c =
    let told = fault_diagnosis c.args.source.now c.args.layout.now c.args.fault.now in
    record {
      written = stops_in_first _ _ _ (told (reason_is c.unknown-reason.result)) no_reason c.from_residual.result _
          (ap (λ r. told r ++ no_reason) (sym c.unknown-reason.ensures)) c.from_residual.ensures.1 c.in_err-write_run_fault.ensures.written;
    }

pub returns : goal.returns
returns g c =
    let told = fault_diagnosis c.args.source.now c.args.layout.now c.args.fault.now in
    record {
      written = both _ _ _ _ (told (reason_is c.unknown-reason.result)) no_reason c.write_all.result
          (ap (λ r. told r ++ no_reason) (sym c.unknown-reason.ensures)) c.in_ok-write_run_fault.ensures.written
          c.write_all.ensures.written;
    }
