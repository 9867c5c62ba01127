-- Why a call stops where the steps of a run are not written to the end.
use Rattle.program_texts.specs.declared.from_text.Refusal.TheVariants as refusal
use Rattle.program_texts.specs.declared.stop.Stop.{Stop}
use Rattle.program_texts.specs.declared.stop.Stop.TheVariants as stop
use Rattle.step_text.specs.declared.failure.StreamFailure.{StreamFailure}
use Rattle.step_text.specs.declared.failure.StreamFailure.TheVariants as failure

-- E11, E16 or E17
abbrev pub stop_of : StreamFailure → Stop
stop_of failure.InputTooLong = stop.Refused refusal.InputTooLong
stop_of failure.OutOfMemory = stop.Refused refusal.OutOfMemory
stop_of failure.WriteFailed = stop.WriteFailed
