use Rattle.std.proofs.Common.{◌++◌, map, refl}
use Rattle.program_texts.specs.Shown.{fault_text}
use Rattle.text_out.proofs.Progress.{breaks_off, closes, goes_on, starts}
use Rattle.journal.specs.Entries.{own_is}
use Rattle.step_text.specs.ChangeTexts.{meeting_text}
use Rattle.step_text.specs.Columns.{column_text}
use Rattle.step_text.specs.OwnLocals.{own_text}
use Rattle.step_text.proofs.step_text.write_faulting.Goals as goal

pub returns-in_err-write_fault_text : goal.returns-in_err-write_fault_text
returns-in_err-write_fault_text g c =
    let d = c.args.detail.now in
    let at = c.args.location.offset in
    let own = own_text d.locals at (map own_is c.args.locals.now) in
    let rest = column_text d.columns at ++ (meeting_text c.args.processors.now ++ own) in
    record {
      written = breaks_off _ _ _ _ _ (fault_text c.args.layout.now c.args.fault.now) rest c.from_residual.result _
          c.from_residual.ensures.1 (starts _ _) refl c.in_err-write_fault_text.ensures.written;
    }

pub returns-in_err-write_column : goal.returns-in_err-write_column
returns-in_err-write_column g c =
    let d = c.args.detail.now in
    let at = c.args.location.offset in
    let own = own_text d.locals at (map own_is c.args.locals.now) in
    let rest = column_text d.columns at ++ (meeting_text c.args.processors.now ++ own) in
    let fault = goes_on _ _ _ _ _ (fault_text c.args.layout.now c.args.fault.now) rest
    (starts _ _) refl c.in_ok-write_fault_text.ensures.written in
    record {
      written = breaks_off _ _ _ _ _ (column_text d.columns at) (meeting_text c.args.processors.now ++ own)
          c.from_residual-in_err-write_column.result _ c.from_residual-in_err-write_column.ensures.1 fault refl
          c.in_err-write_column.ensures.written;
    }

pub returns-in_err-write_meeting : goal.returns-in_err-write_meeting
returns-in_err-write_meeting g c =
    let d = c.args.detail.now in
    let at = c.args.location.offset in
    let own = own_text d.locals at (map own_is c.args.locals.now) in
    let rest = column_text d.columns at ++ (meeting_text c.args.processors.now ++ own) in
    let fault = goes_on _ _ _ _ _ (fault_text c.args.layout.now c.args.fault.now) rest
    (starts _ _) refl c.in_ok-write_fault_text.ensures.written in
    let column = goes_on _ _ _ _ _ (column_text d.columns at) (meeting_text c.args.processors.now ++ own) fault refl
    c.in_ok-write_column.ensures.written in
    record {
      written = breaks_off _ _ _ _ _ (meeting_text c.args.processors.now) own c.from_residual-in_err-write_meeting.result _
          c.from_residual-in_err-write_meeting.ensures.1 column refl c.in_err-write_meeting.ensures.written;
    }

pub returns : goal.returns
returns g c =
    let d = c.args.detail.now in
    let at = c.args.location.offset in
    let own = own_text d.locals at (map own_is c.args.locals.now) in
    let rest = column_text d.columns at ++ (meeting_text c.args.processors.now ++ own) in
    let fault = goes_on _ _ _ _ _ (fault_text c.args.layout.now c.args.fault.now) rest
    (starts _ _) refl c.in_ok-write_fault_text.ensures.written in
    let column = goes_on _ _ _ _ _ (column_text d.columns at) (meeting_text c.args.processors.now ++ own) fault refl
    c.in_ok-write_column.ensures.written in
    let met = goes_on _ _ _ _ _ (meeting_text c.args.processors.now) own column refl c.in_ok-write_meeting.ensures.written in
    record { written = closes _ _ _ _ _ c.write_own_locals.result met c.write_own_locals.ensures.written }
