use Rattle.std.proofs.Common.{Err, Ok, ◌+◌}
use Rattle.pages.specs.Page.{page}
use Rattle.step_text.specs.declared.failure.StreamFailure.TheVariants as failure
use Rattle.pages.proofs.Whole.{fits_in, is_page, not_too_long}
use Rattle.pages.proofs.streaming.stream_page.Goals as goal

pub returns-in-Ok-write_page-clause-fits : goal.returns-in-Ok-write_page-clause-fits
returns-in-Ok-write_page-clause-fits g c = fits_in _ _ _ _ c.cells.ensures.total c.layout.ensures c.if-input-cells.false

pub returns-in-Ok-write_page-clause-too_long : goal.returns-in-Ok-write_page-clause-too_long
returns-in-Ok-write_page-clause-too_long g c =
    not_too_long (Ok c.in-Ok.ending) _ _ tt (fits_in _ _ _ _ c.cells.ensures.total c.layout.ensures c.if-input-cells.false)

pub returns-in-Err-clause-too_long : goal.returns-in-Err-clause-too_long
returns-in-Err-clause-too_long g c =
    not_too_long (Err failure.WriteFailed) _ _ tt (fits_in _ _ _ _ c.cells.ensures.total c.layout.ensures c.if-input-cells.false)

pub returns-in-Ok-write_page-clause-written : goal.returns-in-Ok-write_page-clause-written
returns-in-Ok-write_page-clause-written g c =
    let p = c.in-Ok.page in
    let h = c.in-Ok.ensures.page in
    let state = c.as_bytes.result.now in (
      page h.keeps.facts state p.kept.front (h.keeps.holds.offset + p.kept.back),
      (c.in-Ok.ensures.outcome, is_page _ _ _ _ _ _ _ _ p state c.as_bytes.ensures.value h),
      c.in-Ok-write_page.ensures.written h.keeps.facts h.keeps.holds,
    )

pub returns-in-Err-clause-written : goal.returns-in-Err-clause-written
returns-in-Err-clause-written g c =
    let p = c.in-Ok.page in
    let h = c.in-Ok.ensures.page in
    let state = c.as_bytes.result.now in (
      c.in-Ok.ending,
      c.in-Ok.ensures.ends,
      page h.keeps.facts state p.kept.front (h.keeps.holds.offset + p.kept.back),
      (c.in-Ok.ensures.outcome, is_page _ _ _ _ _ _ _ _ p state c.as_bytes.ensures.value h),
      c.in-Err.ensures.written h.keeps.facts h.keeps.holds,
    )
