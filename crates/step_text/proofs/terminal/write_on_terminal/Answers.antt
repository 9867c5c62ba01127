use Rattle.text_out.proofs.Progress.{breaks_off, closes, goes_on, starts}
use Rattle.std.proofs.Common.{◌++◌, ℕ, refl, subst}
use Rattle.text_out.specs.Out.{Writes}
use Rattle.journal.specs.Entries.{entry_is}
use Rattle.step_text.specs.OnTerminal.{beside, line_of, told_text}
use Rattle.step_text.proofs.terminal.write_on_terminal.Goals as goal

pub returns-in_err-write_number : goal.returns-in_err-write_number
returns-in_err-write_number g c =
    let e = entry_is c.args.entry.now in
    record {
      written = breaks_off _ _ _ _ _ _ (told_text c.args.layout.now c.args.colours c.args.detail.now e ++ beside c.args.text.now
          (line_of e)) c.from_residual.result _ c.from_residual.ensures.1
          (starts _ _) refl c.in_err-write_number.ensures.written;
    }

pub returns-in_err-write_told : goal.returns-in_err-write_told
returns-in_err-write_told g c =
    let e = entry_is c.args.entry.now in
    let after_1 = goes_on _ _ _ _ _ _ (told_text c.args.layout.now c.args.colours c.args.detail.now e ++ beside c.args.text.now (line_of e))
    (starts _ _) refl c.in_ok-write_number.ensures.written in
    record {
      written = breaks_off _ _ _ _ _ _ (beside c.args.text.now (line_of e)) c.from_residual-in_err-write_told.result _
          c.from_residual-in_err-write_told.ensures.1 after_1 refl c.in_err-write_told.ensures.written;
    }

pub returns : goal.returns
returns g c =
    let e = entry_is c.args.entry.now in
    let after_1 = goes_on _ _ _ _ _ _ (told_text c.args.layout.now c.args.colours c.args.detail.now e ++ beside c.args.text.now (line_of e))
    (starts _ _) refl c.in_ok-write_number.ensures.written in
    let after_2 = goes_on _ _ _ _ _ _ (beside c.args.text.now (line_of e)) after_1 refl c.in_ok-write_told.ensures.written in
    record {
      written = closes _ _ _ _ _ c.write_beside.result after_2
          (subst (λ (at : ℕ). Writes (g.W.Out.state c.write_told.new.out) (g.W.Out.state c.write_beside.new.out) (beside c.args.text.now at)
          c.write_beside.result) c.line_of.ensures c.write_beside.ensures.written);
    }
