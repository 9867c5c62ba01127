use Rattle.text_out.proofs.Progress.{breaks_off, closes, goes_on, starts}
use Rattle.std.proofs.Common.{◌∷◌, ◌++◌, codes, refl}
use Rattle.step_text.specs.ChangeTexts.{changes_text}
use Rattle.step_text.proofs.terminal.write_in_colour.Goals as goal

pub returns-in_err-write_all : goal.returns-in_err-write_all
returns-in_err-write_all g c =
    record {
      written = breaks_off _ _ _ _ _ _ (changes_text c.args.layout.now c.args.changes.now ++ 27 ∷ codes "[0m") c.from_residual.result
          _ c.from_residual.ensures.1 (starts _ _) refl c.in_err-write_all.ensures.written;
    }

pub returns-in_err-write_changes : goal.returns-in_err-write_changes
returns-in_err-write_changes g c =
    let after_1 = goes_on _ _ _ _ _ _ (changes_text c.args.layout.now c.args.changes.now ++ 27 ∷ codes "[0m") (starts _ _) refl
    c.in_ok-write_all.ensures.written in
    record {
      written = breaks_off _ _ _ _ _ _ (27 ∷ codes "[0m") c.from_residual-in_err-write_changes.result _
          c.from_residual-in_err-write_changes.ensures.1 after_1 refl c.in_err-write_changes.ensures.written;
    }

pub returns : goal.returns
returns g c =
    let after_1 = goes_on _ _ _ _ _ _ (changes_text c.args.layout.now c.args.changes.now ++ 27 ∷ codes "[0m") (starts _ _) refl
    c.in_ok-write_all.ensures.written in
    let after_2 = goes_on _ _ _ _ _ _ (27 ∷ codes "[0m") after_1 refl c.in_ok-write_changes.ensures.written in
    record { written = closes _ _ _ _ _ c.write_all-2.result after_2 c.write_all-2.ensures.written }
