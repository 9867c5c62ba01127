use Rattle.std.proofs.Common.{◌++◌, ◌∷◌, [], append_assoc, refl}
use Rattle.text_out.proofs.Progress.{breaks_off, closes, goes_on, starts}
use Rattle.journal.specs.Entries.{entry_is}
use Rattle.step_text.specs.ChangeTexts.{number_text, told_text}
use Rattle.step_text.proofs.step_text.write_entry.Goals as goal

pub returns-in_err-write_number : goal.returns-in_err-write_number
returns-in_err-write_number g c =
    let told = told_text c.args.layout.now c.args.detail.now (entry_is c.args.entry.now) in
    record {
      written = breaks_off _ _ _ _ _ (number_text c.args.number) (told ++ 10 ∷ []) c.from_residual.result _ c.from_residual.ensures.1
          (starts _ _) (append_assoc (number_text c.args.number) told (10 ∷ [])) c.in_err-write_number.ensures.written;
    }

pub returns-in_err-write_told : goal.returns-in_err-write_told
returns-in_err-write_told g c =
    let told = told_text c.args.layout.now c.args.detail.now (entry_is c.args.entry.now) in
    let number = goes_on _ _ _ _ _ (number_text c.args.number) (told ++ 10 ∷ []) (starts _ _)
    (append_assoc (number_text c.args.number) told (10 ∷ [])) c.in_ok-write_number.ensures.written in
    record {
      written = breaks_off _ _ _ _ _ told (10 ∷ []) c.from_residual-in_err-write_told.result _
          c.from_residual-in_err-write_told.ensures.1 number refl c.in_err-write_told.ensures.written;
    }

pub returns : goal.returns
returns g c =
    let told = told_text c.args.layout.now c.args.detail.now (entry_is c.args.entry.now) in
    let number = goes_on _ _ _ _ _ (number_text c.args.number) (told ++ 10 ∷ []) (starts _ _)
    (append_assoc (number_text c.args.number) told (10 ∷ [])) c.in_ok-write_number.ensures.written in
    let text = goes_on _ _ _ _ _ told (10 ∷ []) number refl c.in_ok-write_told.ensures.written in
    record { written = closes _ _ _ _ _ c.write_all.result text c.write_all.ensures.written }
