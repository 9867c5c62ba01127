use Rattle.std.proofs.Common.{[], ◌∷◌, ◌++◌, refl, codes}
use Rattle.program_texts.specs.Shown.{bounds_text, spaced}
use Rattle.text_out.proofs.Progress.{breaks_off, closes, goes_on, starts}
use Rattle.program_texts.proofs.ShownLemmas.{entry_split}
use Rattle.program_texts.proofs.show_parts.write_entry.Goals as goal

pub returns-in_err-write_entry_name : goal.returns-in_err-write_entry_name
returns-in_err-write_entry_name g c =
    let values = spaced c.args.values.now in
    let at = entry_split c.args.name.now (bounds_text c.args.bounds.now) (codes " =" ++ values) in
    record {
      written = breaks_off _ _ _ _ _ _ _ c.from_residual.result _ c.from_residual.ensures.1 (starts _ _) at
          c.in_err-write_entry_name.ensures.written;
    }

pub returns-in_err-write_all : goal.returns-in_err-write_all
returns-in_err-write_all g c =
    let values = spaced c.args.values.now in
    let at = entry_split c.args.name.now (bounds_text c.args.bounds.now) (codes " =" ++ values) in
    let named = goes_on _ _ _ _ _ _ _ (starts _ _) at c.in_ok-write_entry_name.ensures.written in
    record {
      written = breaks_off _ _ _ _ _ _ (values ++ 10 ∷ []) c.from_residual-in_err-write_all.result _
          c.from_residual-in_err-write_all.ensures.1 named refl c.in_err-write_all.ensures.written;
    }

pub returns-in_err-write_values : goal.returns-in_err-write_values
returns-in_err-write_values g c =
    let values = spaced c.args.values.now in
    let at = entry_split c.args.name.now (bounds_text c.args.bounds.now) (codes " =" ++ values) in
    let named = goes_on _ _ _ _ _ _ _ (starts _ _) at c.in_ok-write_entry_name.ensures.written in
    let equals = goes_on _ _ _ _ _ _ (values ++ 10 ∷ []) named refl c.in_ok-write_all.ensures.written in
    record {
      written = breaks_off _ _ _ _ _ _ (10 ∷ []) c.from_residual-in_err-write_values.result _
          c.from_residual-in_err-write_values.ensures.1 equals refl c.in_err-write_values.ensures.written;
    }

pub returns : goal.returns
returns g c =
    let values = spaced c.args.values.now in
    let at = entry_split c.args.name.now (bounds_text c.args.bounds.now) (codes " =" ++ values) in
    let named = goes_on _ _ _ _ _ _ _ (starts _ _) at c.in_ok-write_entry_name.ensures.written in
    let equals = goes_on _ _ _ _ _ _ (values ++ 10 ∷ []) named refl c.in_ok-write_all.ensures.written in
    let valued = goes_on _ _ _ _ _ _ (10 ∷ []) equals refl c.in_ok-write_values.ensures.written in
    record { written = closes _ _ _ _ _ c.write_all-2.result valued c.write_all-2.ensures.written }
