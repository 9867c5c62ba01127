use Rattle.std.proofs.Common.{◌++◌, refl}
use Rattle.std.specs.Prelude.{codes}
use Rattle.text_out.proofs.Progress.{breaks_off, closes, goes_on, starts}
use Rattle.sweeps.specs.GrowthText.{growth_words}
use Rattle.sweeps.proofs.growth_text.write_line.Goals as goal

pub returns-in_err-write_parts : goal.returns-in_err-write_parts
returns-in_err-write_parts g c =
    let text = growth_words c.args.variable.now c.args.growth.now in
    record {
      written = breaks_off _ _ _ _ _ (c.args.label.now ++ codes " ") (text ++ codes "\n") c.from_residual.result _
          c.from_residual.ensures.1 (starts _ _) refl c.in_err-write_parts.ensures.written;
    }

pub returns-in_err-write_growth_words : goal.returns-in_err-write_growth_words
returns-in_err-write_growth_words g c =
    let text = growth_words c.args.variable.now c.args.growth.now in
    let named = goes_on _ _ _ _ _ (c.args.label.now ++ codes " ") (text ++ codes "\n") (starts _ _) refl
    c.in_ok-write_parts.ensures.written in
    record {
      written = breaks_off _ _ _ _ _ text (codes "\n") c.from_residual-in_err-write_growth_words.result _
          c.from_residual-in_err-write_growth_words.ensures.1 named refl c.in_err-write_growth_words.ensures.written;
    }

pub returns : goal.returns
returns g c =
    let text = growth_words c.args.variable.now c.args.growth.now in
    let named = goes_on _ _ _ _ _ (c.args.label.now ++ codes " ") (text ++ codes "\n") (starts _ _) refl
    c.in_ok-write_parts.ensures.written in
    let told = goes_on _ _ _ _ _ text (codes "\n") named refl c.in_ok-write_growth_words.ensures.written in
    record { written = closes _ _ _ _ _ c.write_all.result told c.write_all.ensures.written }
