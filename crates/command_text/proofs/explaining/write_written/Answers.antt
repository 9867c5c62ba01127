use Rattle.std.proofs.Common.{◌++◌, ◌∙◌, List, ℕ, ap, codes, refl, subst}
use Rattle.text_out.specs.Out.{StopsIn, with_bytes}
use Rattle.text_out.proofs.Progress.{breaks_off, closes, goes_on, starts}
use Rattle.text_places.specs.Escaped.{escaped}
use Rattle.command_text.proofs.explaining.write_written.Goals as goal

pub returns-in_err-write_all : goal.returns-in_err-write_all
returns-in_err-write_all g c = record {
  written = breaks_off _ _ _ _ _ (codes "wrote the input to ") (escaped c.args.name.now ++ codes "\n") c.from_residual.result _
      c.from_residual.ensures.1 (starts _ _) refl c.in_err-write_all.ensures.written;
}

pub returns-in_err-write_escaped : goal.returns-in_err-write_escaped
returns-in_err-write_escaped g c =
    let words = goes_on _ _ _ _ _ (codes "wrote the input to ") (escaped c.args.name.now ++ codes "\n") (starts _ _) refl
    c.in_ok-write_all.ensures.written in
    let named = subst (λ (b : List ℕ). StopsIn (g.E.Out.state c.write_all.new.self) (g.E.Out.state c.write_escaped.new.out) (escaped b))
    c.as_bytes.ensures.value c.in_err-write_escaped.ensures.written in
    record {
      written = breaks_off _ _ _ _ _ (escaped c.args.name.now) (codes "\n") c.from_residual-in_err-write_escaped.result _
          c.from_residual-in_err-write_escaped.ensures.1 words refl named;
    }

pub returns : goal.returns
returns g c =
    let words = goes_on _ _ _ _ _ (codes "wrote the input to ") (escaped c.args.name.now ++ codes "\n") (starts _ _) refl
    c.in_ok-write_all.ensures.written in
    let named = c.in_ok-write_escaped.ensures.written ∙ ap (λ b. with_bytes (g.E.Out.state c.write_all.new.self) (escaped b)) c.as_bytes.ensures.value in
    let all = goes_on _ _ _ _ _ (escaped c.args.name.now) (codes "\n") words refl named in
    record { written = closes _ _ _ _ _ c.write_all-2.result all c.write_all-2.ensures.written }
