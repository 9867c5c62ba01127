use Rattle.std.proofs.Common.{List, refl, subst}
use Rattle.pram_model.specs.Layout.{SharedEntry}
use Rattle.text_out.specs.Out.{Writes}
use Rattle.text_out.proofs.Progress.{breaks_off, closes, goes_on, starts}
use Rattle.comparing.specs.ComparisonText.{cells_line}
use Rattle.scopes.specs.Found.{found_is}
use Rattle.scopes.specs.FindingsText.{findings_text}
use Rattle.command_text.proofs.writing.write_explored.Goals as goal

pub returns-in_err-write_cells : goal.returns-in_err-write_cells
returns-in_err-write_cells g c =
    let f = c.args.explored.now in
    record {
      written = breaks_off _ _ _ _ _ (cells_line f.drawn) (findings_text f.program.layout f.specification (found_is f.findings))
          c.from_residual.result _ c.from_residual.ensures.1 (starts _ _) refl c.in_err-write_cells.ensures.written;
    }

pub returns : goal.returns
returns g c =
    let f = c.args.explored.now in
    record {
      written = closes _ _ _ _ _ c.write_findings.result
          (goes_on _ _ _ _ _ (cells_line f.drawn) (findings_text f.program.layout f.specification (found_is f.findings))
          (starts _ _) refl c.in_ok-write_cells.ensures.written)
          (subst (λ (l : List SharedEntry). Writes (g.O.Out.state c.write_cells.new.out) (g.O.Out.state c.write_findings.new.out)
          (findings_text l f.specification (found_is f.findings)) c.write_findings.result) c.layout.ensures
          c.write_findings.ensures.written);
    }
