use Rattle.std.proofs.Common.{ℕ, List, ◌++◌, ◌∙◌, subst}
use Rattle.std.specs.Prelude.{codes}
use Rattle.text_out.specs.Out.{Writes}
use Rattle.std.proofs.Common.{ap}
use Rattle.std.proofs.lemmas.List.{append-nil}
use Rattle.std.specs.Prelude.{◌-◌, decimal}
use Rattle.pictures.proofs.OfFlows.Lettered.{cut_letters}
use Rattle.pictures.proofs.flows.head.write_cells.Goals as goal

pub returns : goal.returns
returns g c =
    let all = c.as_bytes.ensures.value ∙ c.format.ensures.text ∙ ap decimal c.cells-cells.ensures.total in
    let some = c.as_bytes-2.ensures.value ∙ c.format-2.ensures.text in
    let others = c.as_bytes-3.ensures.value ∙ c.format-3.ensures.text ∙ ap decimal c.saturating_sub-left.ensures ∙ ap (λ n. decimal (n -
    c.args.rows)) c.cells-cells.ensures.total in
    let ended = append-nil c.cell_cut-cut.result.now ∙ c.cell_cut-cut.ensures ∙ cut_letters c.args.found in
    record {
      written = subst (λ (t : List ℕ). Writes (g.W.Out.state c.args.out.now) (g.W.Out.state c.write_parts.new.self) t
          c.write_parts.result)
          (λ i. all i ++ (codes " cells, " ++ (some i ++ (codes " of them drawn, " ++ (others i ++ (codes " not: " ++ (ended i)))))))
          c.write_parts.ensures.written;
    }
