use Rattle.std.proofs.Common.{◌++◌, ap, refl, sym}
use Rattle.text_places.proofs.Pieces.{both, stops_in_first}
use Rattle.pages.specs.Facts.{behind_text, embedded}
use Rattle.pages.proofs.facts.write_both.Goals as goal

pub returns-in_err-write_lines : goal.returns-in_err-write_lines
returns-in_err-write_lines g c = record {
  written = stops_in_first _ _ _ _ _ c.from_residual.result _ refl c.from_residual.ensures.1 c.in_err-write_lines.ensures.written;
}

pub returns : goal.returns
returns g c =
    let counted = ap (λ n. embedded c.args.first.now ++ behind_text c.args.state.now c.args.last.now n c.args.left)
    (sym c.line_count.ensures.value) in
    record { written = both _ _ _ _ _ _ c.write_behind.result counted c.in_ok-write_lines.ensures.written c.write_behind.ensures.written }
