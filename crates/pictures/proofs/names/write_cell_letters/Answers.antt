use Rattle.std.proofs.Common.{◌<◌, ◌∙◌, ap, sym, subst}
use Rattle.text_out.specs.Out.{Writes}
use Rattle.program_texts.specs.Shown.{cell_text}
use Rattle.program_texts.proofs.ShownLemmas.{cell_behind}
use Rattle.svg_texts.specs.Letters.{letters}
use Rattle.pictures.proofs.Spelled.{cell_spelled}
use Rattle.pictures.proofs.names.write_cell_letters.Goals as goal

-- the cell is one of the declaration at i
pub returns-then-rest-size : goal.returns-then-rest-size
returns-then-rest-size g c =
    let below = subst (λ n. c.loop-i.i < n) c.len-i-end.ensures c.loop-i-test.true in
    let same = ap g.W.Out.state c.loop-i.invariant.0 in
    let here = cell_spelled c.args.layout.now c.loop-i.i c.loop-i.rest _
    (λ text. Writes (g.W.Out.state c.loop-i.out) (g.W.Out.state c.write_cell_of.new.out) text c.write_cell_of.result)
    below c.size-size.ensures c.if-rest-size.true c.write_cell_of.ensures.written in
    record {
      written = subst (λ s. Writes s (g.W.Out.state c.write_cell_of.new.out) (letters (cell_text c.args.layout.now c.args.cell))
          c.write_cell_of.result) same
          (subst (λ text. Writes (g.W.Out.state c.loop-i.out) (g.W.Out.state c.write_cell_of.new.out) (letters text)
          c.write_cell_of.result)
          (sym c.loop-i.invariant.1) here);
    }

-- the cell is behind those of the declaration at i
pub loop-i-preserved : goal.loop-i-preserved
loop-i-preserved g c =
    let below = subst (λ n. c.loop-i.i < n) c.len-i-end.ensures c.loop-i-test.true in (
      c.loop-i.invariant.0,
      c.loop-i.invariant.1
          ∙ cell_behind c.args.layout.now c.loop-i.i c.loop-i.rest _ below c.size-size.ensures c.if-rest-size.false,
    )
