use Rattle.std.proofs.Common.{drop}
use Rattle.program_texts.specs.Shown.{item_lines}
use Rattle.text_out.proofs.Progress.{Progress}
use Rattle.program_texts.proofs.show_parts.write_items.Given as goal

abbrev pub invariant-loop-item : goal.invariant-loop-item
invariant-loop-item g l = Progress (g.W.Out.state l.fn.out) (g.W.Out.state l.out) (item_lines l.fn.items)
    (item_lines (drop l.item-index l.fn.items))
