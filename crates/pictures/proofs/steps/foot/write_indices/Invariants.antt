use Rattle.std.proofs.Common.{drop}
use Rattle.text_out.proofs.Progress.{Progress}
use Rattle.svg_texts.specs.Shapes.{words_text}
use Rattle.pictures.specs.Steps.Picture.{indices_words}
use Rattle.pictures.proofs.steps.foot.write_indices.Given as goal

abbrev pub invariant-loop-index : goal.invariant-loop-index
invariant-loop-index g l =
    Progress (g.W.Out.state l.fn.out) (g.W.Out.state l.out) (words_text (indices_words l.fn.indices)) (words_text (indices_words (drop
    l.index-index l.fn.indices)))
