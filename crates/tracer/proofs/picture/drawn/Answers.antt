use Rattle.std.proofs.Common.{ap, min, sym, ◌∙◌}
use Rattle.std.proofs.lemmas.List.{length-take}
use Rattle.tracer.proofs.picture.drawn.Goals as goal

pub returns-clause-drawn : goal.returns-clause-drawn
returns-clause-drawn c = c.min.ensures ∙ ap (min 200) c.len.ensures ∙ sym (length-take 200 c.args.counts.now)
