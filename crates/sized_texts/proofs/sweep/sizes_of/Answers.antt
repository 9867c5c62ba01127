use Rattle.std.proofs.Common.{◌∙◌, ap, sym}
use Rattle.sized_texts.specs.SizeRanges.{range_of}
use Rattle.sized_texts.proofs.Ranges.{sizes_of_list, sizes_of_range}
use Rattle.sized_texts.proofs.sweep.sizes_of.Goals as goal

pub returns-in-Some : goal.returns-in-Some
returns-in-Some c =
    sizes_of_range c.args.text.now c.in-Some.range (sym (c.in-Some.ensures ∙ ap range_of c.as_bytes.ensures.value)) c.progression.result
    c.progression.ensures

pub returns-in-None : goal.returns-in-None
returns-in-None c =
    sizes_of_list c.args.text.now (sym (c.in-None.ensures ∙ ap range_of c.as_bytes.ensures.value)) c.listed.result c.listed.ensures
