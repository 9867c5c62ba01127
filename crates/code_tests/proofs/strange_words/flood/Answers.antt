use Rattle.std.proofs.Common.{◌∙◌, arith}
use Rattle.code_tests.proofs.FloodLemmas.{fresh_flooded}
use Rattle.code_tests.proofs.strange_words.flood.Goals as goal

pub under-requires : goal.under-requires
under-requires g c =
    let most = c.capacity-most.ensures in
    let few = c.if-words-most.false in (
      c.rule.ensures.value,
      fresh_flooded _ _ _ _ _ _ c.requires.fresh c.requires.two (c.in-Ok.ensures ∙ most) (omega (arith, most, few)),
    )
