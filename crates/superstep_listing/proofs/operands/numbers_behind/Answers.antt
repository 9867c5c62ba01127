use Rattle.std.proofs.Common.{◌∙◌, ◌++◌, ap, arith}
use Rattle.superstep_listing.specs.Cutting.{behind_word, spaced}
use Rattle.superstep_listing.proofs.Spaces.{follows_behind, next_number, too_many}
use Rattle.superstep_listing.proofs.operands.numbers_behind.Goals as goal

pub returns-in_default-number : goal.returns-in_default-number
returns-in_default-number c = record {
  value = λ zs few fit e.
      let read = c.loop-left.invariant.read ∙ ap (λ o. spaced c.loop-left.found.items ++ behind_word o) c.in-Some.is in
      let z = next_number _ _ _ _ c.loop-left.found.items zs read c.loop-left.invariant.fit c.first_word.ensures.whole
      c.first_word.ensures.lacks
      (follows_behind c.first_word.result.1) fit e in
      c.in_default-number.ensures.value z.0 z.1 z.2;
}

pub returns-then-len-eq-MOST : goal.returns-then-len-eq-MOST
returns-then-len-eq-MOST c = record {
  value = λ zs few fit e.
      let read = c.loop-left.invariant.read ∙ ap (λ o. spaced c.loop-left.found.items ++ behind_word o) c.in-Some.is in
      let more = too_many _ c.in-Some.text.now c.loop-left.found.items zs read c.loop-left.invariant.fit fit e in
      absurd (omega arith);
}
