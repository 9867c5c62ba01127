use Rattle.std.proofs.Common.{◌≡◌, ◌∙◌, ◌++◌, sym, ap, append_assoc}
use Rattle.std.specs.Prelude.{Some}
use Rattle.superstep_listing.specs.Cutting.{behind_word, spaced}
use Rattle.superstep_listing.specs.Decoding.{candidate_of, template_of}
use Rattle.superstep_listing.specs.Listing.{numbers_of, side_of, stem_of}
use Rattle.superstep_listing.proofs.Decoded.{blank, candidate_same, few_numbers, numbers_fit, split_body, template_word}
use Rattle.superstep_listing.proofs.Numerals.{other_numbers, same_numbers}
use Rattle.superstep_listing.proofs.Spaces.{follows_behind, spaced_once}
use Rattle.superstep_listing.proofs.candidate.body_of.Goals as goal

pub returns-in_default : goal.returns-in_default
returns-in_default c = record {
  value = λ i fits e.
      let parts = split_body c.args.text.now c.first_word.result.0.now _ i c.first_word.ensures.whole c.first_word.ensures.lacks
      (follows_behind c.first_word.result.1) e in
      let found = ap template_of parts.0 ∙ template_word i in
      let none = c.template.ensures.value in let is = c.in_default.is in cc;
}

pub returns-in_default-numbers_behind : goal.returns-in_default-numbers_behind
returns-in_default-numbers_behind c = record {
  value = λ i fits e.
      let parts = split_body c.args.text.now c.first_word.result.0.now _ i c.first_word.ensures.whole c.first_word.ensures.lacks
      (follows_behind c.first_word.result.1) e in
      c.in_default-numbers_behind.ensures.value (numbers_of i) (few_numbers i) (numbers_fit i fits) parts.1;
}

pub returns-then-ne : goal.returns-then-ne
returns-then-ne c = record {
  value = λ i fits e.
      let parts = split_body c.args.text.now c.first_word.result.0.now _ i c.first_word.ensures.whole c.first_word.ensures.lacks
      (follows_behind c.first_word.result.1) e in
      let h = c.in-Some-numbers_behind.ensures.value in
      let ns = spaced_once c.in-Some-numbers_behind.found.items (numbers_of i) h.0 (numbers_fit i fits) (sym h.1 ∙ parts.1) in
      let is = c.in-Some.is in
      let found : c.template.result ≡ Some (blank i) = c.template.ensures.value ∙ ap template_of parts.0 ∙ template_word i in
      let start : c.in-Some.blank ≡ blank i = cc in
      let same = c.candidate-instr.ensures.value ∙ ap (λ t. candidate_of t c.as_slice.result.now) start
      ∙ ap (candidate_of (blank i)) (c.as_slice.ensures.value ∙ ns) ∙ candidate_same i fits in
      other_numbers c.ne.result _ _ c.ne.ensures c.if-ne.true (c.numbers-count.ensures.numbers ∙ ap numbers_of same ∙ sym ns
      ∙ sym c.as_slice-2.ensures.value);
}

pub returns : goal.returns
returns c = record {
  value =
      let instr = c.candidate-instr.result in
      let ns = sym c.as_slice-2.ensures.value ∙ sym (same_numbers c.ne.result _ _ c.ne.ensures c.if-ne.false)
      ∙ c.numbers-count.ensures.numbers in
      let word = sym c.in-Some.ensures.some ∙ sym c.candidate-instr.ensures.word in
      c.first_word.ensures.whole ∙ ap (λ w. w ++ behind_word c.first_word.result.1) word
      ∙ ap (λ l. (side_of instr ++ stem_of instr) ++ l) (c.in-Some-numbers_behind.ensures.value.1 ∙ ap spaced ns)
      ∙ append_assoc (side_of instr) (stem_of instr) (spaced (numbers_of instr));
}
