use Rattle.std.proofs.Common.{rules, ◌≡◌, ◌+◌, ◌≤◌, ◌∷◌, [], ◌++◌, length, take, sym, ap, ◌∙◌, arith, append_assoc, append-nil, length-set}
use Rattle.std.proofs.Common.{length-take-le, w64, of_z, FitsSigned}
use Rattle.std.proofs.lemmas.Int.{to_z-of_z}
use Rattle.std.proofs.lemmas.List.{drop-set-lt}
use Rattle.superstep_machine.specs.Words.{word_of}
use Rattle.combining.specs.Gathering.{value_at}
use Rattle.combining.specs.Answers.{answers}
use Rattle.combining.proofs.AnswerWords.{answers_next, answers_end}
use Rattle.combining.proofs.Packing.{take_one, drop_further}
use Rattle.combining.proofs.answers.answer_words.Goals as goal

pub loop-ask-preserved : goal.loop-ask-preserved
loop-ask-preserved g c =
    let m = g.M.AddressMap.shape c.args.map.now in
    let j = c.args.part in
    let values = c.args.values.now in
    let inv = c.loop-ask.invariant in
    let x = c.in-Some.ask in
    let out = c.loop-ask.out in
    let n = c.loop-ask.n in
    let shorter = c.in-Some.ensures.shorter in
    let behind = answers m j values c.in-Some.behind.now in
    let fits : FitsSigned w64 c.value_of.result = search rules in
    let word : c.cast_unsigned.result ≡ word_of (value_at values x.offset) =
    c.cast_unsigned.ensures ∙ ap (of_z w64) (to_z-of_z w64 c.value_of.result fits) ∙ ap (of_z w64) c.value_of.ensures in
    let room : n + 1 ≤ length out = (let f = inv.few in let r = c.requires.room in let l = inv.long in omega (arith, f, r, l, shorter)) in
    record {
      few = (let f = inv.few in omega (arith, f, shorter));
      long = length-set _ _ _ ∙ inv.long;
      written =
          ap (λ ws. ws ++ behind) (take_one out n c.cast_unsigned.result room)
          ∙ append_assoc (take n out) (c.cast_unsigned.result ∷ []) behind
          ∙ ap (λ w. take n out ++ w ∷ behind) word
          ∙ sym (ap (λ ws. take n out ++ ws) (answers_next m j values c.loop-ask.rest.now c.in-Some.behind.now x c.in-Some.ensures.item))
          ∙ inv.written;
      rest = drop-set-lt (n + 1) out n c.cast_unsigned.result (omega arith) ∙ drop_further out c.args.out.now n 1 inv.rest;
    }

pub returns-clause-words : goal.returns-clause-words
returns-clause-words g c =
    let m = g.M.AddressMap.shape c.args.map.now in
    let before = take c.loop-ask.n c.loop-ask.out in
    sym (append-nil before)
    ∙ sym (ap (λ ws. before ++ ws) (answers_end m c.args.part c.args.values.now c.loop-ask.rest.now (c.next.ensures.none c.in_default.is)))
    ∙ c.loop-ask.invariant.written

pub returns-clause-count : goal.returns-clause-count
returns-clause-count g c =
    let room : c.loop-ask.n ≤ length c.loop-ask.out =
    (let f = c.loop-ask.invariant.few in let l = c.loop-ask.invariant.long in let r = c.requires.room in omega (arith, f, l, r)) in
    sym (length-take-le c.loop-ask.n c.loop-ask.out room) ∙ ap length (returns-clause-words g c)
