use Rattle.std.proofs.Common.{SFits, arith, rules, w64}
use Rattle.std.proofs.lemmas.Int.{to_z-of_z}
use Rattle.pram_tokens.proofs.Inputs.{turn_blank, turn_word, turn_wrong}
use Rattle.pram_tokens.proofs.input.numbers.Goals as goal

pub loop-at-preserved-then-len-eq0 : goal.loop-at-preserved-then-len-eq0
loop-at-preserved-then-len-eq0 c =
    turn_blank c.args.text.now c.split_at.result.1.now c.loop-at.found.items c.loop-at.at c.word_len-len.result c.split_at.ensures.back
    c.loop-at.invariant c.loop-at-test.true
    c.word_len-len.ensures.value c.if-len-eq0.true

pub returns-in-None : goal.returns-in-None
returns-in-None c =
    record {
      numbers = tt;
      wrong = turn_wrong c.args.text.now c.split_at.result.1.now c.loop-at.found.items c.loop-at.at c.word_len-len.result
          c.split_at.ensures.back c.loop-at.invariant c.loop-at-test.true
          c.word_len-len.ensures.value (omega arith) c.split_at-else-len-eq0.result.0.now c.split_at-else-len-eq0.ensures.front
          c.in-None.ensures.value;
    }

pub loop-at-preserved : goal.loop-at-preserved
loop-at-preserved c =
    let fits : SFits w64 c.in-Some.value = search rules in
    rw (c.in_ok-push-in-Some.ensures.items, to_z-of_z w64 c.in-Some.value fits)
    (turn_word c.args.text.now c.split_at.result.1.now c.loop-at.found.items c.loop-at.at c.word_len-len.result c.split_at.ensures.back
    c.loop-at.invariant c.loop-at-test.true
    c.word_len-len.ensures.value (omega arith) c.word_len-len.ensures.within c.split_at-else-len-eq0.result.0.now c.in-Some.value
    c.split_at-else-len-eq0.ensures.front c.in-Some.ensures.value)
