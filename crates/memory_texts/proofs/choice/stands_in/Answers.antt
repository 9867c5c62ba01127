use Rattle.std.proofs.Common.{◌∙◌, ◌+◌, ◌||◌, ap, arith, drop, length, lit<, sym}
use Rattle.std.proofs.lemmas.Iterator.Consumers.{YieldsList-end, YieldsList-turn}
use Rattle.std.proofs.lemmas.Iterator.Splits.{YieldsList-from_str_split}
use Rattle.std.proofs.lemmas.List.{at_drop_all, length_push}
use Rattle.pram_model.specs.Names.{is_one_of}
use Rattle.memory_texts.specs.Chosen.{parts}
use Rattle.memory_texts.proofs.Parts.{stands_more}
use Rattle.memory_texts.proofs.choice.stands_in.Goals as goal

pub returns-then-is_same : goal.returns-then-is_same
returns-then-is_same c =
    let e = YieldsList-from_str_split {s = c.into_iter-part-iterator.result} 44 c.args.word.now (lit< tt) (cc) (cc) (cc) in
    let t = YieldsList-turn e c.loop-part.yielded _ c.loop-part.yielded_by _ _ c.in-Some.part c.in-Some.is c.next.ensures.steps in
    let more = stands_more (parts c.args.word.now) (length c.loop-part.yielded) c.in-Some.part.now t c.args.name.now c.as_bytes.result.now
    c.is_same.result c.as_bytes.ensures.value c.is_same.ensures in
    sym (ap (λ b. b || is_one_of (drop (length c.loop-part.yielded + 1) (parts c.args.word.now)) c.args.name.now) c.if-is_same.true)
    ∙ sym more ∙ c.loop-part.invariant

pub loop-part-preserved : goal.loop-part-preserved
loop-part-preserved c =
    let e = YieldsList-from_str_split {s = c.into_iter-part-iterator.result} 44 c.args.word.now (lit< tt) (cc) (cc) (cc) in
    let t = YieldsList-turn e c.loop-part.yielded _ c.loop-part.yielded_by _ _ c.in-Some.part c.in-Some.is c.next.ensures.steps in
    let more = stands_more (parts c.args.word.now) (length c.loop-part.yielded) c.in-Some.part.now t c.args.name.now c.as_bytes.result.now
    c.is_same.result c.as_bytes.ensures.value c.is_same.ensures in
    ap (λ n. is_one_of (drop n (parts c.args.word.now)) c.args.name.now) (length_push c.loop-part.yielded c.in-Some.part)
    ∙ sym (ap (λ b. b || is_one_of (drop (length c.loop-part.yielded + 1) (parts c.args.word.now)) c.args.name.now) c.if-is_same.false)
    ∙ sym more ∙ c.loop-part.invariant

pub returns : goal.returns
returns c =
    let e = YieldsList-from_str_split {s = c.into_iter-part-iterator.result} 44 c.args.word.now (lit< tt) (cc) (cc) (cc) in
    let t = YieldsList-end e c.loop-part.yielded _ c.loop-part.yielded_by _ _ c.in-None.is c.next.ensures.steps in
    sym (at_drop_all (λ l. is_one_of l c.args.name.now) (parts c.args.word.now) (length c.loop-part.yielded) (omega (arith, t.1)))
    ∙ c.loop-part.invariant
