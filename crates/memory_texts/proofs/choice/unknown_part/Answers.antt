use Rattle.std.proofs.Common.{◌∙◌, ◌+◌, ap, arith, drop, length, lit<, not, sym}
use Rattle.std.proofs.lemmas.Iterator.Consumers.{YieldsList-end, YieldsList-turn}
use Rattle.std.proofs.lemmas.Iterator.Splits.{YieldsList-from_str_split}
use Rattle.std.proofs.lemmas.List.{at_drop_all, length_push}
use Rattle.std.specs.Bool.{if◌then◌else◌}
use Rattle.std.specs.Prelude.{Some}
use Rattle.memory_texts.specs.Chosen.{parts, unknown_part}
use Rattle.memory_texts.proofs.Parts.{unknown_more}
use Rattle.memory_texts.proofs.choice.unknown_part.Goals as goal

pub returns-then-not-declares : goal.returns-then-not-declares
returns-then-not-declares c =
    let e = YieldsList-from_str_split {s = c.into_iter-part-iterator.result} 44 c.args.word.now (lit< tt) (cc) (cc) (cc) in
    let t = YieldsList-turn e c.loop-part.yielded _ c.loop-part.yielded_by _ _ c.in-Some.part c.in-Some.is c.next.ensures.steps in
    let ps = parts c.args.word.now in
    let rest = unknown_part c.args.layout.now (drop (length c.loop-part.yielded + 1) ps) in
    let more = unknown_more ps (length c.loop-part.yielded) c.in-Some.part.now t c.args.layout.now c.as_bytes.result.now
    c.declares.result c.as_bytes.ensures.value c.declares.ensures in
    sym (ap (λ b. if not b then Some c.in-Some.part.now else rest) c.if-not-declares.true) ∙ sym more ∙ c.loop-part.invariant

pub loop-part-preserved : goal.loop-part-preserved
loop-part-preserved c =
    let e = YieldsList-from_str_split {s = c.into_iter-part-iterator.result} 44 c.args.word.now (lit< tt) (cc) (cc) (cc) in
    let t = YieldsList-turn e c.loop-part.yielded _ c.loop-part.yielded_by _ _ c.in-Some.part c.in-Some.is c.next.ensures.steps in
    let ps = parts c.args.word.now in
    let rest = unknown_part c.args.layout.now (drop (length c.loop-part.yielded + 1) ps) in
    let more = unknown_more ps (length c.loop-part.yielded) c.in-Some.part.now t c.args.layout.now c.as_bytes.result.now
    c.declares.result c.as_bytes.ensures.value c.declares.ensures in
    ap (λ n. unknown_part c.args.layout.now (drop n ps)) (length_push c.loop-part.yielded c.in-Some.part)
    ∙ sym (ap (λ b. if not b then Some c.in-Some.part.now else rest) c.if-not-declares.false) ∙ sym more ∙ c.loop-part.invariant

pub returns : goal.returns
returns c =
    let e = YieldsList-from_str_split {s = c.into_iter-part-iterator.result} 44 c.args.word.now (lit< tt) (cc) (cc) (cc) in
    let t = YieldsList-end e c.loop-part.yielded _ c.loop-part.yielded_by _ _ c.in-None.is c.next.ensures.steps in
    sym (at_drop_all (unknown_part c.args.layout.now) (parts c.args.word.now) (length c.loop-part.yielded) (omega (arith, t.1)))
    ∙ c.loop-part.invariant
