use Rattle.std.proofs.Common.{◌∙◌, ◌+◌, ap, arith, drop, length, lit<, sym}
use Rattle.std.proofs.lemmas.Iterator.Consumers.{YieldsList-end, YieldsList-turn}
use Rattle.std.proofs.lemmas.Iterator.Splits.{YieldsList-from_str_split}
use Rattle.std.proofs.lemmas.List.{at_drop_all, length_push}
use Rattle.std.specs.Bool.{if◌then◌else◌}
use Rattle.std.specs.List.{find}
use Rattle.std.specs.Prelude.{Some}
use Rattle.memory_texts.specs.Chosen.{parts}
use Rattle.command_pairs.specs.Pairs.{is_uncommon}
use Rattle.command_pairs.proofs.PairParts.{found_more}
use Rattle.command_pairs.proofs.choosing.uncommon_part.Goals as goal

pub returns-then-is_uncommon : goal.returns-then-is_uncommon
returns-then-is_uncommon c =
    let e = YieldsList-from_str_split {s = c.into_iter-part-iterator.result} 44 c.args.word.now (lit< tt) (cc) (cc) (cc) in
    let t = YieldsList-turn e c.loop-part.yielded _ c.loop-part.yielded_by _ _ c.in-Some.part c.in-Some.is c.next.ensures.steps in
    let ps = parts c.args.word.now in
    let f = is_uncommon c.args.first.now c.args.second.now in
    let rest = find f (drop (length c.loop-part.yielded + 1) ps) in
    let more = found_more ps (length c.loop-part.yielded) c.in-Some.part.now t f c.is_uncommon.result c.is_uncommon.ensures in
    sym (ap (λ b. if b then Some c.in-Some.part.now else rest) c.if-is_uncommon.true) ∙ sym more ∙ c.loop-part.invariant

pub loop-part-preserved : goal.loop-part-preserved
loop-part-preserved c =
    let e = YieldsList-from_str_split {s = c.into_iter-part-iterator.result} 44 c.args.word.now (lit< tt) (cc) (cc) (cc) in
    let t = YieldsList-turn e c.loop-part.yielded _ c.loop-part.yielded_by _ _ c.in-Some.part c.in-Some.is c.next.ensures.steps in
    let ps = parts c.args.word.now in
    let f = is_uncommon c.args.first.now c.args.second.now in
    let rest = find f (drop (length c.loop-part.yielded + 1) ps) in
    let more = found_more ps (length c.loop-part.yielded) c.in-Some.part.now t f c.is_uncommon.result c.is_uncommon.ensures in
    ap (λ n. find f (drop n ps)) (length_push c.loop-part.yielded c.in-Some.part)
    ∙ sym (ap (λ b. if b then Some c.in-Some.part.now else rest) c.if-is_uncommon.false) ∙ sym more ∙ c.loop-part.invariant

pub returns : goal.returns
returns c =
    let e = YieldsList-from_str_split {s = c.into_iter-part-iterator.result} 44 c.args.word.now (lit< tt) (cc) (cc) (cc) in
    let t = YieldsList-end e c.loop-part.yielded _ c.loop-part.yielded_by _ _ c.in-None.is c.next.ensures.steps in
    sym (at_drop_all (find (is_uncommon c.args.first.now c.args.second.now)) (parts c.args.word.now) (length c.loop-part.yielded)
    (omega (arith, t.1)))
    ∙ c.loop-part.invariant
