use Rattle.std.proofs.Common.{SFits, get_or, pos, rules, w64}
use Rattle.std.proofs.lemmas.Int.{to_z-of_z}
use Rattle.memory_texts.proofs.Puts.{put_more}
use Rattle.memory_texts.proofs.reading.put_values.Goals as goal

pub loop-i-preserved : goal.loop-i-preserved
loop-i-preserved c =
    let v = get_or c.args.values.now c.loop-i.i (pos 0) in
    let fits : SFits w64 (get_or c.args.values.now c.loop-i.i (pos 0)) = search rules in
    rw (to_z-of_z w64 v fits)
    (put_more c.args.memory.now.items c.args.values.now c.args.first c.loop-i.i c.requires.there c.loop-i-test.true c.loop-i.memory.items
    c.loop-i.invariant)
