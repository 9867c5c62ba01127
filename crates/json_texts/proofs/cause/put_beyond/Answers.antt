use Rattle.std.proofs.Common.{◌<◌, subst}
use Rattle.json_texts.specs.Shown.{shown}
use Rattle.json_texts.proofs.CauseLemmas.{if_put, told_beyond}
use Rattle.json_texts.proofs.cause.put_beyond.Goals as goal

pub returns-then-entry-len : goal.returns-then-entry-len
returns-then-entry-len c =
    if_put c.put_array.result _ _
    (told_beyond c.args.layout.now c.args.entry c.name.result.now c.args.subscript.now c.range-range.result.low c.range-range.result.high
    (shown c.args.object.now) (shown c.put_array.new.object) (subst (λ n. c.args.entry < n) c.len.ensures c.if-entry-len.true)
    c.name.ensures c.range-range.ensures.bounds)
    c.put_array.ensures
