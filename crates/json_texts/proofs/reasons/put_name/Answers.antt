use Rattle.std.proofs.Common.{◌<◌, subst}
use Rattle.json_texts.specs.Shown.{shown}
use Rattle.json_texts.proofs.CauseLemmas.{if_put}
use Rattle.json_texts.proofs.IntervalFacts.{told_name}
use Rattle.json_texts.proofs.reasons.put_name.Goals as goal

pub returns-then-entry-len : goal.returns-then-entry-len
returns-then-entry-len c =
    if_put c.put_letters.result _ _
    (told_name c.args.layout.now c.args.entry c.name.result.now (shown c.args.object.now) (shown c.put_letters.new.self)
    (subst (λ n. c.args.entry < n) c.len.ensures c.if-entry-len.true) c.name.ensures)
    c.put_letters.ensures.ok
