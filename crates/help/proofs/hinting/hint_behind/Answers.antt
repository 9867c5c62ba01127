use Rattle.std.proofs.Common.{◌≡◌, ◌∙◌, arith, length}
use Rattle.pram_tokens.specs.Scanning.{cut}
use Rattle.help.proofs.Together.{by_tokens}
use Rattle.help.proofs.hinting.hint_behind.Goals as goal

pub returns-else-count-len : goal.returns-else-count-len
returns-else-count-len c =
    let not_first = c.if-count-eq0.false in
    let not_last = c.if-count-len.false in
    let within = c.requires.within in
    let all : c.len.result ≡ length c.args.tokens.now.items = c.len.ensures ∙ c.args.tokens.now.ok.0 in
    by_tokens (cut c.args.tokens.now.items c.args.offsets.now) c.args.count c.args.found.now c.token_hint.result (omega (arith, not_first))
    (omega (arith, not_last, within, all)) c.token_hint.ensures
