use Rattle.pram_tokens.proofs.Scans.{turn_blank, turn_token, turn_bad}
use Rattle.pram_tokens.proofs.lexer.tokenize.Goals as goal

pub loop-at-preserved-in-Blank : goal.loop-at-preserved-in-Blank
loop-at-preserved-in-Blank c =
    turn_blank c.loop-at.at c.loop-at.line c.args.text.now c.split_at.result.1.now c.in_ok-len.field-0 c.loop-at.tokens.items
    c.loop-at.offsets.items
    c.in_ok-len.ensures.value c.split_at.ensures.back c.loop-at.invariant c.line_behind-line.result
    c.in-Blank.len c.in-Blank.is c.in_ok-len.ensures.within c.line_behind-line.ensures.value c.line_behind-line.ensures.bounded

pub loop-at-preserved : goal.loop-at-preserved
loop-at-preserved c =
    rw (c.in_ok-push-in-Token.ensures.items, c.in_ok-push-in-Token-2.ensures.items)
    (turn_token c.loop-at.at c.loop-at.line c.args.text.now c.split_at.result.1.now c.in_ok-len.field-0 c.loop-at.tokens.items
    c.loop-at.offsets.items
    c.in_ok-len.ensures.value c.split_at.ensures.back c.loop-at.invariant c.line_behind-line-in-Token.result
    c.in-Token.len c.in-Token.token c.in-Token.is c.in_ok-len.ensures.within c.line_behind-line-in-Token.ensures.value
    c.line_behind-line-in-Token.ensures.bounded)

pub returns-in-Bad-clause-cut : goal.returns-in-Bad-clause-cut
returns-in-Bad-clause-cut c =
    turn_bad c.loop-at.at c.loop-at.line c.args.text.now c.split_at.result.1.now c.in_ok-len.field-0 c.loop-at.tokens.items
    c.loop-at.offsets.items
    c.in_ok-len.ensures.value c.split_at.ensures.back c.loop-at.invariant 0 c.loop-at-test.true c.in-Bad.is
