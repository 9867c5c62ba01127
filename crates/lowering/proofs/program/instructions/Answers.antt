use Rattle.std.proofs.Common.{◌≡◌, ◌+◌, ◌<◌, ◌^◌, true, false, length, arith, ap, ◌∙◌, sym, subst}
use Rattle.plain_form.specs.Registers.{behind_variables}
use Rattle.plain_form.specs.Outside.{statements_code}
use Rattle.lowering.specs.Room.{StatementsHaveRoom}
use Rattle.lowering.proofs.Rooms.{program_has_room, program_is_short}
use Rattle.lowering.proofs.StatementsShort.{room_of_each, each_short}
use Rattle.lowering.proofs.StatementParts.{nothing, statements_more}
use Rattle.lowering.proofs.program.instructions.Goals as goal

pub statement-requires-clause-room : goal.statement-requires-clause-room
statement-requires-clause-room c =
    let p = c.args.program.now in
    let free : c.variable-free.result ≡ behind_variables p.uniforms = c.variable-free.ensures ∙ ap behind_variables c.uniforms.ensures in
    room_of_each c.variable-free.result c.body-s-items.result.now p.body c.loop-s.s-index c.s-item.result c.body-s-items.ensures
    c.loop-s-test.true c.s-item.is
    (subst (λ n. StatementsHaveRoom n p.body) (sym free) (program_has_room p c.requires.bounded))

pub statement-requires-clause-short : goal.statement-requires-clause-short
statement-requires-clause-short c =
    let p = c.args.program.now in
    let free : c.variable-free.result ≡ behind_variables p.uniforms = c.variable-free.ensures ∙ ap behind_variables c.uniforms.ensures in
    let body = program_is_short p c.requires.resolved c.requires.bounded in
    each_short c.variable-free.result c.body-s-items.result.now p.body c.loop-s.s-index c.s-item.result nothing c.loop-s.out
    c.body-s-items.ensures c.loop-s.invariant c.loop-s-test.true c.s-item.is
    (subst (λ n. length nothing.instructions + length (statements_code true n 0 false p.body) < 2 ^ 16) (sym free) (omega (arith, body)))

pub loop-s-preserved : goal.loop-s-preserved
loop-s-preserved c =
    statements_more c.variable-free.result c.body-s-items.result.now c.loop-s.s-index c.s-item.result nothing c.loop-s.out
    c.statement.new.out
    c.loop-s.invariant c.loop-s-test.true c.s-item.is c.in_ok-statement.ensures
