use Rattle.std.proofs.Common.{ap, sym, subst, ◌∙◌, true, false, length, nat_eq}
use Rattle.std.proofs.Common.{rules}
use Rattle.pram_names.specs.declared.body.Statement.{the_lemmas}
use Rattle.plain_form.specs.Formulas.{formula_of}
use Rattle.plain_form.specs.Shapes.{still, counted, looped}
use Rattle.lowering.specs.Blocks.{part}
use Rattle.lowering.specs.Room.{StatementsHaveRoom}
use Rattle.straight_lowering.specs.Straight.{setting}
use Rattle.straight_lowering.specs.Written.{wrote}
use Rattle.superstep_instructions.specs.declared.instr.Side.TheVariants.{Uniform}
use Rattle.lowering.proofs.Filling.{looped_is, turned_is, else_is, some_joined, on_ok}
use Rattle.lowering.proofs.StatementParts.{statements_more, while_is, for_is, if_is}
use Rattle.lowering.proofs.StatementsShort.{room_of_each, while_room, if_room, for_room, while_short, for_short, then_short, joined_short}
use Rattle.lowering.proofs.StatementsShort.{over_inside, each_short}
use Rattle.lowering.proofs.outside.+outside.Goals as goal

-- ---- what is asked for

pub block-statement-requires : goal.block-statement-requires
block-statement-requires t c =
    let items = c.deref-s-items.result.now in let all = c.args.body.now.items in let same = c.deref-s-items.ensures.value in
    let i = c.loop-s.s-index in let s = c.s-item.result in let here = c.loop-s-test.true in (
      search (rules, the_lemmas),
      (
        room_of_each c.args.free items all i s same here c.s-item.is c.requires.room,
        each_short c.args.free items all i s c.args.out.now c.loop-s.out same c.loop-s.invariant here c.s-item.is c.requires.short,
      ),
    )

pub statement-while_loop-requires : goal.statement-while_loop-requires
statement-while_loop-requires t c =
    let here = c.in-While.location in let s = c.args.s.now in let e = c.in-While.test in let body = c.in-While.body in
    let room = while_room c.args.free here s e body c.in-While.is c.requires.room in (
      search (rules, the_lemmas),
      (
        room.0,
        (
          room.1,
          while_short c.args.free here s e body c.args.out.now c.in-While.is c.requires.short,
        ),
      ),
    )

pub statement-part-requires : goal.statement-part-requires
statement-part-requires t c =
    let here = c.in-If.location in let s = c.args.s.now in let e = c.in-If.test in let a = c.in-If.then_part in let b = c.in-If.else_part in
    let room = if_room c.args.free here s e a b c.in-If.is c.requires.room in (
      search (rules, the_lemmas),
      (
        room.1,
        then_short c.args.free here c.in_ok-source-in-If.source s e a b c.args.out.now c.parted.new.out c.gap.new.self c.in-If.is
            c.in_ok-source-in-If.ensures.register c.in_ok-source-in-If.ensures.written c.in_ok-over-in-If.ensures.added c.requires.short,
      ),
    )

pub statement-joined-requires : goal.statement-joined-requires
statement-joined-requires t c =
    let here = c.in-If.location in let s = c.args.s.now in let e = c.in-If.test in let a = c.in-If.then_part in let b = c.in-If.else_part in
    let over = c.in_ok-over-in-If.over in
    let room = if_room c.args.free here s e a b c.in-If.is c.requires.room in (
      search (rules, the_lemmas),
      (
        over_inside c.args.free over a.items c.parted.new.out c.gap.new.self c.part.new.out c.in_ok-over-in-If.ensures.place
            c.in_ok-over-in-If.ensures.added c.in_ok-part-in-If.ensures,
        (
          room.2,
          joined_short c.args.free here c.in_ok-source-in-If.source over s e a b c.args.out.now c.parted.new.out c.gap.new.self
              c.part.new.out
              c.in-If.is c.in_ok-source-in-If.ensures.register c.in_ok-source-in-If.ensures.written c.in_ok-over-in-If.ensures.place
              c.in_ok-over-in-If.ensures.added c.in_ok-part-in-If.ensures c.requires.short,
        ),
      ),
    )

pub statement-for_turns-requires : goal.statement-for_turns-requires
statement-for_turns-requires t c =
    let here = c.in-For.location in let x = c.in-For.variable in let s = c.args.s.now in let e = c.in-For.low in let f = c.in-For.high in
    let body = c.in-For.body in let turns = c.turns_from-turns.result in
    let room = for_room c.args.free here x s e f body c.in-For.is c.requires.room in
    let behind = ap (λ t. t.behind) c.turns_from-turns.ensures in (
      search (rules, the_lemmas),
      (
        room.1,
        (
          subst (λ n. StatementsHaveRoom n body.items) (sym behind) room.3,
          for_short c.args.free here x s e f body turns c.args.out.now c.bounds.new.out c.in-For.is c.turns_from-turns.ensures
              c.in_ok-bounds-in-For.ensures c.requires.short,
        ),
      ),
    )

-- ---- what is answered

pub block-loop-s-preserved : goal.block-loop-s-preserved
block-loop-s-preserved t c =
    statements_more c.args.free c.deref-s-items.result.now c.loop-s.s-index c.s-item.result c.args.out.now c.loop-s.out c.statement.new.out
    c.loop-s.invariant c.loop-s-test.true c.s-item.is c.in_ok-statement.ensures

pub for_turns-returns : goal.for_turns-returns
for_turns-returns t c =
    turned_is (λ h. setting h c.args.line c.args.turns c.args.number) c.args.turns.more
    (λ start h. part c.args.turns.behind h c.args.body.now.items start) c.args.out.now c.gap.new.self c.setting.new.out c.part.new.out
    c.push.new.self c.push-2.new.self c.fill.new.self _ _ _ c.in_ok-exit.ensures.place c.in_ok-exit.ensures.added c.place-head.ensures
    c.in_ok-setting.ensures c.in_ok-part.ensures c.place_behind-end.ensures c.in_ok-push.ensures c.in_ok-push-2.ensures c.fill.ensures

pub joined-returns : goal.joined-returns
joined-returns t c =
    else_is (λ start h. part c.args.free h c.args.else_part.now.items start) c.args.out.now c.fill-2.new.self c.gap.new.self c.part.new.out
    c.fill-3.new.self c.args.over c.args.source _ _ _ c.place_behind-other.ensures c.fill-2.ensures c.in_ok-end.ensures.place
    c.in_ok-end.ensures.added c.in_ok-part.ensures c.place-target-2.ensures c.fill-3.ensures
    ∙ some_joined c.args.over c.args.source c.args.free c.args.else_part.now.items c.args.out.now
    (c.if-is_empty.ensures ∙ ap (λ n. nat_eq n 0) c.args.else_part.now.ok.0)

pub statement-returns-in-While : goal.statement-returns-in-While
statement-returns-in-While t c =
    on_ok c.while_loop.result (λ h. while_is c.args.free c.in-While.location c.args.s.now c.in-While.test c.in-While.body c.args.out.now
    c.while_loop.new.out c.in-While.is h) c.while_loop.ensures

pub statement-returns-in_ok-part-in-If : goal.statement-returns-in_ok-part-in-If
statement-returns-in_ok-part-in-If t c =
    on_ok c.joined.result (λ h. if_is c.args.free c.in-If.location c.in_ok-source-in-If.source c.in_ok-over-in-If.over c.args.s.now
    c.in-If.test
    c.in-If.then_part c.in-If.else_part c.args.out.now c.parted.new.out c.gap.new.self c.part.new.out c.joined.new.out c.in-If.is
    c.in_ok-source-in-If.ensures.register c.in_ok-source-in-If.ensures.written c.in_ok-over-in-If.ensures.place
    c.in_ok-over-in-If.ensures.added c.in_ok-part-in-If.ensures h) c.joined.ensures

pub statement-returns-in_ok-bounds-in-For : goal.statement-returns-in_ok-bounds-in-For
statement-returns-in_ok-bounds-in-For t c =
    on_ok c.for_turns.result (λ h. for_is c.args.free c.in-For.location c.in-For.variable c.args.s.now c.in-For.low c.in-For.high
    c.in-For.body
    c.turns_from-turns.result c.args.out.now c.bounds.new.out c.for_turns.new.out c.in-For.is c.turns_from-turns.ensures
    c.in_ok-bounds-in-For.ensures h) c.for_turns.ensures

pub while_turns-returns : goal.while_turns-returns
while_turns-returns t c =
    let n = length c.args.out.now.instructions in
    let f = formula_of c.args.test.now in
    let h = still c.args.out.now.held f in
    let test = counted true c.args.out.now.held c.args.line Uniform c.args.free f in
    looped_is test h (λ start h. part c.args.free h c.args.body.now.items start) c.in_ok-source.source c.args.out.now c.tested.new.out
    c.gap.new.self c.part.new.out c.push.new.self c.fill.new.self _ _ _ c.place-head.ensures c.in_ok-source.ensures.written
    c.in_ok-exit.ensures.place c.in_ok-exit.ensures.added c.in_ok-part.ensures c.in_ok-push.ensures c.place-target.ensures c.fill.ensures
    ∙ ap (λ r. wrote (looped n test r (part c.args.free h c.args.body.now.items)) false c.args.out.now) c.in_ok-source.ensures.register
