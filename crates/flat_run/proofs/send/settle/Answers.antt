use Rattle.std.proofs.Common.{◌∙◌, ap, arith, w64}
use Rattle.std.proofs.lemmas.Int.{to_z-of_z}
use Rattle.superstep_machine.specs.Sending.{verdict_on, settled}
use Rattle.instruction_steps.specs.Views.{registers_of}
use Rattle.write_rules.proofs.Writes.{same_item}
use Rattle.flat_run.proofs.CellLemmas.{settles_start, settles_go, settles_end}
use Rattle.flat_run.proofs.PartLemmas.{held_is}
use Rattle.flat_run.proofs.send.settle.Goals as goal

pub cells-init : goal.cells-init
cells-init c = settles_start c.args.rule c.args.held.now c.args.memory.now.items

pub cells-preserved : goal.cells-preserved
cells-preserved c =
    let rule = c.args.rule in
    let held = c.args.held.now in
    let old = c.cells.memory.items in
    rw (to_z-of_z w64 c.settled.result c.settled.ensures.fits)
    (settles_go rule held c.args.memory.now.items old c.cells.c c.settled.result c.cells.invariant
    (omega (arith, c.cells-test.true, c.requires))
    (c.settled.ensures.value
    ∙ ap (settled c.verdict_on.result) (to_z-of_z w64 c.value_at.result c.value_at.ensures.fits ∙ c.value_at.ensures.value
    ∙ ap (λ values. registers_of values c.cells.c) c.deref.ensures.value)
    ∙ ap (λ x. settled x (registers_of old c.cells.c)) (c.verdict_on.ensures
    ∙ ap (verdict_on rule) (held_is held c.cells.c _ (omega (arith, c.cells-test.true))
    (same_item held c.cells.c _ _ (omega (arith, c.cells-test.true)))))))

pub returns-clause-each : goal.returns-clause-each
returns-clause-each c = λ k. settles_end c.args.rule c.args.held.now c.args.memory.now.items c.cells.memory.items c.cells.c
    c.cells.invariant
    (omega (arith, c.cells-test.false)) k
