use Rattle.std.proofs.Common.{◌∙◌, FitsSigned, ap, of_z, rules, to_z}
use Rattle.std.proofs.lemmas.Int.{to_z-of_z}
use Rattle.std.proofs.lemmas.Result.{err_from_is_err_and}
use Rattle.std.specs.Int.{w64}
use Rattle.pram_meaning.specs.Operation.{operate}
use Rattle.pram_meaning.specs.Runs.{view_is}
use Rattle.pram_meaning.proofs.Links.{chain_starts, link_fails, link_stops, link_done}
use Rattle.pram_meaning.proofs.attempt.+value_of.Goals as goal

pub loop-link-init : goal.loop-link-init
loop-link-init t c =
    let v = c.in_ok-value-in-Chain.value in
    let fits : FitsSigned w64 v = search rules in
    chain_starts (view_is c.args.view.now) c.args.e.now c.deref-in-Chain.result.now c.in-Chain.first c.in-Chain.links
    c.deref-link-items.result.now c.args.trail.now.items c.value_of-in-Chain.new.trail.items (to_z w64 (of_z w64 v)) v c.in-Chain.is
    c.deref-in-Chain.ensures c.deref-link-items.ensures.value c.in_ok-value-in-Chain.ensures (to_z-of_z w64 v fits)

pub returns-in_err-operand-in-Chain : goal.returns-in_err-operand-in-Chain
returns-in_err-operand-in-Chain t c =
    let r = c.from_residual-in_err-operand-in-Chain in
    let p = err_from_is_err_and r.result r.ensures.1 in
    rw (p.1, p.2)
    (link_fails (view_is c.args.view.now) _ c.deref-link-items.result.now c.loop-link.link-index c.link-item.result c.loop-link.trail.items
    c.value_of-in-loop-link.new.trail.items (to_z w64 c.loop-link.value-bits) _ c.loop-link.invariant c.loop-link-test.true c.link-item.is
    c.in_err-operand-in-Chain.ensures)

pub returns-in_err-value-in-Chain-2 : goal.returns-in_err-value-in-Chain-2
returns-in_err-value-in-Chain-2 t c =
    let r = c.from_residual-in_err-value-in-Chain-2 in
    let p = err_from_is_err_and r.result r.ensures.1 in
    let w = c.in_ok-operand-in-Chain.operand in
    let fits : FitsSigned w64 w = search rules in
    rw (p.1, p.2)
    (link_stops (view_is c.args.view.now) _ c.deref-link-items.result.now c.loop-link.link-index c.link-item.result c.loop-link.trail.items
    c.value_of-in-loop-link.new.trail.items c.settle-in-loop-link.new.trail.items (to_z w64 c.loop-link.value-bits) w c.apply.result _
    c.loop-link.invariant c.loop-link-test.true c.link-item.is c.in_ok-operand-in-Chain.ensures
    (c.apply.ensures ∙ ap (operate c.link-item.result.operator (to_z w64 c.loop-link.value-bits)) (to_z-of_z w64 w fits))
    c.in_err-value-in-Chain-2.ensures)

pub loop-link-preserved : goal.loop-link-preserved
loop-link-preserved t c =
    let w = c.in_ok-operand-in-Chain.operand in
    let fits : FitsSigned w64 w = search rules in
    let u = c.in_ok-value-in-Chain-2.value in
    let fits_too : FitsSigned w64 u = search rules in
    link_done (view_is c.args.view.now) _ c.deref-link-items.result.now c.loop-link.link-index c.link-item.result c.loop-link.trail.items
    c.value_of-in-loop-link.new.trail.items c.settle-in-loop-link.new.trail.items (to_z w64 c.loop-link.value-bits) w u
    (to_z w64 (of_z w64 u)) c.apply.result c.loop-link.invariant c.loop-link-test.true c.link-item.is c.in_ok-operand-in-Chain.ensures
    (c.apply.ensures ∙ ap (operate c.link-item.result.operator (to_z w64 c.loop-link.value-bits)) (to_z-of_z w64 w fits))
    c.in_ok-value-in-Chain-2.ensures (to_z-of_z w64 u fits_too)
