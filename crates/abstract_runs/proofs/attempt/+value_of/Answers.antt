use Rattle.std.proofs.Common.{rules}
use Rattle.abstract_runs.proofs.Chains.{comes_first, comes_on, comes_last, operand_stops, operation_stops}
use Rattle.abstract_runs.proofs.Attempted.{element_tried, prefix_tried}
use Rattle.abstract_runs.proofs.Trails.{longer_then}
use Rattle.abstract_runs.proofs.attempt.+value_of.Goals as goal

pub loop-link-init : goal.loop-link-init
loop-link-init t c = (
  (λ s at shows g. comes_first s c.args.e.now c.deref-in-Chain.result.now c.in-Chain.first c.in-Chain.links c.deref-link-items.result.now
      _ _ _ c.in-Some-3.value at c.in-Chain.is c.deref-in-Chain.ensures c.deref-link-items.ensures.value c.in-Some-3.is
      (c.in_ok-value-in-Chain.ensures.tried s at shows g)),
  c.in_ok-value-in-Chain.ensures.longer,
  c.in_ok-value-in-Chain.ensures.kept,
)

pub returns-after-loop-link-clause-tried : goal.returns-after-loop-link-clause-tried
returns-after-loop-link-clause-tried t c = λ s at shows g.
    comes_last s _ c.deref-link-items.result.now c.loop-link.link-index _ _ c.loop-link.value (c.loop-link.invariant.0 s at shows g)
    (search rules)

pub returns-in_default-2-clause-tried : goal.returns-in_default-2-clause-tried
returns-in_default-2-clause-tried t c = λ s at shows g.
    operand_stops s _ c.deref-link-items.result.now c.loop-link.link-index c.link-item.result _ _ _ _ c.loop-link.value _
    (c.loop-link.invariant.0 s at shows g) c.loop-link-test.true c.link-item.is
    (λ t2 g2. c.in_ok-operand-in-Chain.ensures.tried s t2 shows g2) c.in_default-2.is
    c.in_ok-operand-in-Chain.ensures.longer c.in_ok-operand-in-Chain.ensures.kept

pub returns-in_default-2-clause-longer : goal.returns-in_default-2-clause-longer
returns-in_default-2-clause-longer t c =
    longer_then _ _ _ c.loop-link.invariant.1 c.in_ok-operand-in-Chain.ensures.longer

pub returns-in_default-3-clause-longer : goal.returns-in_default-3-clause-longer
returns-in_default-3-clause-longer t c =
    longer_then _ _ _ (longer_then _ _ _ c.loop-link.invariant.1 c.in_ok-operand-in-Chain.ensures.longer)
    c.in_ok-given-in-Chain.ensures.longer

pub loop-link-preserved : goal.loop-link-preserved
loop-link-preserved t c = (
  (λ s at shows g. comes_on s _ c.deref-link-items.result.now c.loop-link.link-index c.link-item.result _ _ _ _ _ _ c.loop-link.value
      c.in-Some-4.operand c.in-Some-5.given _ _ (c.loop-link.invariant.0 s at shows g) c.loop-link-test.true c.link-item.is
      (λ t2 g2. c.in_ok-operand-in-Chain.ensures.tried s t2 shows g2) c.in-Some-4.is c.in_ok-operand-in-Chain.ensures.longer
      c.in_ok-operand-in-Chain.ensures.kept (λ x y t3 i j g3. c.in_ok-given-in-Chain.ensures.tried x y t3 i j g3) c.in-Some-5.is
      c.in_ok-given-in-Chain.ensures.longer c.in_ok-given-in-Chain.ensures.kept),
  longer_then _ _ _ (longer_then _ _ _ c.loop-link.invariant.1 c.in_ok-operand-in-Chain.ensures.longer)
      c.in_ok-given-in-Chain.ensures.longer,
  λ kind at may. c.in_ok-given-in-Chain.ensures.kept kind at
      (c.in_ok-operand-in-Chain.ensures.kept kind at (c.loop-link.invariant.2 kind at may)),
)

pub returns-in_default-3-clause-tried : goal.returns-in_default-3-clause-tried
returns-in_default-3-clause-tried t c = λ s at shows g.
    operation_stops s _ c.deref-link-items.result.now c.loop-link.link-index c.link-item.result _ _ _ _ _ _ c.loop-link.value
    c.in-Some-4.operand _ _ (c.loop-link.invariant.0 s at shows g) c.loop-link-test.true c.link-item.is
    (λ t2 g2. c.in_ok-operand-in-Chain.ensures.tried s t2 shows g2) c.in-Some-4.is c.in_ok-operand-in-Chain.ensures.longer
    c.in_ok-operand-in-Chain.ensures.kept (λ x y t3 i j g3. c.in_ok-given-in-Chain.ensures.tried x y t3 i j g3) c.in_default-3.is
    c.in_ok-given-in-Chain.ensures.longer c.in_ok-given-in-Chain.ensures.kept

pub returns-in_ok-value-in-Some-clause-tried : goal.returns-in_ok-value-in-Some-clause-tried
returns-in_ok-value-in-Some-clause-tried t c = λ s at shows g.
    element_tried s c.args.e.now c.deref-in-Element.result.now c.in-Element.a c.in-Element.subscript at _ _ _ _ _ _ c.in-Some.z
    c.in-Element.is
    c.deref-in-Element.ensures c.in-Some.is (c.in_ok-z-in-Element.ensures.tried s at shows g) c.in_ok-value-in-Some.ensures.longer
    c.in_ok-value-in-Some.ensures.kept (λ t2 z i g2. c.in_ok-value-in-Some.ensures.tried s t2 z shows i g2)

pub returns-in_ok-value-in-Some-2-clause-tried : goal.returns-in_ok-value-in-Some-2-clause-tried
returns-in_ok-value-in-Some-2-clause-tried t c = λ s at shows g.
    prefix_tried s c.args.e.now c.deref-in-Prefix.result.now c.in-Prefix.operator c.in-Prefix.operand at _ _ _ _ _ _ c.in-Some-2.v
    c.in-Prefix.is
    c.deref-in-Prefix.ensures c.in-Some-2.is (c.in_ok-v-in-Prefix.ensures.tried s at shows g) c.in_ok-value-in-Some-2.ensures.longer
    c.in_ok-value-in-Some-2.ensures.kept (λ t2 x i g2. c.in_ok-value-in-Some-2.ensures.tried x t2 i g2)
