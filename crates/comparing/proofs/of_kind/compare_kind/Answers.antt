use Rattle.std.proofs.Common.{◌≡◌, ◌∙◌, ◌+◌, ◌++◌, ◌∷◌, [], ℕ, ℤ, List, ap, arith, subst, sym}
use Rattle.drawn_kinds.specs.Kinds.{IsDrawn}
use Rattle.comparing.specs.Found.{AreOfKind, Found, found, found_is, with_input}
use Rattle.comparing.proofs.KindInputs.{kind_more, kind_none, none_found}
use Rattle.comparing.proofs.Pushed.{input_added}
use Rattle.comparing.proofs.of_kind.compare_kind.Goals as goal

pub loop-turn-init : goal.loop-turn-init
loop-turn-init c =
    let none =
    none_found c.args.precondition.now c.args.first.now c.args.second.now c.args.compared.now c.args.bound c.most_told-most.result in
    ([], kind_none c.args.kind c.args.seed c.args.cells, c.new-comparison.ensures ∙ sym none)

pub try_input-requires : goal.try_input-requires
try_input-requires c =
    let before = c.loop-turn.invariant in
    let many = ap (λ (f : Found). f.inputs) before.2 in
    record { room = omega (arith, many, before.1.counted) }

pub loop-turn-preserved : goal.loop-turn-preserved
loop-turn-preserved c =
    let w = c.args.precondition.now in
    let p = c.args.first.now in
    let q = c.args.second.now in
    let k = c.args.compared.now in
    let n = c.args.bound in
    let m = c.most_told-most.result in
    let turn = c.loop-turn.turn in
    let before = c.loop-turn.invariant in
    let input = c.in_ok-input.input.items in (
      before.0 ++ input ∷ [],
      kind_more c.args.kind c.args.seed c.args.cells turn before.0 input before.1
          (subst (λ (s : ℕ). IsDrawn c.args.kind (c.args.seed + s) c.args.cells input) c.from.ensures c.in_ok-input.ensures.drawn),
      c.in_ok-try_input.ensures.found
          ∙ ap (λ (x : List ℤ). with_input w p q k n m x (found_is c.loop-turn.comparison)) c.deref.ensures.value
          ∙ ap (with_input w p q k n m input) before.2
          ∙ sym (input_added w p q k n m before.0 input),
    )

pub returns-clause-found : goal.returns-clause-found
returns-clause-found c =
    let before = c.loop-turn.invariant in
    let over : c.loop-turn.turn ≡ c.args.count = omega arith in (
      before.0,
      subst (λ (n : ℕ). AreOfKind c.args.kind c.args.seed c.args.cells n before.0) over before.1,
      before.2
          ∙ ap (λ (m : ℕ). found c.args.precondition.now c.args.first.now c.args.second.now c.args.compared.now c.args.bound m before.0)
          c.most_told-most.ensures,
    )
