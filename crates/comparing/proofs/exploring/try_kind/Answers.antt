use Rattle.std.proofs.Common.{◌≡◌, ◌∙◌, ◌+◌, ◌++◌, ◌∷◌, [], ℕ, ℤ, List, ap, arith, subst, sym}
use Rattle.drawn_kinds.specs.Kinds.{IsDrawn}
use Rattle.scopes.specs.Found.{Found, found_is, with_input}
use Rattle.scopes.proofs.Pushed.{input_added}
use Rattle.comparing.specs.Found.{AreOfKind}
use Rattle.comparing.proofs.KindInputs.{kind_more, kind_none}
use Rattle.comparing.proofs.exploring.try_kind.Goals as goal

pub loop-turn-init : goal.loop-turn-init
loop-turn-init g c = ([], kind_none c.args.kind c.args.seed c.args.cells, c.new-findings.ensures)

pub explore_on-requires : goal.explore_on-requires
explore_on-requires g c =
    let before = c.loop-turn.invariant in
    let many = ap (λ (f : Found). f.inputs) before.2 in
    record { room = omega (arith, many, before.1.counted) }

pub loop-turn-preserved : goal.loop-turn-preserved
loop-turn-preserved g c =
    let s = c.args.specification.now in
    let p = c.args.program.now in
    let n = c.args.bound in
    let turn = c.loop-turn.turn in
    let before = c.loop-turn.invariant in
    let input = c.in_ok-input.input.items in (
      before.0 ++ input ∷ [],
      kind_more c.args.kind c.args.seed c.args.cells turn before.0 input before.1
          (subst (λ (s : ℕ). IsDrawn c.args.kind (c.args.seed + s) c.args.cells input) c.from.ensures c.in_ok-input.ensures.drawn),
      c.in_ok-explore_on.ensures.found
          ∙ ap (λ (x : List ℤ). with_input s p n x (found_is c.loop-turn.findings)) c.deref.ensures.value
          ∙ ap (with_input s p n input) before.2
          ∙ sym (input_added s p n before.0 input),
    )

pub returns-clause-found : goal.returns-clause-found
returns-clause-found g c =
    let before = c.loop-turn.invariant in
    let over : c.loop-turn.turn ≡ c.args.count = omega arith in (
      before.0,
      subst (λ (n : ℕ). AreOfKind c.args.kind c.args.seed c.args.cells n before.0) over before.1,
      before.2,
    )
