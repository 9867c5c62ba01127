use Rattle.std.proofs.Common.{◌≡◌, ◌∙◌, ◌+◌, ℤ, List, ap, arith, refl, sym}
use Rattle.std.proofs.lemmas.List.FromFn.{length-map-range_with_len, map-range_with_len_more}
use Rattle.scopes.specs.Found.{Found, found, found_is, with_input}
use Rattle.scopes.proofs.Pushed.{input_added}
use Rattle.comparing.specs.Found.{drawn_by, drawn_inputs}
use Rattle.comparing.proofs.exploring.try_drawn.Goals as goal

pub explore_on-requires : goal.explore_on-requires
explore_on-requires g c =
    let d = c.args.drawing in
    let cells = c.args.cells in
    let many = ap (λ (f : Found). f.inputs) c.loop-turn.invariant
    ∙ length-map-range_with_len (drawn_by d.low d.high cells) d.seed c.loop-turn.turn in
    record { room = omega (arith, many) }

pub loop-turn-preserved : goal.loop-turn-preserved
loop-turn-preserved g c =
    let s = c.args.specification.now in
    let p = c.args.program.now in
    let n = c.args.bound in
    let d = c.args.drawing in
    let cells = c.args.cells in
    let turn = c.loop-turn.turn in
    let before = drawn_inputs d.low d.high d.seed cells turn in
    let here : c.deref.result.now ≡ drawn_by d.low d.high cells (d.seed + turn) =
    c.deref.ensures.value ∙ c.in_ok-input.ensures.drawn in
    c.in_ok-explore_on.ensures.found
    ∙ ap (λ (x : List ℤ). with_input s p n x (found_is c.loop-turn.findings)) here
    ∙ ap (with_input s p n (drawn_by d.low d.high cells (d.seed + turn))) c.loop-turn.invariant
    ∙ sym (input_added s p n before (drawn_by d.low d.high cells (d.seed + turn)))
    ∙ ap (found s p n) (sym (map-range_with_len_more (drawn_by d.low d.high cells) d.seed turn (d.seed + turn) refl))
