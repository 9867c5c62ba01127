use Rattle.std.proofs.Common.{◌≡◌, ◌∙◌, ◌+◌, ℤ, List, ap, arith, refl, sym}
use Rattle.std.proofs.lemmas.List.FromFn.{length-map-range_with_len, map-range_with_len_more}
use Rattle.comparing.specs.Found.{Found, drawn_by, drawn_inputs, found, found_is, with_input}
use Rattle.comparing.proofs.Pushed.{input_added}
use Rattle.comparing.proofs.comparing.compare_drawn.Goals as goal

pub try_input-requires : goal.try_input-requires
try_input-requires c =
    let d = c.args.drawing in
    let cells = c.args.cells in
    let many = ap (λ (f : Found). f.inputs) c.loop-turn.invariant
    ∙ length-map-range_with_len (drawn_by d.low d.high cells) d.seed c.loop-turn.turn in
    record { room = omega (arith, many) }

pub loop-turn-preserved : goal.loop-turn-preserved
loop-turn-preserved c =
    let w = c.args.precondition.now in
    let p = c.args.first.now in
    let q = c.args.second.now in
    let k = c.args.compared.now in
    let n = c.args.bound in
    let d = c.args.drawing in
    let cells = c.args.cells in
    let m = c.most_told-most.result in
    let turn = c.loop-turn.turn in
    let before = drawn_inputs d.low d.high d.seed cells turn in
    let here : c.deref.result.now ≡ drawn_by d.low d.high cells (d.seed + turn) =
    c.deref.ensures.value ∙ c.in_ok-input.ensures.drawn in
    c.in_ok-try_input.ensures.found
    ∙ ap (λ (x : List ℤ). with_input w p q k n m x (found_is c.loop-turn.comparison)) here
    ∙ ap (with_input w p q k n m (drawn_by d.low d.high cells (d.seed + turn))) c.loop-turn.invariant
    ∙ sym (input_added w p q k n m before (drawn_by d.low d.high cells (d.seed + turn)))
    ∙ ap (found w p q k n m) (sym (map-range_with_len_more (drawn_by d.low d.high cells) d.seed turn (d.seed + turn) refl))
