use Rattle.std.proofs.Common.{◌≡◌, ◌+◌, suc, [], ◌∷◌, ◌++◌, Some, get_or, length, map, pos, sym, ap, ◌∙◌, w64, FitsSigned, rules, arith}
use Rattle.std.specs.Prelude.{slice_get, slice_index_or}
use Rattle.std.specs.List.{range_with_len}
use Rattle.std.proofs.lemmas.Int.{to_z-of_z}
use Rattle.std.proofs.lemmas.List.{length-map}
use Rattle.std.proofs.lemmas.List.FromFn.{length-range_with_len}
use Rattle.pram_model.specs.Layout.{total_size}
use Rattle.bsp_machine.specs.Ended.{cells_of, value_of}
use Rattle.bsp_machine.proofs.ListLemmas.{range_more}
use Rattle.std.proofs.lemmas.Option.{slice_get-get_or}
use Rattle.bsp_machine.proofs.memory.take_memory.Goals as goal

pub push_reserved-requires : goal.push_reserved-requires
push_reserved-requires g c =
    let test = c.cells-test.true in
    let total = c.cells-cells.ensures.total ∙ ap total_size c.layout.ensures.value in
    let room = c.requires.room in
    let same = c.cells.invariant.room in
    let long = ap length c.cells.invariant.taken
    ∙ length-map (range_with_len 0 c.cells.cell) (value_of (g.M.AddressMap.shape c.args.map.now) c.args.workers.now)
    ∙ length-range_with_len 0 c.cells.cell in
    omega (arith, test, total, room, same, long)

pub cells-preserved : goal.cells-preserved
cells-preserved g c =
    let m = g.M.AddressMap.shape c.args.map.now in
    let workers = c.args.workers.now in
    let cell = c.cells.cell in
    let value = value_of m workers in
    let test = c.cells-test.true in
    let total = c.cells-cells.ensures.total ∙ ap total_size c.layout.ensures.value in
    let places = c.requires.places in
    let within = (g.met.M.AddressMap.lawful c.args.map.now).part_below cell (omega (arith, test, total, places)) in
    let part = c.place-part.ensures.part in
    let many = c.requires.workers in
    let y = get_or workers c.place-part.result.0 c.index-workers-part.result in
    let here : slice_get workers c.place-part.result.0 ≡ Some y =
    slice_get-get_or workers c.place-part.result.0 c.index-workers-part.result (omega (arith, within, part, many)) in
    let is : c.get-value.result ≡ value cell =
    (c.get-value.ensures.value ∙ ap (λ o. slice_index_or y.local.cells o (pos 0)) c.place-part.ensures.offset
    ∙ ap (λ x. slice_index_or (cells_of x) (m.offset cell) (pos 0)) (sym here)
    ∙ ap (λ part. slice_index_or (cells_of (slice_get workers part)) (m.offset cell) (pos 0)) c.place-part.ensures.part) in
    let fits : FitsSigned w64 c.get-value.result = search rules in
    record {
      taken = c.push_reserved.ensures.items
          ∙ ap (λ v. c.cells.memory.items ++ v ∷ []) (to_z-of_z w64 c.get-value.result fits)
          ∙ (λ i. c.cells.invariant.taken i ++ is i ∷ [])
          ∙ ap (λ k. map value (range_with_len 0 cell) ++ value k ∷ []) (let same : cell ≡ 0 + cell = omega arith in same)
          ∙ sym (range_more value cell 0)
          ∙ ap (λ k. map value (range_with_len 0 k)) (let same : suc cell ≡ cell + 1 = omega arith in same);
      room = c.push_reserved.ensures.capacity ∙ c.cells.invariant.room;
    }
