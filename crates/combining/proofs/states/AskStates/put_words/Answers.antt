use Rattle.std.proofs.Common.{rules, FitsSigned, to_z, of_z, ◌≡◌, ◌∙◌, ◌<◌, [], ℤ, List, length, take, map, set, get_or, ap, sym, arith}
use Rattle.std.proofs.Common.{min}
use Rattle.std.specs.Int.{cast_signed, w64}
use Rattle.std.proofs.lemmas.Int.{to_z-of_z}
use Rattle.std.proofs.lemmas.Bool.{eqb-true}
use Rattle.std.proofs.lemmas.List.{nil_from_length}
use Rattle.combining.specs.Asked.{AllAsked, Asked, unasked, both, worded}
use Rattle.combining.proofs.Marks.{length_both, both_words, take_few, valued_more, valued_all, length_valued}
use Rattle.combining.proofs.states.AskStates.put_words.Goals as goal

pub returns-then-is_empty-clause-items : goal.returns-then-is_empty-clause-items
returns-then-is_empty-clause-items c =
    let bs = c.self.inside.marks.items in
    let vs = c.self.inside.came.items in
    let ws = c.args.words.now in
    let n = c.min-count.result in
    let nothing : c.self.inside.came.len ≡ 0 = eqb-true _ _ (sym c.if-is_empty.ensures) in
    let none : vs ≡ [] = nil_from_length vs (let v = c.self.inside.came.ok in omega (arith, v, nothing)) in
    let few : n ≡ min (length ws) (length bs) = (let h = c.min-count.ensures in let k = c.len.ensures in let v = c.self.inside.marks.ok in
    omega (arith, h, k, v)) in
    rw (c.values_of.ensures.values, ← c.self.view_is)
    (ap (λ us. both bs (map (cast_signed w64) us)) (take_few n (length bs) ws few) ∙ both_words bs ws ∙ ap (λ us. worded ws (both bs us))
    (sym none))

pub put-requires : goal.put-requires
put-requires c =
    let n = length_valued (cast_signed w64) (take c.loop-i.i c.args.words.now) c.args.self.now.items in
    let b : length c.args.self.now.items ≡ length c.self.inside.marks.items =
    ap (λ (y : AllAsked). length y.items) (sym c.self.view_is) ∙ length_both c.self.inside.marks.items c.self.inside.came.items in
    let few = c.min-count.ensures in
    let k = c.len.ensures in
    let v = c.self.inside.marks.ok in
    let t = c.loop-i-test.true in
    rw (c.loop-i.invariant.items, n) (omega (arith, b, few, k, v, t))

pub returns-clause-items : goal.returns-clause-items
returns-clause-items c =
    let ws = c.args.words.now in
    let xs = c.args.self.now.items in
    let long = ap (λ (y : AllAsked). length y.items) (sym c.self.view_is) ∙ length_both c.self.inside.marks.items
    c.self.inside.came.items in
    let end : c.loop-i.i ≡ min (length ws) (length xs) =
    (let few = c.min-count.ensures in let k = c.len.ensures in let v = c.self.inside.marks.ok in let t = c.loop-i-test.false in
    let e = c.loop-i.auto.i-end in omega (arith, long, few, k, v, t, e)) in
    c.loop-i.invariant.items ∙ valued_all (cast_signed w64) ws xs c.loop-i.i end

pub loop-i-preserved : goal.loop-i-preserved
loop-i-preserved c =
    let ws = c.args.words.now in
    let xs = c.args.self.now.items in
    let i = c.loop-i.i in
    let inv = c.loop-i.invariant in
    let before = worded (take i ws) xs in
    let r = c.cast_signed.result in
    let fits : FitsSigned w64 r = search rules in
    let l : i < length ws = (let few = c.min-count.ensures in let t = c.loop-i-test.true in omega (arith, few, t)) in
    record {
      items = c.put.ensures.items
          ∙ ap (λ (us : List Asked). set us i (record { again = (get_or us i unasked).again; value = to_z w64 (of_z w64 r) })) inv.items
          ∙ ap (λ (v : ℤ). set before i (record { again = (get_or before i unasked).again; value = v }))
          (to_z-of_z w64 r fits ∙ c.cast_signed.ensures)
          ∙ sym (valued_more (cast_signed w64) ws xs i l);
      room = c.put.ensures.room ∙ inv.room;
    }
