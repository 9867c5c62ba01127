use Rattle.std.proofs.Common.{◌≡◌, ◌≢◌, ◌++◌, ◌∷◌, [], arith, length, lit<, refl, sym}
use Rattle.std.proofs.lemmas.Iterator.Consumers.{YieldsList-end, YieldsList-turn}
use Rattle.std.proofs.lemmas.Iterator.Splits.{YieldsList-from_str_split}
use Rattle.std.proofs.lemmas.List.{length_push}
use Rattle.sized_texts.proofs.Sweeps.{listed_all, listed_none, listed_one, listed_too_many}
use Rattle.sized_texts.proofs.size_list.listed.Goals as goal

pub returns-then-len-eq-MOST : goal.returns-then-len-eq-MOST
returns-then-len-eq-MOST c =
    let e = YieldsList-from_str_split {s = c.into_iter-part-iterator.result} 44 c.args.text.now (lit< tt) (cc) (cc) (cc) in
    let t = YieldsList-turn e c.loop-part.yielded _ c.loop-part.yielded_by _ _ c.in-Some.part c.in-Some.is c.next.ensures.steps in
    let full : length c.loop-part.sizes.items ≡ 1000 = omega (arith, c.loop-part.sizes.ok.0) in
    listed_too_many c.args.text.now (length c.loop-part.yielded) c.in-Some.part.now c.in-Some.part.now t refl c.loop-part.sizes.items
    c.loop-part.invariant full

pub loop-part-preserved : goal.loop-part-preserved
loop-part-preserved c =
    let e = YieldsList-from_str_split {s = c.into_iter-part-iterator.result} 44 c.args.text.now (lit< tt) (cc) (cc) (cc) in
    let t = YieldsList-turn e c.loop-part.yielded _ c.loop-part.yielded_by _ _ c.in-Some.part c.in-Some.is c.next.ensures.steps in
    let room : length c.loop-part.sizes.items ≢ 1000 = omega (arith, c.loop-part.sizes.ok.0) in
    rw (c.in_ok-push-in-Some-digits_value.ensures.items)
    (listed_one c.args.text.now (length c.loop-part.yielded) c.in-Some.part.now c.as_bytes.result.now t c.as_bytes.ensures.value
    c.loop-part.sizes.items c.loop-part.invariant c.in-Some-digits_value.size (length (c.loop-part.yielded ++ c.in-Some.part ∷ []))
    (sym c.in-Some-digits_value.ensures) room (length_push c.loop-part.yielded c.in-Some.part))

pub returns-in-None-digits_value : goal.returns-in-None-digits_value
returns-in-None-digits_value c =
    let e = YieldsList-from_str_split {s = c.into_iter-part-iterator.result} 44 c.args.text.now (lit< tt) (cc) (cc) (cc) in
    let t = YieldsList-turn e c.loop-part.yielded _ c.loop-part.yielded_by _ _ c.in-Some.part c.in-Some.is c.next.ensures.steps in
    listed_none c.args.text.now (length c.loop-part.yielded) c.in-Some.part.now c.as_bytes.result.now t c.as_bytes.ensures.value
    c.loop-part.sizes.items c.loop-part.invariant (sym c.in-None-digits_value.ensures)

pub returns : goal.returns
returns c =
    let e = YieldsList-from_str_split {s = c.into_iter-part-iterator.result} 44 c.args.text.now (lit< tt) (cc) (cc) (cc) in
    let t = YieldsList-end e c.loop-part.yielded _ c.loop-part.yielded_by _ _ c.in-None.is c.next.ensures.steps in (
      listed_all c.args.text.now (length c.loop-part.yielded) c.loop-part.sizes.items (omega (arith, t.1)) c.loop-part.invariant,
      c.loop-part.invariant.few,
    )
