use Rattle.std.proofs.Common.{rules, ◌≡◌, ◌<◌, ◌+◌, ◌%◌, ◌^◌, ◌++◌, [], ◌∷◌, length, take, drop, sym, ap, ◌∙◌, arith, append-nil}
use Rattle.std.proofs.Common.{get_or, length-set, FitsSigned, w64, to_z, of_z}
use Rattle.std.proofs.lemmas.List.{get_or_default, drop-set-lt, set-get_or, drop_all, take_all}
use Rattle.std.proofs.lemmas.Bool.{and_parts, ltb-true}
use Rattle.std.proofs.lemmas.Int.{to_z-of_z}
use Rattle.combining.specs.Held.{paired}
use Rattle.combining.specs.Asked.{Asked, unasked, ask_at, replied, IsAskBelow}
use Rattle.combining.proofs.Pairs.{all_keys, length_paired, paired_more, take_paired_set}
use Rattle.combining.proofs.Asking.{reply_yes, reply_not, same_item}
use Rattle.combining.proofs.asks.keep.Goals as goal
use Rattle.combining.proofs.asks.keep.Goals.{then-is_due, else-is_due}

pub is_due-requires : goal.is_due-requires
is_due-requires g c =
    let m = g.M.AddressMap.shape c.args.map.now in
    all_keys ask_at (IsAskBelow m.count) (λ k. k % 2 ^ 20 < m.count) (λ k x h. h) c.args.keys.now c.args.asked.now.items c.loop-i.i
    c.requires.long (omega arith) c.requires.cells

pub loop-i-preserved : goal.loop-i-preserved
loop-i-preserved g c =
    let inv = c.loop-i.invariant in
    let ks = c.args.keys.now in
    let xs0 = c.args.asked.now.items in
    let xs = c.loop-i.asked.items in
    let ws = c.args.words.now in
    let i = c.loop-i.i in
    let n = c.loop-i.n in
    let at = (g.M.AddressMap.shape c.args.map.now).part in
    let j = c.args.part in
    let l0 : i < length xs0 = omega arith in
    let l1 : i < length xs = (let v = inv.long in omega arith) in
    let lk : i < length ks = (let v = c.requires.long in omega arith) in
    let long : length xs ≡ length ks = inv.long ∙ c.requires.long in
    let k = get_or ks i 0 in
    let x0 = get_or xs0 i unasked in
    let held0 = paired ask_at ks xs0 in
    let p : k ≡ get_or ks i k = get_or_default ks i 0 k lk in
    let more : drop i held0 ≡ ask_at k x0 ∷ drop (i + 1) held0 =
    paired_more ask_at ks xs0 i k x0 c.requires.long lk p (get_or_default xs0 i unasked x0 l0) in
    let both = same_item xs xs0 i unasked l1 l0 inv.rest in
    elim c.if-is_due.branch [
      | then-is_due w ↦
          (let t = and_parts _ _ (sym c.is_due.ensures ∙ w.if-is_due.true) in
          let lt : n < length ws = ltb-true _ _ t.0 in
          let r = w.cast_signed.result in
          let fits : FitsSigned w64 r = search rules in
          let y : Asked = record { again = (get_or xs i unasked).again; value = to_z w64 (of_z w64 r) } in
          let v : to_z w64 (of_z w64 r) ≡ to_z w64 (get_or ws n 0) = to_z-of_z w64 r fits ∙ w.cast_signed.ensures in
          let made : y ≡ record { again = x0.again; value = to_z w64 (get_or ws n 0) } =
          λ j. record { again = (both.0 j).again; value = v j } in
          rw (w.n-is, w.asked-is, w.put.ensures.items)
          (record {
            within = omega arith;
            room = w.put.ensures.room ∙ inv.room;
            long = length-set xs i y ∙ inv.long;
            rest = drop-set-lt (i + 1) xs i y (omega arith) ∙ both.1;
            all = ap (λ z. z ++ replied at j (drop (n + 1) ws) (drop (i + 1) held0)) (take_paired_set ask_at ks xs i k y long lk p)
                ∙ reply_yes at j ws n i (take i (paired ask_at ks xs)) held0 (ask_at k x0) more _ inv.all (ask_at k y) lt t.1
                (ap (ask_at k) made);
          }))
      | else-is_due w ↦
          (let f = sym c.is_due.ensures ∙ w.if-is_due.false in
          rw (w.n-is, w.asked-is)
          (record {
            within = inv.within;
            room = inv.room;
            long = inv.long;
            rest = both.1;
            all = ap (λ z. take (i + 1) (paired ask_at ks z) ++ replied at j (drop n ws) (drop (i + 1) held0))
                (sym (set-get_or xs i unasked))
                ∙ ap (λ z. z ++ replied at j (drop n ws) (drop (i + 1) held0))
                (take_paired_set ask_at ks xs i k (get_or xs i unasked) long lk
                p ∙ ap (λ (z : Asked). take i (paired ask_at ks xs) ++ ask_at k z ∷ []) both.0)
                ∙ reply_not at j ws n i (take i (paired ask_at ks xs)) held0 (ask_at k x0) more _ inv.all f;
          }))
    ]

pub returns-clause-held : goal.returns-clause-held
returns-clause-held g c =
    let inv = c.loop-i.invariant in
    let ks = c.args.keys.now in
    let i = c.loop-i.i in
    let at = (g.M.AddressMap.shape c.args.map.now).part in
    let j = c.args.part in
    let a = length_paired ask_at ks c.loop-i.asked.items (inv.long ∙ c.requires.long) in
    let b = length_paired ask_at ks c.args.asked.now.items c.requires.long in
    let v = inv.long in
    let e : take i (paired ask_at ks c.loop-i.asked.items) ≡ paired ask_at ks c.loop-i.asked.items =
    take_all i (paired ask_at ks c.loop-i.asked.items) (let r = c.requires.long in omega arith) in
    let d : drop i (paired ask_at ks c.args.asked.now.items) ≡ [] = drop_all i (paired ask_at ks c.args.asked.now.items)
    (let r = c.requires.long in
    omega arith) in
    sym (ap (λ z. z ++ replied at j (drop c.loop-i.n c.args.words.now) (drop i (paired ask_at ks c.args.asked.now.items))) e
    ∙ ap (λ z. paired ask_at ks c.loop-i.asked.items ++ replied at j (drop c.loop-i.n c.args.words.now) z) d
    ∙ append-nil (paired ask_at ks c.loop-i.asked.items)) ∙ inv.all
