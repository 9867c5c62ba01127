use Rattle.std.proofs.Common.{rules, ◌≡◌, ◌≤◌, ◌<◌, ◌+◌, ◌%◌, ◌^◌, ◌++◌, [], ◌∷◌, length, take, drop, set, refl, sym, ap, ◌∙◌}
use Rattle.std.proofs.Common.{subst, arith, append_assoc, get_or, length-set, FitsSigned, w64, to_z, of_z}
use Rattle.std.proofs.lemmas.List.{get_or_default, get_or-set_same, drop-set-lt, set-get_or}
use Rattle.std.proofs.lemmas.Int.{to_z-of_z}
use Rattle.std.specs.Int.{cast_signed}
use Rattle.combining.specs.Held.{paired}
use Rattle.combining.specs.Asked.{Asked, unasked, ask_at}
use Rattle.combining.specs.Came.{all_replied, left_of_all}
use Rattle.combining.proofs.Pairs.{paired_more, take_paired_set}
use Rattle.combining.proofs.Asking.{same_item}
use Rattle.combining.proofs.AllReplies.{none_left, one_taken, set_again}
use Rattle.combining.proofs.runs.keep_run.Goals as goal
use Rattle.combining.proofs.runs.keep_run.Goals.{then-n-words, else-n-words}

pub asks-init : goal.asks-init
asks-init g c =
    let at = (g.M.AddressMap.shape c.args.map.now).part in
    let held = paired ask_at c.args.keys.now c.args.asked.now.items in
    record {
      room = refl;
      long = refl;
      rest = refl;
      held = λ taken replies known there is words. ap (λ ts. take c.args.from held ++ all_replied at 0 (left_of_all ts 0 replies)
          (drop c.args.from held))
          (ap (set taken c.args.home) (sym is) ∙ set-get_or taken c.args.home 0);
    }

pub place-there-requires : goal.place-there-requires
place-there-requires g c =
    let l : c.asks.i < length c.args.keys.now = (let v = c.asks.invariant.long in let k = c.requires.long in omega arith) in
    rw c.cell_of.ensures (c.requires.cells c.asks.i l)

pub asks-preserved : goal.asks-preserved
asks-preserved g c =
    let inv = c.asks.invariant in
    let m = g.M.AddressMap.shape c.args.map.now in
    let at = m.part in
    let ks = c.args.keys.now in
    let xs0 = c.args.asked.now.items in
    let xs = c.asks.asked.items in
    let i = c.asks.i in
    let home = c.args.home in
    let n = c.asks.n in
    let l0 : i < length xs0 = (let v = inv.long in omega arith) in
    let l1 : i < length xs = (let v = inv.long in omega arith) in
    let lk : i < length ks = (let v = c.requires.long in omega arith) in
    let long : length xs ≡ length ks = inv.long ∙ c.requires.long in
    let k = get_or ks i 0 in
    let x0 = get_or xs0 i unasked in
    let held0 = paired ask_at ks xs0 in
    let p : k ≡ get_or ks i k = get_or_default ks i 0 k lk in
    let more : drop i held0 ≡ ask_at k x0 ∷ drop (i + 1) held0 =
    paired_more ask_at ks xs0 i k x0 c.requires.long lk p (get_or_default xs0 i unasked x0 l0) in
    let both = same_item xs xs0 i unasked l1 l0 inv.rest in
    let equal : c.place-there.result.0 ≡ home = c.if-there-home.false in
    let here : at (k % 2 ^ 20) ≡ home = sym (c.place-there.ensures.part ∙ ap at c.cell_of.ensures) ∙ equal in
    let before = take i (paired ask_at ks xs) in
    let behind = drop (i + 1) held0 in
    let q = ask_at k x0 in
    elim c.if-n-words.branch [
      | then-n-words w ↦
          (let words = c.args.words.now in
          let r = w.cast_signed.result in
          let fits : FitsSigned w64 r = search rules in
          let y : Asked = record { again = (get_or xs i unasked).again; value = to_z w64 (of_z w64 r) } in
          let value : to_z w64 (of_z w64 r) ≡ cast_signed w64 (get_or words n 0) = to_z-of_z w64 r fits ∙ w.cast_signed.ensures in
          let made : y ≡ record { again = x0.again; value = cast_signed w64 (get_or words n 0) } =
          λ j. record { again = (both.0 j).again; value = value j } in
          rw (w.asked-is, w.n-is, w.put.ensures.items)
          (record {
            room = w.put.ensures.room ∙ inv.room;
            long = length-set xs i y ∙ inv.long;
            rest = drop-set-lt (i + 1) xs i y (omega arith) ∙ both.1;
            held = λ taken replies known there is same.
                let ts = set taken home n in
                let reply = get_or replies home [] in
                let others = all_replied at 0 (left_of_all (set taken home (n + 1)) 0 replies) behind in
                let some : n < length reply = subst (λ us. n < length us) (sym same) w.if-n-words.true in
                let as_long : home < length ts = (let e = length-set taken home n in omega (arith, e, known)) in
                ap (λ z. z ++ others) (take_paired_set ask_at ks xs i k y long lk p)
                ∙ append_assoc before (ask_at k y ∷ []) others
                ∙ ap (λ z. before ++ z ∷ others) (ap (ask_at k) made
                ∙ ap (λ us. ask_at k (record { again = x0.again; value = cast_signed w64 (get_or us n 0) })) (sym same))
                ∙ ap (λ us. before ++ ask_at k (record { again = x0.again; value = cast_signed w64 (get_or reply n 0) })
                ∷ all_replied at 0 (left_of_all us 0 replies) behind) (sym (set_again taken home n (n + 1)))
                ∙ sym (ap (λ z. before ++ z) (ap (all_replied at 0 (left_of_all ts 0 replies)) more
                ∙ one_taken at home ts n (get_or-set_same taken home n 0 known) q here as_long replies 0 home (omega arith) there
                some behind))
                ∙ inv.held taken replies known there is same;
          }))
      | else-n-words w ↦
          (let few = w.if-n-words.false in
          rw (w.asked-is, w.n-is)
          (record {
            room = inv.room;
            long = inv.long;
            rest = both.1;
            held = λ taken replies known there is same.
                let ts = set taken home n in
                let none_there : length (get_or replies home []) ≤ n = subst (λ us. length us ≤ n) (sym same) few in
                let others = all_replied at 0 (left_of_all ts 0 replies) behind in
                ap (λ z. take (i + 1) (paired ask_at ks z) ++ others) (sym (set-get_or xs i unasked))
                ∙ ap (λ z. z ++ others) (take_paired_set ask_at ks xs i k (get_or xs i unasked) long lk p
                ∙ ap (λ (z : Asked). before ++ ask_at k z ∷ []) both.0)
                ∙ append_assoc before (q ∷ []) others
                ∙ sym (ap (λ z. before ++ z) (ap (all_replied at 0 (left_of_all ts 0 replies)) more
                ∙ none_left at home ts n (get_or-set_same taken home n 0 known) q here replies 0
                (λ d e l. subst (λ j. length (get_or replies j []) ≤ n) (let f : home ≡ d = omega (arith, e) in f) none_there) behind))
                ∙ inv.held taken replies known there is same;
          }))
    ]
