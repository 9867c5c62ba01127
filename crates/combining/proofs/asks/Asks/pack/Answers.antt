use Rattle.std.proofs.Common.{◌≡◌, ◌<◌, ◌+◌, ◌%◌, ◌^◌, ◌∷◌, length, ℕ, List, take, drop, sym, ap, ◌∙◌, subst, arith, true, false}
use Rattle.std.proofs.Common.{length-take-le}
use Rattle.std.proofs.Common.{get_or}
use Rattle.std.proofs.lemmas.List.{get_or_default}
use Rattle.std.proofs.lemmas.Bool.{eq-eqb, ne_eqb}
use Rattle.combining.specs.Asked.{HeldAsks, unasked, ask_at, IsAskBelow}
use Rattle.combining.proofs.Pairs.{length_paired, paired_more, item_at, all_keys}
use Rattle.combining.proofs.Packing.{packed, pack_yes, pack_not, pack_room, pack_end, drop_further}
use Rattle.combining.proofs.Asking.{words_of, is_for, words_for}
use Rattle.combining.proofs.Marks.{same_word}
use Rattle.combining.proofs.asks.Asks.pack.Goals as goal
use Rattle.combining.proofs.asks.Asks.pack.Goals.{then-place-part, else-place-part}

pub place-requires : goal.place-requires
place-requires g c =
    let m = g.M.AddressMap.shape c.args.map.now in
    let ks = c.self.inside.index.keys in
    let xs = c.self.inside.asked.items in
    let n : length xs ≡ length ks = c.self.invariant.1 in
    let l : c.loop-i.i < length ks = (let v = ap (λ (us : List ℕ). length us) c.keys-keys.ensures.keys in omega (arith, v)) in
    rw (c.cell_of.ensures, c.keys-keys.ensures.keys) (all_keys ask_at (IsAskBelow m.count) (λ k. k % 2 ^ 20 < m.count) (λ k x h. h) ks xs
    c.loop-i.i n l (rw (← c.self.view_is) at c.requires.cells))

pub write_ask-n-requires : goal.write_ask-n-requires
write_ask-n-requires g c =
    let ks = c.self.inside.index.keys in
    let xs = c.self.inside.asked.items in
    let i = c.loop-i.i in
    let mine = is_for (g.M.AddressMap.shape c.args.map.now).part c.args.part in
    let n : length xs ≡ length ks = c.self.invariant.1 in
    let l : i < length ks = (let v = ap (λ (us : List ℕ). length us) c.keys-keys.ensures.keys in omega (arith, v)) in
    let k = get_or c.keys-keys.result.now i 0 in
    let p : k ≡ get_or ks i k = ap (λ w. get_or w i 0) c.keys-keys.ensures.keys ∙ get_or_default ks i 0 k l in
    let held = c.args.self.now.held in
    let lx : i < length xs = omega (arith, l, n) in
    let x = get_or xs i unasked in
    let more : drop i held ≡ ask_at k x ∷ drop (i + 1) held =
    rw (← c.self.view_is) (paired_more ask_at ks xs i k x n l p (get_or_default xs i unasked x lx)) in
    let yes : mine (ask_at k x) ≡ true =
    eq-eqb _ _ (sym (c.place.ensures.part ∙ ap (g.M.AddressMap.shape c.args.map.now).part c.cell_of.ensures) ∙ c.if-place-part.true) in
    let r = pack_room words_of mine held i (ask_at k x) more (take c.loop-i.n c.loop-i.out) (packed words_of mine held)
    c.loop-i.invariant.all c.loop-i.n yes (length-take-le c.loop-i.n c.loop-i.out c.loop-i.invariant.within) in
    let w = ap length (words_for (g.M.AddressMap.shape c.args.map.now).part c.args.part held) in
    let long = c.requires.long in
    let q = c.loop-i.invariant.long in
    omega arith

pub loop-i-preserved : goal.loop-i-preserved
loop-i-preserved g c =
    let ks = c.self.inside.index.keys in
    let xs = c.self.inside.asked.items in
    let i = c.loop-i.i in
    let mine = is_for (g.M.AddressMap.shape c.args.map.now).part c.args.part in
    let n : length xs ≡ length ks = c.self.invariant.1 in
    let l : i < length ks = (let v = ap (λ (us : List ℕ). length us) c.keys-keys.ensures.keys in omega (arith, v)) in
    let k = get_or c.keys-keys.result.now i 0 in
    let p : k ≡ get_or ks i k = ap (λ w. get_or w i 0) c.keys-keys.ensures.keys ∙ get_or_default ks i 0 k l in
    let held = c.args.self.now.held in
    let before = take c.loop-i.n c.loop-i.out in
    elim c.if-place-part.branch [
      | then-place-part w ↦
          (let lx : i < length xs = omega (arith, l, n) in
          let x = get_or xs i unasked in
          let more : drop i held ≡ ask_at k x ∷ drop (i + 1) held =
          rw (← c.self.view_is) (paired_more ask_at ks xs i k x n l p (get_or_default xs i unasked x lx)) in
          let yes : mine (ask_at k x) ≡ true =
          eq-eqb _ _ (sym (c.place.ensures.part ∙ ap (g.M.AddressMap.shape c.args.map.now).part c.cell_of.ensures)
          ∙ w.if-place-part.true) in
          let room = pack_room words_of mine held i (ask_at k x) more before (packed words_of mine held) c.loop-i.invariant.all c.loop-i.n
          yes (length-take-le c.loop-i.n c.loop-i.out c.loop-i.invariant.within) in
          let all = ap length (words_for (g.M.AddressMap.shape c.args.map.now).part c.args.part held) in
          rw (w.out-is, w.n-is)
          (record {
            within = (let e = w.write_ask-n.ensures.length in let f = w.write_ask-n.ensures.count in let h = c.requires.long in let q =
                c.loop-i.invariant.long in omega arith);
            long = w.write_ask-n.ensures.length ∙ c.loop-i.invariant.long;
            all = pack_yes words_of mine held i (ask_at k x) more before _ c.loop-i.invariant.all _ yes
                (w.write_ask-n.ensures.done ∙ same_word k x before (c.marks-marks.ensures.each i));
            rest = w.write_ask-n.ensures.rest
                ∙ subst (λ (m : ℕ). drop m c.loop-i.out ≡ drop m c.args.out.now) (sym w.write_ask-n.ensures.count)
                (drop_further c.loop-i.out c.args.out.now c.loop-i.n 1 c.loop-i.invariant.rest);
          }))
      | else-place-part w ↦
          (let there = item_at ask_at ks xs i k n l p in
          let more : drop i held ≡ ask_at k there.0 ∷ drop (i + 1) held = rw (← c.self.view_is) there.1 in
          let not_mine : mine (ask_at k there.0) ≡ false =
          ne_eqb _ _ (λ e. w.if-place-part.false (c.place.ensures.part ∙ ap (g.M.AddressMap.shape c.args.map.now).part c.cell_of.ensures
          ∙ e)) in
          rw (w.out-is, w.n-is)
          (record {
            within = c.loop-i.invariant.within;
            long = c.loop-i.invariant.long;
            all = pack_not words_of mine held i (ask_at k there.0) more before _ c.loop-i.invariant.all not_mine;
            rest = c.loop-i.invariant.rest;
          }))
    ]

pub returns-clause-words : goal.returns-clause-words
returns-clause-words g c =
    let at = (g.M.AddressMap.shape c.args.map.now).part in
    let n = length_paired ask_at c.self.inside.index.keys c.self.inside.asked.items c.self.invariant.1 in
    let h = ap (λ (v : HeldAsks). length v.held) c.self.view_is in
    pack_end words_of (is_for at c.args.part) c.args.self.now.held c.loop-i.i _ _
    (let v = ap (λ (us : List ℕ). length us) c.keys-keys.ensures.keys in
    omega (arith, v)) c.loop-i.invariant.all ∙ sym (words_for at c.args.part c.args.self.now.held)

pub returns-clause-count : goal.returns-clause-count
returns-clause-count g c =
    let e = returns-clause-words g c in
    sym (length-take-le c.loop-i.n c.loop-i.out c.loop-i.invariant.within) ∙ ap length e
