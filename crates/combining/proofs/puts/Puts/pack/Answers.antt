use Rattle.std.proofs.Common.{◌≡◌, ◌<◌, ◌+◌, ◌∷◌, ◌++◌, length, ℕ, take, drop, sym, ap, ◌∙◌, subst, arith, true, false, length-take-le}
use Rattle.std.proofs.Common.{get_or}
use Rattle.std.proofs.Common.{eqb}
use Rattle.std.proofs.lemmas.List.{get_or_default}
use Rattle.std.proofs.lemmas.Bool.{eq-eqb, ne_eqb}
use Rattle.superstep_machine.specs.Words.{CellPut, put_words}
use Rattle.superstep_machine.specs.WordReading.{put_length}
use Rattle.superstep_machine.specs.Fitting.{FitsPut}
use Rattle.combining.specs.Compact.{held_at}
use Rattle.combining.specs.Held.{HeldPuts, put_at, packed_puts, IsPutBelow}
use Rattle.combining.proofs.Pairs.{length_paired, paired_more, item_at, all_here, all_keys}
use Rattle.superstep_machine.proofs.ReadBack.{put_long}
use Rattle.combining.proofs.Packing.{pack_yes, pack_not, pack_room, pack_end, drop_further}
use Rattle.combining.proofs.puts.Puts.pack.Goals as goal
use Rattle.combining.proofs.puts.Puts.pack.Goals.{then-place-part, else-place-part}

pub place-requires : goal.place-requires
place-requires g c =
    let m = g.M.AddressMap.shape c.args.map.now in
    let ks = c.self.inside.index.keys in
    let xs = c.self.inside.entries.items in
    let n : length xs ≡ length ks = c.self.invariant.1 in
    let l : c.loop-i.i < length ks = (let v = c.self.inside.entries.ok.0 in omega arith) in
    rw c.keys-keys.ensures.keys (all_keys held_at (IsPutBelow m.count) (λ k. k < m.count) (λ k x h. h) ks xs c.loop-i.i n l
    (rw (← c.self.view_is) at c.requires.cells))

pub write_put-n-requires-clause-room : goal.write_put-n-requires-clause-room
write_put-n-requires-clause-room g c =
    let ks = c.self.inside.index.keys in
    let xs = c.self.inside.entries.items in
    let i = c.loop-i.i in
    let rule = g.R.WriteRule.rule c.args.rule.now in
    let mine = λ (x : CellPut). eqb ((g.M.AddressMap.shape c.args.map.now).part x.cell) c.args.part in
    let n : length xs ≡ length ks = c.self.invariant.1 in
    let l : i < length ks = (let v = c.self.inside.entries.ok.0 in omega arith) in
    let k = get_or c.keys-keys.result.now i 0 in
    let p : k ≡ get_or ks i k = ap (λ w. get_or w i 0) c.keys-keys.ensures.keys ∙ get_or_default ks i 0 k l in
    let held = c.args.self.now.held in
    let x = c.index.result.now in
    let more : drop i held ≡ held_at k x ∷ drop (i + 1) held =
    rw (← c.self.view_is) (paired_more held_at ks xs i k x n l p c.index.ensures) in
    let yes : mine (held_at k x) ≡ true = eq-eqb _ _ (sym c.place.ensures.part ∙ c.if-place-part.true) in
    let before = take c.loop-i.n c.loop-i.out in
    let r = pack_room (put_words rule) mine held i (held_at k x) more before (packed_puts rule (g.M.AddressMap.shape c.args.map.now).part
    c.args.part held) c.loop-i.invariant.all c.loop-i.n yes (length-take-le c.loop-i.n c.loop-i.out c.loop-i.invariant.within) in
    let w = put_long rule (held_at k x) in
    omega arith

pub write_put-n-requires-clause-fits : goal.write_put-n-requires-clause-fits
write_put-n-requires-clause-fits g c =
    let ks = c.self.inside.index.keys in
    let xs = c.self.inside.entries.items in
    let i = c.loop-i.i in
    let rule = g.R.WriteRule.rule c.args.rule.now in
    let mine = λ (x : CellPut). eqb ((g.M.AddressMap.shape c.args.map.now).part x.cell) c.args.part in
    let n : length xs ≡ length ks = c.self.invariant.1 in
    let l : i < length ks = (let v = c.self.inside.entries.ok.0 in omega arith) in
    let k = get_or c.keys-keys.result.now i 0 in
    let p : k ≡ get_or ks i k = ap (λ w. get_or w i 0) c.keys-keys.ensures.keys ∙ get_or_default ks i 0 k l in
    let held = c.args.self.now.held in
    let x = c.index.result.now in
    rw c.entry.ensures (all_here held_at (FitsPut rule) ks xs i k x n l p c.index.ensures (rw (← c.self.view_is) at c.requires.fit)).value

pub loop-i-preserved : goal.loop-i-preserved
loop-i-preserved g c =
    let ks = c.self.inside.index.keys in
    let xs = c.self.inside.entries.items in
    let i = c.loop-i.i in
    let rule = g.R.WriteRule.rule c.args.rule.now in
    let mine = λ (x : CellPut). eqb ((g.M.AddressMap.shape c.args.map.now).part x.cell) c.args.part in
    let n : length xs ≡ length ks = c.self.invariant.1 in
    let l : i < length ks = (let v = c.self.inside.entries.ok.0 in omega arith) in
    let k = get_or c.keys-keys.result.now i 0 in
    let p : k ≡ get_or ks i k = ap (λ w. get_or w i 0) c.keys-keys.ensures.keys ∙ get_or_default ks i 0 k l in
    let held = c.args.self.now.held in
    let before = take c.loop-i.n c.loop-i.out in
    elim c.if-place-part.branch [
      | then-place-part w ↦
          (let x = w.index.result.now in
          let more : drop i held ≡ held_at k x ∷ drop (i + 1) held =
          rw (← c.self.view_is) (paired_more held_at ks xs i k x n l p w.index.ensures) in
          let yes : mine (held_at k x) ≡ true = eq-eqb _ _ (sym c.place.ensures.part ∙ w.if-place-part.true) in
          let room = pack_room (put_words rule) mine held i (held_at k x) more before
          (packed_puts rule (g.M.AddressMap.shape c.args.map.now).part c.args.part held) c.loop-i.invariant.all c.loop-i.n yes
          (length-take-le c.loop-i.n c.loop-i.out c.loop-i.invariant.within) in
          let long = put_long rule (held_at k x) in
          rw (w.out-is, w.n-is)
          (record {
            within = (let e = w.write_put-n.ensures.length in let f = w.write_put-n.ensures.count in let h = c.requires.long in let q =
                c.loop-i.invariant.long in omega arith);
            long = w.write_put-n.ensures.length ∙ c.loop-i.invariant.long;
            all = pack_yes (put_words rule) mine held i (held_at k x) more before _ c.loop-i.invariant.all _ yes
                (w.write_put-n.ensures.done ∙ ap (λ e. before ++ put_words rule (put_at k e)) w.entry.ensures);
            rest = w.write_put-n.ensures.rest
                ∙ subst (λ (m : ℕ). drop m c.loop-i.out ≡ drop m c.args.out.now) (sym w.write_put-n.ensures.count)
                (drop_further c.loop-i.out c.args.out.now c.loop-i.n (put_length rule) c.loop-i.invariant.rest);
          }))
      | else-place-part w ↦
          (let there = item_at held_at ks xs i k n l p in
          let more : drop i held ≡ held_at k there.0 ∷ drop (i + 1) held = rw (← c.self.view_is) there.1 in
          let not_mine : mine (held_at k there.0) ≡ false = ne_eqb _ _ (λ e. w.if-place-part.false (c.place.ensures.part ∙ e)) in
          rw (w.out-is, w.n-is)
          (record {
            within = c.loop-i.invariant.within;
            long = c.loop-i.invariant.long;
            all = pack_not (put_words rule) mine held i (held_at k there.0) more before _ c.loop-i.invariant.all not_mine;
            rest = c.loop-i.invariant.rest;
          }))
    ]

pub returns-clause-words : goal.returns-clause-words
returns-clause-words g c =
    let rule = g.R.WriteRule.rule c.args.rule.now in
    let mine = λ (x : CellPut). eqb ((g.M.AddressMap.shape c.args.map.now).part x.cell) c.args.part in
    let n = length_paired held_at c.self.inside.index.keys c.self.inside.entries.items c.self.invariant.1 in
    let h = ap (λ (v : HeldPuts). length v.held) c.self.view_is in
    pack_end (put_words rule) mine c.args.self.now.held c.loop-i.i _ _ (let v = c.self.inside.entries.ok.0 in
    omega arith) c.loop-i.invariant.all

pub returns-clause-count : goal.returns-clause-count
returns-clause-count g c =
    let e = returns-clause-words g c in
    sym (length-take-le c.loop-i.n c.loop-i.out c.loop-i.invariant.within) ∙ ap length e
