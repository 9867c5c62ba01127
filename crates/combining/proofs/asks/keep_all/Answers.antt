use Rattle.std.proofs.Common.{◌≡◌, ◌<◌, ◌%◌, ◌^◌, ◌++◌, [], ℕ, List, length, map, take, drop, set, refl, sym, ap, ◌∙◌, arith, append-nil}
use Rattle.std.proofs.Common.{length-set}
use Rattle.std.proofs.lemmas.List.{length-map, drop_all, take_all}
use Rattle.combining.specs.Held.{paired}
use Rattle.combining.specs.Asked.{ask_at, IsAskBelow}
use Rattle.combining.specs.Came.{all_replied, left_of_all}
use Rattle.combining.proofs.Pairs.{all_keys, length_paired}
use Rattle.combining.proofs.OneModule.{rest_of_pairs}
use Rattle.combining.proofs.AllReplies.{all_left, nothing_held, at_each, same_further}
use Rattle.combining.proofs.asks.keep_all.Goals as goal

pub asks-init : goal.asks-init
asks-init g c =
    let at = (g.M.AddressMap.shape c.args.map.now).part in
    let held = paired ask_at c.args.keys.now c.args.asked.now.items in
    record {
      size = refl;
      room = refl;
      long = refl;
      within = omega arith;
      rest = refl;
      all = ap (λ columns. all_replied at 0 columns held) (all_left 32 0 (map (λ x. x.now) c.args.replies.now));
    }

pub place-home-requires : goal.place-home-requires
place-home-requires g c =
    let m = g.M.AddressMap.shape c.args.map.now in
    rw c.cell_of.ensures (all_keys ask_at (IsAskBelow m.count) (λ k. k % 2 ^ 20 < m.count) (λ k x h. h) c.args.keys.now
    c.args.asked.now.items
    c.asks.i
    c.requires.long (let l = c.asks.invariant.long in omega arith) c.requires.cells)

pub bounds-replies-at : goal.bounds-replies-at
bounds-replies-at g c =
    let m = g.M.AddressMap.shape c.args.map.now in
    let below : c.cell_of.result < m.count =
    rw c.cell_of.ensures (all_keys ask_at (IsAskBelow m.count) (λ k. k % 2 ^ 20 < m.count) (λ k x h. h) c.args.keys.now
    c.args.asked.now.items
    c.asks.i
    c.requires.long (let l = c.asks.invariant.long in omega arith) c.requires.cells) in
    let there = (g.met.M.AddressMap.lawful c.args.map.now).part_below c.cell_of.result below in
    let is = c.place-home.ensures.part in
    let all = c.requires.modules in
    omega (arith, there, is, all)

pub bounds-taken-at : goal.bounds-taken-at
bounds-taken-at g c =
    let m = g.M.AddressMap.shape c.args.map.now in
    let lawful = g.met.M.AddressMap.lawful c.args.map.now in
    let below : c.cell_of.result < m.count =
    rw c.cell_of.ensures (all_keys ask_at (IsAskBelow m.count) (λ k. k % 2 ^ 20 < m.count) (λ k x h. h) c.args.keys.now
    c.args.asked.now.items
    c.asks.i
    c.requires.long (let l = c.asks.invariant.long in omega arith) c.requires.cells) in
    let there = lawful.part_below c.cell_of.result below in
    let is = c.place-home.ensures.part in
    let few = lawful.few in
    omega (arith, there, is, few)

pub bounds-taken-at-in-asks : goal.bounds-taken-at-in-asks
bounds-taken-at-in-asks g c =
    let m = g.M.AddressMap.shape c.args.map.now in
    let lawful = g.met.M.AddressMap.lawful c.args.map.now in
    let below : c.cell_of.result < m.count =
    rw c.cell_of.ensures (all_keys ask_at (IsAskBelow m.count) (λ k. k % 2 ^ 20 < m.count) (λ k x h. h) c.args.keys.now
    c.args.asked.now.items
    c.asks.i
    c.requires.long (let l = c.asks.invariant.long in omega arith) c.requires.cells) in
    let there = lawful.part_below c.cell_of.result below in
    let is = c.place-home.ensures.part in
    let few = lawful.few in
    omega (arith, there, is, few)

pub keep_run-next-requires-clause-cells : goal.keep_run-next-requires-clause-cells
keep_run-next-requires-clause-cells g c i l =
    let m = g.M.AddressMap.shape c.args.map.now in
    all_keys ask_at (IsAskBelow m.count) (λ k. k % 2 ^ 20 < m.count) (λ k x h. h) c.args.keys.now c.args.asked.now.items i c.requires.long l
    c.requires.cells

pub asks-preserved : goal.asks-preserved
asks-preserved g c =
    let inv = c.asks.invariant in
    let m = g.M.AddressMap.shape c.args.map.now in
    let lawful = g.met.M.AddressMap.lawful c.args.map.now in
    let at = m.part in
    let ks = c.args.keys.now in
    let xs0 = c.args.asked.now.items in
    let xs = c.asks.asked.items in
    let new = c.keep_run-next.new.asked.items in
    let i = c.asks.i in
    let k = c.keep_run-next.result.0 in
    let run = c.keep_run-next.ensures in
    let rows = c.args.replies.now in
    let replies : List (List ℕ) = map (λ x. x.now) rows in
    let taken = c.asks.taken in
    let home = c.place-home.result.0 in
    let below : c.cell_of.result < m.count =
    rw c.cell_of.ensures (all_keys ask_at (IsAskBelow m.count) (λ k. k % 2 ^ 20 < m.count) (λ k x h. h) ks xs0 i c.requires.long
    (let l = inv.long in omega arith) c.requires.cells) in
    let there : home < m.parts = rw c.place-home.ensures.part (lawful.part_below c.cell_of.result below) in
    let within : home < length rows = (let e = c.requires.modules in omega (arith, there, e)) in
    let as_many : home < length replies = (let e = length-map rows (λ x. x.now) in omega (arith, within, e)) in
    let known : home < length taken = (let e = inv.size in let f = lawful.few in omega (arith, there, e, f)) in
    let after : drop k xs ≡ drop k xs0 = same_further i k xs xs0 run.on inv.rest in
    let left = all_replied at 0 (left_of_all (set taken home c.keep_run-next.result.1) 0 replies) in
    record {
      size = length-set taken home _ ∙ inv.size;
      room = run.room ∙ inv.room;
      long = run.length ∙ inv.long;
      within = (let w = run.within in let e = run.length in omega (arith, w, e));
      rest = run.rest ∙ after;
      all = ap (λ z. take k (paired ask_at ks new) ++ left z) (sym (rest_of_pairs ask_at k ks xs xs0 after))
          ∙ run.held taken replies known as_many refl (sym (at_each rows home _ within))
          ∙ ap (λ z. take i (paired ask_at ks xs) ++ all_replied at 0 (left_of_all taken 0 replies) z)
          (rest_of_pairs ask_at i ks xs xs0 inv.rest)
          ∙ inv.all;
    }

pub returns-clause-held : goal.returns-clause-held
returns-clause-held g c =
    let inv = c.asks.invariant in
    let ks = c.args.keys.now in
    let i = c.asks.i in
    let at = (g.M.AddressMap.shape c.args.map.now).part in
    let replies : List (List ℕ) = map (λ x. x.now) c.args.replies.now in
    let columns = left_of_all c.asks.taken 0 replies in
    let a = length_paired ask_at ks c.asks.asked.items (inv.long ∙ c.requires.long) in
    let b = length_paired ask_at ks c.args.asked.now.items c.requires.long in
    let v = inv.long in
    let r = c.requires.long in
    let e : take i (paired ask_at ks c.asks.asked.items) ≡ paired ask_at ks c.asks.asked.items = take_all i
    (paired ask_at ks c.asks.asked.items) (omega arith) in
    let d : drop i (paired ask_at ks c.args.asked.now.items) ≡ [] = drop_all i (paired ask_at ks c.args.asked.now.items) (omega arith) in
    sym (ap (λ z. z ++ all_replied at 0 columns (drop i (paired ask_at ks c.args.asked.now.items))) e
    ∙ ap (λ z. paired ask_at ks c.asks.asked.items ++ z) (ap (all_replied at 0 columns) d ∙ nothing_held at columns 0)
    ∙ append-nil (paired ask_at ks c.asks.asked.items)) ∙ inv.all
