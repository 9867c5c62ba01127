use Rattle.std.proofs.Common.{◌≡◌, ◌≤◌, ◌<◌, ◌-◌, ◌+◌, ◌%◌, ◌^◌, ◌++◌, ℕ, List, length, drop, map, sym, ap, ◌∙◌, subst, arith, get_or}
use Rattle.std.proofs.Common.{vec_capacity, append-nil}
use Rattle.std.proofs.lemmas.List.{drop_all}
use Rattle.superstep_machine.specs.Words.{ask_words}
use Rattle.combining.specs.Held.{paired}
use Rattle.combining.specs.Asked.{HeldAsk, HeldAsks, ask_at, asks_for, IsAskBelow}
use Rattle.combining.specs.AllModules.{column, GetsFirst}
use Rattle.combining.proofs.Pairs.{length_paired, all_keys}
use Rattle.combining.proofs.AllColumns.{as_long, same_of_all, run_added, room_for_run}
use Rattle.combining.proofs.asks.Asks.pack_all.Goals as goal

pub place-home-requires : goal.place-home-requires
place-home-requires g c =
    let m = g.M.AddressMap.shape c.args.map.now in
    let ks = c.self.inside.index.keys in
    let xs = c.self.inside.asked.items in
    let n : length xs ≡ length ks = c.self.invariant.1 in
    let l : c.asks.i < length ks = (let v = ap (λ (us : List ℕ). length us) c.keys-keys.ensures.keys in omega (arith, v)) in
    rw (c.cell_of.ensures, c.keys-keys.ensures.keys) (all_keys ask_at (IsAskBelow m.count) (λ k. k % 2 ^ 20 < m.count) (λ k x h. h) ks xs
    c.asks.i n l (rw (← c.self.view_is) at c.requires.cells))

pub bounds-columns-at : goal.bounds-columns-at
bounds-columns-at g c =
    let m = g.M.AddressMap.shape c.args.map.now in
    let ks = c.self.inside.index.keys in
    let xs = c.self.inside.asked.items in
    let n : length xs ≡ length ks = c.self.invariant.1 in
    let l : c.asks.i < length ks = (let v = ap (λ (us : List ℕ). length us) c.keys-keys.ensures.keys in omega (arith, v)) in
    let k = get_or c.keys-keys.result.now c.asks.i 0 in
    let below : k % 2 ^ 20 < m.count =
    rw c.keys-keys.ensures.keys (all_keys ask_at (IsAskBelow m.count) (λ k. k % 2 ^ 20 < m.count) (λ k x h. h) ks xs c.asks.i n l
    (rw (← c.self.view_is) at c.requires.cells)) in
    let part = (g.met.M.AddressMap.lawful c.args.map.now).part_below (k % 2 ^ 20) below in
    let long = as_long vec_capacity c.asks.columns c.args.columns.now c.asks.invariant.rooms in
    let is = c.place-home.ensures.part ∙ ap m.part c.cell_of.ensures in
    let all = c.requires.modules in
    omega (arith, part, long, is, all)

pub add_ask_run-i-requires-clause-cells : goal.add_ask_run-i-requires-clause-cells
add_ask_run-i-requires-clause-cells g c =
    let m = g.M.AddressMap.shape c.args.map.now in
    let ks = c.self.inside.index.keys in
    let xs = c.self.inside.asked.items in
    let n : length xs ≡ length ks = c.self.invariant.1 in
    let all : (i : ℕ) → i < length ks → get_or ks i 0 % 2 ^ 20 < m.count =
    λ i l. all_keys ask_at (IsAskBelow m.count) (λ k. k % 2 ^ 20 < m.count) (λ k x h. h) ks xs i n l
    (rw (← c.self.view_is) at c.requires.cells) in
    subst (λ (us : List ℕ). (i : ℕ) → i < length us → get_or us i 0 % 2 ^ 20 < m.count) (sym c.keys-keys.ensures.keys) all

pub add_ask_run-i-requires-clause-room : goal.add_ask_run-i-requires-clause-room
add_ask_run-i-requires-clause-room g c =
    let m = g.M.AddressMap.shape c.args.map.now in
    let ks = c.self.inside.index.keys in
    let xs = c.self.inside.asked.items in
    let i = c.asks.i in
    let inv = c.asks.invariant in
    let n : length xs ≡ length ks = c.self.invariant.1 in
    let l : i < length ks = (let v = ap (λ (us : List ℕ). length us) c.keys-keys.ensures.keys in omega (arith, v)) in
    let held = c.args.self.now.held in
    let same : paired ask_at c.keys-keys.result.now xs ≡ held =
    rw (c.keys-keys.ensures.keys) (ap (λ (v : HeldAsks). v.held) c.self.view_is) in
    let row = c.asks.columns in
    let home = c.place-home.result.0 in
    let v = c.index-columns-at.result in
    let k = get_or c.keys-keys.result.now i 0 in
    let below : k % 2 ^ 20 < m.count =
    rw c.keys-keys.ensures.keys (all_keys ask_at (IsAskBelow m.count) (λ k. k % 2 ^ 20 < m.count) (λ k x h. h) ks xs i n l
    (rw (← c.self.view_is) at c.requires.cells)) in
    let part : home ≡ m.part (k % 2 ^ 20) = c.place-home.ensures.part ∙ ap m.part c.cell_of.ensures in
    let there : home < m.parts = rw part ((g.met.M.AddressMap.lawful c.args.map.now).part_below (k % 2 ^ 20) below) in
    let long = as_long vec_capacity row c.args.columns.now inv.rooms in
    let within : home < length row = (let all = c.requires.modules in omega (arith, there, long, all)) in
    subst (λ (hs : List HeldAsk). length (get_or row home v).items + length (ask_words (asks_for m.part home (drop i hs)))
    ≤ vec_capacity (get_or row home v)) (sym same)
    (room_for_run row c.args.columns.now home v (ask_words (asks_for m.part home (drop i held)))
    (ask_words (asks_for m.part home held)) within
    c.index-columns-at.is inv.rooms (c.requires.room home there) (inv.got home there))

pub asks-smaller : goal.asks-smaller
asks-smaller g c =
    let m = g.M.AddressMap.shape c.args.map.now in
    let ks = c.self.inside.index.keys in
    let xs = c.self.inside.asked.items in
    let n : length xs ≡ length ks = c.self.invariant.1 in
    let i = c.asks.i in
    let held = c.args.self.now.held in
    let l : i < length xs = (let v = ap (λ (us : List ℕ). length us) c.keys-keys.ensures.keys in omega (arith, v)) in
    let h = ap (λ (v : HeldAsks). length v.held) c.self.view_is in
    let p = length_paired ask_at ks xs n in
    let part : m.part (get_or c.keys-keys.result.now i 0 % 2 ^ 20) ≡ c.place-home.result.0 =
    sym (c.place-home.ensures.part ∙ ap m.part c.cell_of.ensures) in
    let on : i < c.add_ask_run-i.result = c.add_ask_run-i.ensures.some l part in
    let less : length held - c.add_ask_run-i.result < length held - i = omega (arith, on, l, n, h, p) in
    less

pub asks-preserved : goal.asks-preserved
asks-preserved g c =
    let m = g.M.AddressMap.shape c.args.map.now in
    let ks = c.self.inside.index.keys in
    let xs = c.self.inside.asked.items in
    let i = c.asks.i in
    let inv = c.asks.invariant in
    let n : length xs ≡ length ks = c.self.invariant.1 in
    let l : i < length ks = (let v = ap (λ (us : List ℕ). length us) c.keys-keys.ensures.keys in omega (arith, v)) in
    let held = c.args.self.now.held in
    let same : paired ask_at c.keys-keys.result.now xs ≡ held =
    rw (c.keys-keys.ensures.keys) (ap (λ (v : HeldAsks). v.held) c.self.view_is) in
    let row = c.asks.columns in
    let home = c.place-home.result.0 in
    let v = c.index-columns-at.result in
    let w = c.add_ask_run-i.new.column in
    let next = c.add_ask_run-i.result in
    let k = get_or c.keys-keys.result.now i 0 in
    let below : k % 2 ^ 20 < m.count =
    rw c.keys-keys.ensures.keys (all_keys ask_at (IsAskBelow m.count) (λ k. k % 2 ^ 20 < m.count) (λ k x h. h) ks xs i n l
    (rw (← c.self.view_is) at c.requires.cells)) in
    let part : home ≡ m.part (k % 2 ^ 20) = c.place-home.ensures.part ∙ ap m.part c.cell_of.ensures in
    let there : home < m.parts = rw part ((g.met.M.AddressMap.lawful c.args.map.now).part_below (k % 2 ^ 20) below) in
    let long = as_long vec_capacity row c.args.columns.now inv.rooms in
    let within : home < length row = (let all = c.requires.modules in omega (arith, there, long, all)) in
    let is : v ≡ get_or row home v = c.index-columns-at.is in
    let to_come : ℕ → ℕ → List ℕ = λ i j. ask_words (asks_for m.part j (drop i held)) in
    let got = subst (λ (hs : List HeldAsk). GetsFirst home (λ j. ask_words (asks_for m.part j (drop i hs)))
    (λ j. ask_words (asks_for m.part j (drop next hs))) (get_or row home v).items w.items) same c.add_ask_run-i.ensures.got in
    record {
      rooms = same_of_all vec_capacity row home v w is (c.add_ask_run-i.ensures.room ∙ ap vec_capacity (sym is)) ∙ inv.rooms;
      within = (let a = c.add_ask_run-i.ensures.within in let h = ap (λ (v : HeldAsks). length v.held) c.self.view_is in let p =
          length_paired ask_at ks xs n in omega (arith, a, h, p, n));
      got = λ j low. run_added row home v w within is (to_come i) (to_come next) got j ∙ inv.got j low;
    }

pub returns-clause-words : goal.returns-clause-words
returns-clause-words g c j below =
    let m = g.M.AddressMap.shape c.args.map.now in
    let n : length c.self.inside.asked.items ≡ length c.self.inside.index.keys = c.self.invariant.1 in
    let p = length_paired ask_at c.self.inside.index.keys c.self.inside.asked.items n in
    let h = ap (λ (v : HeldAsks). length v.held) c.self.view_is in
    let held = c.args.self.now.held in
    let i = c.asks.i in
    let done : length held ≤ i = (let v = ap (λ (us : List ℕ). length us) c.keys-keys.ensures.keys in omega (arith, v)) in
    let now = column (map (λ v. v.items) c.asks.columns) j in
    sym (ap (λ (hs : List HeldAsk). now ++ ask_words (asks_for m.part j hs)) (drop_all i held done) ∙ append-nil now)
    ∙ c.asks.invariant.got j below
