use Rattle.std.proofs.Common.{◌≡◌, ◌≤◌, ◌<◌, ◌-◌, ◌+◌, ◌++◌, ℕ, List, length, drop, map, sym, ap, ◌∙◌, subst, arith, get_or, vec_capacity}
use Rattle.std.proofs.Common.{append-nil}
use Rattle.std.proofs.lemmas.List.{drop_all}
use Rattle.superstep_machine.specs.Words.{CellPut}
use Rattle.combining.specs.Compact.{held_at}
use Rattle.combining.specs.Held.{HeldPuts, paired, packed_puts, IsPutBelow}
use Rattle.combining.specs.AllModules.{column, GetsFirst}
use Rattle.combining.proofs.Pairs.{length_paired, all_keys}
use Rattle.combining.proofs.AllColumns.{as_long, same_of_all, run_added, room_for_run}
use Rattle.combining.proofs.puts.Puts.pack_all.Goals as goal

pub place-home-requires : goal.place-home-requires
place-home-requires g c =
    let rule = g.R.WriteRule.rule c.args.rule.now in
    let m = g.M.AddressMap.shape c.args.map.now in
    let ks = c.self.inside.index.keys in
    let xs = c.self.inside.entries.items in
    let n : length xs ≡ length ks = c.self.invariant.1 in
    let l : c.puts.i < length ks = (let v = c.self.inside.entries.ok.0 in omega arith) in
    rw c.keys-keys.ensures.keys (all_keys held_at (IsPutBelow m.count) (λ k. k < m.count) (λ k x h. h) ks xs
    c.puts.i n l (rw (← c.self.view_is) at c.requires.cells))

pub bounds-columns-at : goal.bounds-columns-at
bounds-columns-at g c =
    let rule = g.R.WriteRule.rule c.args.rule.now in
    let m = g.M.AddressMap.shape c.args.map.now in
    let ks = c.self.inside.index.keys in
    let xs = c.self.inside.entries.items in
    let n : length xs ≡ length ks = c.self.invariant.1 in
    let l : c.puts.i < length ks = (let v = c.self.inside.entries.ok.0 in omega arith) in
    let k = get_or c.keys-keys.result.now c.puts.i 0 in
    let below : k < m.count =
    rw c.keys-keys.ensures.keys (all_keys held_at (IsPutBelow m.count) (λ k. k < m.count) (λ k x h. h) ks xs c.puts.i n l
    (rw (← c.self.view_is) at c.requires.cells)) in
    let part = (g.met.M.AddressMap.lawful c.args.map.now).part_below (k) below in
    let long = as_long vec_capacity c.puts.columns c.args.columns.now c.puts.invariant.rooms in
    let is = c.place-home.ensures.part in
    let all = c.requires.modules in
    omega (arith, part, long, is, all)

pub add_put_run-i-requires-clause-cells : goal.add_put_run-i-requires-clause-cells
add_put_run-i-requires-clause-cells g c =
    let rule = g.R.WriteRule.rule c.args.rule.now in
    let m = g.M.AddressMap.shape c.args.map.now in
    let ks = c.self.inside.index.keys in
    let xs = c.self.inside.entries.items in
    let n : length xs ≡ length ks = c.self.invariant.1 in
    let all : (i : ℕ) → i < length ks → get_or ks i 0 < m.count =
    λ i l. all_keys held_at (IsPutBelow m.count) (λ k. k < m.count) (λ k x h. h) ks xs i n l
    (rw (← c.self.view_is) at c.requires.cells) in
    subst (λ (us : List ℕ). (i : ℕ) → i < length us → get_or us i 0 < m.count) (sym c.keys-keys.ensures.keys) all

pub add_put_run-i-requires-clause-room : goal.add_put_run-i-requires-clause-room
add_put_run-i-requires-clause-room g c =
    let rule = g.R.WriteRule.rule c.args.rule.now in
    let m = g.M.AddressMap.shape c.args.map.now in
    let ks = c.self.inside.index.keys in
    let xs = c.self.inside.entries.items in
    let i = c.puts.i in
    let inv = c.puts.invariant in
    let n : length xs ≡ length ks = c.self.invariant.1 in
    let l : i < length ks = (let v = c.self.inside.entries.ok.0 in omega arith) in
    let held = c.args.self.now.held in
    let same : paired held_at c.keys-keys.result.now c.deref-in-puts.result.now ≡ held =
    rw (c.keys-keys.ensures.keys, c.deref-in-puts.ensures.value) (ap (λ (v : HeldPuts). v.held) c.self.view_is) in
    let row = c.puts.columns in
    let home = c.place-home.result.0 in
    let v = c.index-columns-at.result in
    let k = get_or c.keys-keys.result.now i 0 in
    let below : k < m.count =
    rw c.keys-keys.ensures.keys (all_keys held_at (IsPutBelow m.count) (λ k. k < m.count) (λ k x h. h) ks xs i n l
    (rw (← c.self.view_is) at c.requires.cells)) in
    let part : home ≡ m.part (k) = c.place-home.ensures.part in
    let there : home < m.parts = rw part ((g.met.M.AddressMap.lawful c.args.map.now).part_below (k) below) in
    let long = as_long vec_capacity row c.args.columns.now inv.rooms in
    let within : home < length row = (let all = c.requires.modules in omega (arith, there, long, all)) in
    subst (λ (hs : List CellPut). length (get_or row home v).items + length (packed_puts rule m.part home (drop i hs))
    ≤ vec_capacity (get_or row home v)) (sym same)
    (room_for_run row c.args.columns.now home v (packed_puts rule m.part home (drop i held)) (packed_puts rule m.part home held) within
    c.index-columns-at.is inv.rooms (c.requires.room home there) (inv.got home there))

pub puts-smaller : goal.puts-smaller
puts-smaller g c =
    let rule = g.R.WriteRule.rule c.args.rule.now in
    let m = g.M.AddressMap.shape c.args.map.now in
    let ks = c.self.inside.index.keys in
    let xs = c.self.inside.entries.items in
    let n : length xs ≡ length ks = c.self.invariant.1 in
    let i = c.puts.i in
    let held = c.args.self.now.held in
    let l : i < length xs = (let v = c.self.inside.entries.ok.0 in omega arith) in
    let deref : length c.deref-in-puts.result.now ≡ length xs = ap length c.deref-in-puts.ensures.value in
    let h = ap (λ (v : HeldPuts). length v.held) c.self.view_is in
    let p = length_paired held_at ks xs n in
    let part : m.part (get_or c.keys-keys.result.now i 0) ≡ c.place-home.result.0 =
    sym (c.place-home.ensures.part) in
    let on : i < c.add_put_run-i.result = c.add_put_run-i.ensures.some (omega (arith, l, deref)) part in
    let less : length held - c.add_put_run-i.result < length held - i = omega (arith, on, l, n, h, p) in
    less

pub puts-preserved : goal.puts-preserved
puts-preserved g c =
    let rule = g.R.WriteRule.rule c.args.rule.now in
    let m = g.M.AddressMap.shape c.args.map.now in
    let ks = c.self.inside.index.keys in
    let xs = c.self.inside.entries.items in
    let i = c.puts.i in
    let inv = c.puts.invariant in
    let n : length xs ≡ length ks = c.self.invariant.1 in
    let l : i < length ks = (let v = c.self.inside.entries.ok.0 in omega arith) in
    let held = c.args.self.now.held in
    let same : paired held_at c.keys-keys.result.now c.deref-in-puts.result.now ≡ held =
    rw (c.keys-keys.ensures.keys, c.deref-in-puts.ensures.value) (ap (λ (v : HeldPuts). v.held) c.self.view_is) in
    let row = c.puts.columns in
    let home = c.place-home.result.0 in
    let v = c.index-columns-at.result in
    let w = c.add_put_run-i.new.column in
    let next = c.add_put_run-i.result in
    let k = get_or c.keys-keys.result.now i 0 in
    let below : k < m.count =
    rw c.keys-keys.ensures.keys (all_keys held_at (IsPutBelow m.count) (λ k. k < m.count) (λ k x h. h) ks xs i n l
    (rw (← c.self.view_is) at c.requires.cells)) in
    let part : home ≡ m.part (k) = c.place-home.ensures.part in
    let there : home < m.parts = rw part ((g.met.M.AddressMap.lawful c.args.map.now).part_below (k) below) in
    let long = as_long vec_capacity row c.args.columns.now inv.rooms in
    let within : home < length row = (let all = c.requires.modules in omega (arith, there, long, all)) in
    let is : v ≡ get_or row home v = c.index-columns-at.is in
    let to_come : ℕ → ℕ → List ℕ = λ i j. packed_puts rule m.part j (drop i held) in
    let got = subst (λ (hs : List CellPut). GetsFirst home (λ j. packed_puts rule m.part j (drop i hs))
    (λ j. packed_puts rule m.part j (drop next hs)) (get_or row home v).items w.items) same c.add_put_run-i.ensures.got in
    record {
      rooms = same_of_all vec_capacity row home v w is (c.add_put_run-i.ensures.room ∙ ap vec_capacity (sym is)) ∙ inv.rooms;
      within = (let a = c.add_put_run-i.ensures.within in let d = ap length c.deref-in-puts.ensures.value in
          let h = ap (λ (v : HeldPuts). length v.held) c.self.view_is in let p = length_paired held_at ks xs n in omega
          (arith, a, d, h, p, n));
      got = λ j low. run_added row home v w within is (to_come i) (to_come next) got j ∙ inv.got j low;
    }

pub returns-clause-words : goal.returns-clause-words
returns-clause-words g c j below =
    let rule = g.R.WriteRule.rule c.args.rule.now in
    let m = g.M.AddressMap.shape c.args.map.now in
    let n : length c.self.inside.entries.items ≡ length c.self.inside.index.keys = c.self.invariant.1 in
    let p = length_paired held_at c.self.inside.index.keys c.self.inside.entries.items n in
    let h = ap (λ (v : HeldPuts). length v.held) c.self.view_is in
    let held = c.args.self.now.held in
    let i = c.puts.i in
    let done : length held ≤ i = (let v = c.self.inside.entries.ok.0 in omega arith) in
    let now = column (map (λ v. v.items) c.puts.columns) j in
    sym (ap (λ (hs : List CellPut). now ++ packed_puts rule m.part j hs) (drop_all i held done) ∙ append-nil now)
    ∙ c.puts.invariant.got j below
