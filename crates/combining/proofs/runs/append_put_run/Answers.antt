use Rattle.std.proofs.Common.{ℕ, subst, ◌≡◌, ◌<◌, ◌+◌, ◌++◌, ◌∷◌, [], length, drop, sym, ◌∙◌, arith, true, get_or, pos, length-append, refl}
use Rattle.std.proofs.Common.{eqb}
use Rattle.std.proofs.lemmas.List.{get_or_default}
use Rattle.std.proofs.lemmas.Bool.{eq-eqb, ne_eqb}
use Rattle.superstep_machine.specs.Words.{CellPut, put_words}
use Rattle.superstep_machine.specs.Fitting.{FitsPut}
use Rattle.superstep_machine.proofs.ReadBack.{put_long}
use Rattle.combining.specs.declared.compact.Compact.{Compact}
use Rattle.combining.specs.Held.{paired, packed_puts}
use Rattle.combining.specs.Compact.{held_at}
use Rattle.combining.specs.AllModules.{GetsFirst}
use Rattle.combining.proofs.Pairs.{paired_more, all_here}
use Rattle.combining.proofs.Packing.{pack_yes, pack_not, pack_room}
use Rattle.combining.proofs.runs.append_put_run.Goals as goal

abbrev none : Compact
none = record { value = pos 0; owner = pos 0; state = 0 }

pub place-there-requires : goal.place-there-requires
place-there-requires g c =
    let l : c.puts.i < length c.args.keys.now = (let k = c.requires.long in omega arith) in
    c.requires.cells c.puts.i l

pub push_put-requires-clause-room : goal.push_put-requires-clause-room
push_put-requires-clause-room g c =
    let m = g.M.AddressMap.shape c.args.map.now in
    let rule = g.R.WriteRule.rule c.args.rule.now in
    let ks = c.args.keys.now in
    let xs = c.args.entries.now in
    let i = c.puts.i in
    let home = c.args.home in
    let mine = λ (y : CellPut). eqb (m.part y.cell) home in
    let held = paired held_at ks xs in
    let long : length xs ≡ length ks = c.requires.long in
    let l : i < length xs = c.puts-test.true in
    let lk : i < length ks = omega (arith, l, long) in
    let k = get_or ks i 0 in
    let x = get_or xs i none in
    let more : drop i held ≡ held_at k x ∷ drop (i + 1) held =
    paired_more held_at ks xs i k x long lk (get_or_default ks i 0 k lk) (get_or_default xs i none x l) in
    let equal : c.place-there.result.0 ≡ home = c.if-there-home.false in
    let here : m.part k ≡ home = sym c.place-there.ensures.part ∙ equal in
    let yes : mine (held_at k x) ≡ true = eq-eqb (m.part k) home here in
    let first = packed_puts rule m.part home (drop c.args.from held) in
    let one = pack_room (put_words rule) mine held i (held_at k x) more c.puts.list.items (c.args.list.items ++ first)
    c.puts.invariant.got (length c.puts.list.items) yes refl in
    let all = length-append c.args.list.items first in
    let size = put_long rule (held_at k x) in
    let room = c.requires.room in
    let kept = c.puts.invariant.room in
    omega (arith, one, all, size, room, kept)

pub push_put-requires-clause-fits : goal.push_put-requires-clause-fits
push_put-requires-clause-fits g c =
    let rule = g.R.WriteRule.rule c.args.rule.now in
    let ks = c.args.keys.now in
    let xs = c.args.entries.now in
    let i = c.puts.i in
    let long : length xs ≡ length ks = c.requires.long in
    let l : i < length xs = c.puts-test.true in
    let lk : i < length ks = omega (arith, l, long) in
    let k = get_or ks i 0 in
    let x = get_or xs i none in
    rw c.entry.ensures
    (all_here held_at (FitsPut rule) ks xs i k x long lk (get_or_default ks i 0 k lk) (get_or_default xs i none x l) c.requires.fit).value

pub puts-preserved : goal.puts-preserved
puts-preserved g c =
    let inv = c.puts.invariant in
    let m = g.M.AddressMap.shape c.args.map.now in
    let rule = g.R.WriteRule.rule c.args.rule.now in
    let ks = c.args.keys.now in
    let xs = c.args.entries.now in
    let i = c.puts.i in
    let home = c.args.home in
    let held = paired held_at ks xs in
    let long : length xs ≡ length ks = c.requires.long in
    let l : i < length xs = c.puts-test.true in
    let lk : i < length ks = omega (arith, l, long) in
    let k = get_or ks i 0 in
    let x = get_or xs i none in
    let more : drop i held ≡ held_at k x ∷ drop (i + 1) held =
    paired_more held_at ks xs i k x long lk (get_or_default ks i 0 k lk) (get_or_default xs i none x l) in
    let equal : c.place-there.result.0 ≡ home = c.if-there-home.false in
    let here : m.part k ≡ home = sym c.place-there.ensures.part ∙ equal in
    record {
      room = c.push_put.ensures.room ∙ inv.room;
      got = pack_yes (put_words rule) (λ (y : CellPut). eqb (m.part y.cell) home) held i (held_at k x) more c.puts.list.items
          (c.args.list.items ++ packed_puts rule m.part home (drop c.args.from held)) inv.got c.push_put.new.out.items
          (eq-eqb (m.part k) home here) (rw c.entry.ensures at c.push_put.ensures.words);
      others = λ j apart.
          pack_not (put_words rule) (λ (y : CellPut). eqb (m.part y.cell) j) held i (held_at k x) more []
          (packed_puts rule m.part j (drop c.args.from held)) (inv.others j apart) (ne_eqb (m.part k) j (λ e. apart (sym here ∙ e)));
    }

pub returns-then-there-home-clause-got : goal.returns-then-there-home-clause-got
returns-then-there-home-clause-got g c = record { got = c.puts.invariant.got; others = c.puts.invariant.others }

pub returns-clause-got : goal.returns-clause-got
returns-clause-got g c =
    let at = (g.M.AddressMap.shape c.args.map.now).part in
    let rule = g.R.WriteRule.rule c.args.rule.now in
    let held = paired held_at c.args.keys.now c.args.entries.now in
    let end : c.puts.i ≡ length c.args.entries.now = (let f = c.puts-test.false in let e = c.puts.auto.i-end in let r = c.requires.from in
    omega (arith, f, e, r)) in
    subst (λ (k : ℕ). GetsFirst c.args.home (λ j. packed_puts rule at j (drop c.args.from held)) (λ j. packed_puts rule at j (drop k held))
    c.args.list.items c.puts.list.items) end (record { got = c.puts.invariant.got; others = c.puts.invariant.others })
