use Rattle.std.proofs.Common.{◌≡◌, ◌<◌, ◌+◌, ◌++◌, ◌∷◌, length, drop, ◌∙◌, arith, true, get_or, pos, length-append, refl, eqb}
use Rattle.std.proofs.lemmas.List.{get_or_default}
use Rattle.superstep_machine.specs.Words.{CellPut, put_words}
use Rattle.superstep_machine.specs.Fitting.{FitsPut}
use Rattle.superstep_machine.proofs.ReadBack.{put_long}
use Rattle.combining.specs.declared.compact.Compact.{Compact}
use Rattle.combining.specs.Held.{paired, packed_puts, IsPutBelow}
use Rattle.combining.specs.Compact.{held_at}
use Rattle.combining.proofs.Pairs.{length_paired, paired_more, all_here, all_keys}
use Rattle.combining.proofs.Packing.{pack_yes, pack_room, pack_end}
use Rattle.combining.proofs.OneModule.{lies_there}
use Rattle.combining.proofs.single.append_puts.Goals as goal

abbrev none : Compact
none = record { value = pos 0; owner = pos 0; state = 0 }

pub push_put-requires-clause-room : goal.push_put-requires-clause-room
push_put-requires-clause-room g c =
    let m = g.M.AddressMap.shape c.args.map.now in
    let rule = g.R.WriteRule.rule c.args.rule.now in
    let ks = c.args.keys.now in
    let xs = c.args.entries.now in
    let i = c.loop-i.i in
    let mine = λ (y : CellPut). eqb (m.part y.cell) 0 in
    let held = paired held_at ks xs in
    let long : length xs ≡ length ks = c.requires.long in
    let l : i < length xs = c.loop-i-test.true in
    let lk : i < length ks = omega (arith, l, long) in
    let k = get_or ks i 0 in
    let x = get_or xs i none in
    let more : drop i held ≡ held_at k x ∷ drop (i + 1) held =
    paired_more held_at ks xs i k x long lk (get_or_default ks i 0 k lk) (get_or_default xs i none x l) in
    let below : k < m.count = all_keys held_at (IsPutBelow m.count) (λ k. k < m.count) (λ k x h. h) ks xs i long lk c.requires.cells in
    let yes : mine (held_at k x) ≡ true = lies_there m (g.met.M.AddressMap.lawful c.args.map.now) c.requires.one k below in
    let one = pack_room (put_words rule) mine held i (held_at k x) more c.loop-i.list.items
    (c.args.list.items ++ packed_puts rule m.part 0 held) c.loop-i.invariant.all (length c.loop-i.list.items) yes refl in
    let all = length-append c.args.list.items (packed_puts rule m.part 0 held) in
    let size = put_long rule (held_at k x) in
    let room = c.requires.room in
    let kept = c.loop-i.invariant.room in
    omega (arith, one, all, size, room, kept)

pub push_put-requires-clause-fits : goal.push_put-requires-clause-fits
push_put-requires-clause-fits g c =
    let rule = g.R.WriteRule.rule c.args.rule.now in
    let ks = c.args.keys.now in
    let xs = c.args.entries.now in
    let i = c.loop-i.i in
    let long : length xs ≡ length ks = c.requires.long in
    let l : i < length xs = c.loop-i-test.true in
    let lk : i < length ks = omega (arith, l, long) in
    let k = get_or ks i 0 in
    let x = get_or xs i none in
    rw c.entry.ensures
    (all_here held_at (FitsPut rule) ks xs i k x long lk (get_or_default ks i 0 k lk) (get_or_default xs i none x l) c.requires.fit).value

pub loop-i-preserved : goal.loop-i-preserved
loop-i-preserved g c =
    let m = g.M.AddressMap.shape c.args.map.now in
    let rule = g.R.WriteRule.rule c.args.rule.now in
    let ks = c.args.keys.now in
    let xs = c.args.entries.now in
    let i = c.loop-i.i in
    let mine = λ (y : CellPut). eqb (m.part y.cell) 0 in
    let held = paired held_at ks xs in
    let long : length xs ≡ length ks = c.requires.long in
    let l : i < length xs = c.loop-i-test.true in
    let lk : i < length ks = omega (arith, l, long) in
    let k = get_or ks i 0 in
    let x = get_or xs i none in
    let more : drop i held ≡ held_at k x ∷ drop (i + 1) held =
    paired_more held_at ks xs i k x long lk (get_or_default ks i 0 k lk) (get_or_default xs i none x l) in
    let below : k < m.count = all_keys held_at (IsPutBelow m.count) (λ k. k < m.count) (λ k x h. h) ks xs i long lk c.requires.cells in
    let yes : mine (held_at k x) ≡ true = lies_there m (g.met.M.AddressMap.lawful c.args.map.now) c.requires.one k below in
    record {
      room = c.push_put.ensures.room ∙ c.loop-i.invariant.room;
      all = pack_yes (put_words rule) mine held i (held_at k x) more c.loop-i.list.items
          (c.args.list.items ++ packed_puts rule m.part 0 held) c.loop-i.invariant.all c.push_put.new.out.items yes
          (rw c.entry.ensures at c.push_put.ensures.words);
    }

pub returns-clause-words : goal.returns-clause-words
returns-clause-words g c =
    let m = g.M.AddressMap.shape c.args.map.now in
    let rule = g.R.WriteRule.rule c.args.rule.now in
    let held = paired held_at c.args.keys.now c.args.entries.now in
    let long = length_paired held_at c.args.keys.now c.args.entries.now c.requires.long in
    let as_long = c.requires.long in
    let off = c.loop-i-test.false in
    pack_end (put_words rule) (λ (y : CellPut). eqb (m.part y.cell) 0) held c.loop-i.i c.loop-i.list.items _
    (omega (arith, long, as_long, off)) c.loop-i.invariant.all
