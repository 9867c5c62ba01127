use Rattle.std.proofs.Common.{◌≡◌, ◌≤◌, ◌<◌, ◌+◌, ◌%◌, ◌^◌, ◌++◌, ◌∷◌, length, drop, sym, ap, ◌∙◌, arith, true, get_or, length-append, refl}
use Rattle.std.proofs.lemmas.List.{get_or_default}
use Rattle.combining.specs.Asked.{unasked}
use Rattle.combining.specs.Held.{paired}
use Rattle.combining.specs.Asked.{ask_at, IsAskBelow}
use Rattle.combining.proofs.Pairs.{length_paired, paired_more, all_keys}
use Rattle.combining.proofs.Packing.{packed, pack_yes, pack_room, pack_end}
use Rattle.combining.proofs.Asking.{words_of, is_for, words_for}
use Rattle.combining.proofs.Marks.{same_word}
use Rattle.combining.proofs.OneModule.{lies_there}
use Rattle.combining.proofs.single.append_asks.Goals as goal

pub push_ask-requires : goal.push_ask-requires
push_ask-requires g c =
    let m = g.M.AddressMap.shape c.args.map.now in
    let ks = c.args.keys.now in
    let xs = c.args.asked.now.items in
    let i = c.loop-i.i in
    let mine = is_for m.part 0 in
    let held = paired ask_at ks xs in
    let long : length xs ≡ length ks = c.requires.long in
    let l : i < length xs = (let n = c.marks-marks.ensures.length in let t = c.loop-i-test.true in omega (arith, n, t)) in
    let lk : i < length ks = omega (arith, l, long) in
    let k = get_or ks i 0 in
    let x = get_or xs i unasked in
    let more : drop i held ≡ ask_at k x ∷ drop (i + 1) held =
    paired_more ask_at ks xs i k x long lk (get_or_default ks i 0 k lk) (get_or_default xs i unasked x l) in
    let below : k % 2 ^ 20 < m.count =
    all_keys ask_at (IsAskBelow m.count) (λ k. k % 2 ^ 20 < m.count) (λ k x h. h) ks xs i long lk c.requires.cells in
    let yes : mine (ask_at k x) ≡ true = lies_there m (g.met.M.AddressMap.lawful c.args.map.now) c.requires.one (k % 2 ^ 20) below in
    let one = pack_room words_of mine held i (ask_at k x) more c.loop-i.list.items (c.args.list.items ++ packed words_of mine held)
    c.loop-i.invariant.all (length c.loop-i.list.items) yes refl in
    let all = length-append c.args.list.items (packed words_of mine held) in
    let same = ap length (words_for m.part 0 held) in
    let room = c.requires.room in
    let kept = c.loop-i.invariant.room in
    omega (arith, one, all, same, room, kept)

pub loop-i-preserved : goal.loop-i-preserved
loop-i-preserved g c =
    let m = g.M.AddressMap.shape c.args.map.now in
    let ks = c.args.keys.now in
    let xs = c.args.asked.now.items in
    let i = c.loop-i.i in
    let mine = is_for m.part 0 in
    let held = paired ask_at ks xs in
    let long : length xs ≡ length ks = c.requires.long in
    let l : i < length xs = (let n = c.marks-marks.ensures.length in let t = c.loop-i-test.true in omega (arith, n, t)) in
    let lk : i < length ks = omega (arith, l, long) in
    let k = get_or ks i 0 in
    let x = get_or xs i unasked in
    let more : drop i held ≡ ask_at k x ∷ drop (i + 1) held =
    paired_more ask_at ks xs i k x long lk (get_or_default ks i 0 k lk) (get_or_default xs i unasked x l) in
    let below : k % 2 ^ 20 < m.count =
    all_keys ask_at (IsAskBelow m.count) (λ k. k % 2 ^ 20 < m.count) (λ k x h. h) ks xs i long lk c.requires.cells in
    let yes : mine (ask_at k x) ≡ true = lies_there m (g.met.M.AddressMap.lawful c.args.map.now) c.requires.one (k % 2 ^ 20) below in
    record {
      room = c.push_ask.ensures.room ∙ c.loop-i.invariant.room;
      all = pack_yes words_of mine held i (ask_at k x) more c.loop-i.list.items (c.args.list.items ++ packed words_of mine held)
          c.loop-i.invariant.all c.push_ask.new.out.items yes (c.push_ask.ensures.word ∙ same_word k x c.loop-i.list.items
          (c.marks-marks.ensures.each i));
    }

pub returns-clause-words : goal.returns-clause-words
returns-clause-words g c =
    let m = g.M.AddressMap.shape c.args.map.now in
    let held = paired ask_at c.args.keys.now c.args.asked.now.items in
    let long = length_paired ask_at c.args.keys.now c.args.asked.now.items c.requires.long in
    let as_long = c.requires.long in
    let off : length c.args.asked.now.items ≤ c.loop-i.i = (let n = c.marks-marks.ensures.length in let t = c.loop-i-test.false in omega
    (arith, n, t)) in
    pack_end words_of (is_for m.part 0) held c.loop-i.i c.loop-i.list.items _ (omega (arith, long, as_long, off)) c.loop-i.invariant.all
    ∙ ap (λ ws. c.args.list.items ++ ws) (sym (words_for m.part 0 held))
