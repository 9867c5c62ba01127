use Rattle.std.proofs.Common.{ℕ, List, subst, ◌≡◌, ◌<◌, ◌+◌, ◌%◌, ◌^◌, ◌++◌, ◌∷◌, [], length, drop, sym, ap, ◌∙◌, arith, true, get_or}
use Rattle.std.proofs.Common.{length-append, refl}
use Rattle.std.proofs.lemmas.List.{get_or_default}
use Rattle.std.proofs.lemmas.Bool.{eq-eqb, ne_eqb}
use Rattle.combining.specs.Asked.{unasked}
use Rattle.combining.specs.Held.{paired}
use Rattle.combining.specs.Asked.{HeldAsk, ask_at, asks_for}
use Rattle.combining.specs.AllModules.{GetsFirst}
use Rattle.superstep_machine.specs.Words.{ask_words}
use Rattle.combining.proofs.Pairs.{paired_more}
use Rattle.combining.proofs.Packing.{packed, pack_yes, pack_not, pack_room}
use Rattle.combining.proofs.Asking.{words_of, is_for, words_for}
use Rattle.combining.proofs.Marks.{same_word}
use Rattle.combining.proofs.runs.append_ask_run.Goals as goal

pub place-there-requires : goal.place-there-requires
place-there-requires g c =
    let l : c.asks.i < length c.args.keys.now = (let k = c.requires.long in let n = c.marks-marks.ensures.length in omega (arith, k, n)) in
    rw c.cell_of.ensures (c.requires.cells c.asks.i l)

pub push_ask-requires : goal.push_ask-requires
push_ask-requires g c =
    let m = g.M.AddressMap.shape c.args.map.now in
    let ks = c.args.keys.now in
    let xs = c.args.asked.now.items in
    let i = c.asks.i in
    let home = c.args.home in
    let mine = is_for m.part home in
    let held = paired ask_at ks xs in
    let long : length xs ≡ length ks = c.requires.long in
    let l : i < length xs = (let n = c.marks-marks.ensures.length in let t = c.asks-test.true in omega (arith, n, t)) in
    let lk : i < length ks = omega (arith, l, long) in
    let k = get_or ks i 0 in
    let x = get_or xs i unasked in
    let more : drop i held ≡ ask_at k x ∷ drop (i + 1) held =
    paired_more ask_at ks xs i k x long lk (get_or_default ks i 0 k lk) (get_or_default xs i unasked x l) in
    let equal : c.place-there.result.0 ≡ home = c.if-there-home.false in
    let here : m.part (k % 2 ^ 20) ≡ home = sym (c.place-there.ensures.part ∙ ap m.part c.cell_of.ensures) ∙ equal in
    let yes : mine (ask_at k x) ≡ true = eq-eqb (m.part (k % 2 ^ 20)) home here in
    let first = drop c.args.from held in
    let one = pack_room words_of mine held i (ask_at k x) more c.asks.list.items (c.args.list.items ++ packed words_of mine first)
    c.asks.invariant.got (length c.asks.list.items) yes refl in
    let all = length-append c.args.list.items (packed words_of mine first) in
    let same = ap length (words_for m.part home first) in
    let room = c.requires.room in
    let kept = c.asks.invariant.room in
    omega (arith, one, all, same, room, kept)

pub asks-preserved : goal.asks-preserved
asks-preserved g c =
    let inv = c.asks.invariant in
    let m = g.M.AddressMap.shape c.args.map.now in
    let ks = c.args.keys.now in
    let xs = c.args.asked.now.items in
    let i = c.asks.i in
    let home = c.args.home in
    let mine = is_for m.part home in
    let held = paired ask_at ks xs in
    let long : length xs ≡ length ks = c.requires.long in
    let l : i < length xs = (let n = c.marks-marks.ensures.length in let t = c.asks-test.true in omega (arith, n, t)) in
    let lk : i < length ks = omega (arith, l, long) in
    let k = get_or ks i 0 in
    let x = get_or xs i unasked in
    let more : drop i held ≡ ask_at k x ∷ drop (i + 1) held =
    paired_more ask_at ks xs i k x long lk (get_or_default ks i 0 k lk) (get_or_default xs i unasked x l) in
    let equal : c.place-there.result.0 ≡ home = c.if-there-home.false in
    let here : m.part (k % 2 ^ 20) ≡ home = sym (c.place-there.ensures.part ∙ ap m.part c.cell_of.ensures) ∙ equal in
    let yes : mine (ask_at k x) ≡ true = eq-eqb (m.part (k % 2 ^ 20)) home here in
    record {
      room = c.push_ask.ensures.room ∙ inv.room;
      got = pack_yes words_of mine held i (ask_at k x) more c.asks.list.items
          (c.args.list.items ++ packed words_of mine (drop c.args.from held)) inv.got c.push_ask.new.out.items yes
          (c.push_ask.ensures.word ∙ same_word k x c.asks.list.items (c.marks-marks.ensures.each i));
      others = λ j apart.
          pack_not words_of (is_for m.part j) held i (ask_at k x) more [] (packed words_of (is_for m.part j) (drop c.args.from held))
          (inv.others j apart) (ne_eqb (m.part (k % 2 ^ 20)) j (λ e. apart (sym here ∙ e)));
    }

module _ (at : ℕ → ℕ) (home : ℕ) (held : List HeldAsk) (from i : ℕ) (old new : List ℕ)
    (got : new ++ packed words_of (is_for at home) (drop i held) ≡ old ++ packed words_of (is_for at home) (drop from held))
    (others : (j : ℕ) → (home ≡ j → ⊥) → packed words_of (is_for at j) (drop i held) ≡ packed words_of (is_for at j) (drop from held))
  where
    so_far : GetsFirst home (λ j. ask_words (asks_for at j (drop from held))) (λ j. ask_words (asks_for at j (drop i held))) old new
    so_far = record {
      got = ap (λ ws. new ++ ws) (words_for at home (drop i held)) ∙ got ∙ sym (ap (λ ws. old ++ ws) (words_for at home (drop from held)));
      others = λ j apart. words_for at j (drop i held) ∙ others j apart ∙ sym (words_for at j (drop from held));
    }

pub returns-then-there-home-clause-got : goal.returns-then-there-home-clause-got
returns-then-there-home-clause-got g c =
    so_far (g.M.AddressMap.shape c.args.map.now).part c.args.home (paired ask_at c.args.keys.now c.args.asked.now.items)
    c.args.from c.asks.i
    c.args.list.items c.asks.list.items c.asks.invariant.got c.asks.invariant.others

pub returns-clause-got : goal.returns-clause-got
returns-clause-got g c =
    let at = (g.M.AddressMap.shape c.args.map.now).part in
    let held = paired ask_at c.args.keys.now c.args.asked.now.items in
    let end : c.asks.i ≡ length c.marks-marks.result.now = (let f = c.asks-test.false in let e = c.asks.auto.i-end in let r =
    c.requires.from in
    let n = c.marks-marks.ensures.length in omega (arith, f, e, r, n)) in
    subst (λ (k : ℕ). GetsFirst c.args.home (λ j. ask_words (asks_for at j (drop c.args.from held)))
    (λ j. ask_words (asks_for at j (drop k held))) c.args.list.items c.asks.list.items) end
    (so_far at c.args.home held c.args.from c.asks.i c.args.list.items c.asks.list.items c.asks.invariant.got c.asks.invariant.others)
