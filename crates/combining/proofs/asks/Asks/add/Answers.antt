use Rattle.std.proofs.Common.{length-append, ◌∷◌, [], ◌≡◌, ◌<◌, length, arith, true, get_or, refl, sym, ap, ◌∙◌, eqb}
use Rattle.std.proofs.lemmas.List.{get_or_default}
use Rattle.combining.specs.Places.{place_of}
use Rattle.combining.specs.Held.{hold, paired}
use Rattle.combining.specs.Asked.{Asked, unasked, HeldAsk, ask_at, ask_key, key_of, marked_twice}
use Rattle.combining.proofs.Pairs.{hold_at, hold_new, place_bound, length_paired}
use Rattle.combining.proofs.Asking.{meant_at, fresh_at}
use Rattle.combining.proofs.AskPlaces.{place_paired}
use Rattle.combining.proofs.asks.Asks.add.Goals as goal

pub hold-i-requires : goal.hold-i-requires
hold-i-requires c =
    let inv = c.self.invariant in
    let n = length_paired ask_at c.self.inside.index.keys c.self.inside.asked.items inv.1 in
    let r = rw (← c.self.view_is) at c.requires.room in
    omega arith

pub push-requires : goal.push-requires
push-requires c =
    let inv = c.self.invariant in
    let n = length_paired ask_at c.self.inside.index.keys c.self.inside.asked.items inv.1 in
    let r = rw (← c.self.view_is) at c.requires.room in
    let m : length c.self.inside.asked.items ≡ length c.self.inside.index.keys = inv.1 in
    omega (arith, n, r, m, inv.0)

abbrev again : Asked → Asked
again x = record { again = true; value = x.value }

pub returns-then-i-held-clause-held : goal.returns-then-i-held-clause-held
returns-then-i-held-clause-held c =
    let ks = c.self.inside.index.keys in
    let xs = c.self.inside.asked.items in
    let read = c.args.ordinal in
    let cell = c.args.cell in
    let key = ask_key read cell in
    let f : c.hold-i.result ≡ place_of key ks = c.hold-i.ensures.place ∙ ap (λ k. place_of k ks) c.ask_key-key.ensures in
    let n : length xs ≡ length ks = c.self.invariant.1 in
    let l : place_of key ks < length xs = (let v = c.len-held.ensures.length in omega (arith, v, n, f, c.if-i-held.true)) in
    let x = get_or xs (place_of key ks) unasked in
    let small = c.requires.cell in
    rw (c.hold-i.ensures.held (omega (arith, f, l, n)), c.mark.ensures.items, f, ← c.self.view_is)
    (hold_at ask_at (λ (x : HeldAsk). eqb (key_of x.ask) key) marked_twice again key unasked (meant_at read cell) (λ k x. refl) ks
    xs x _ n l
    (get_or_default xs (place_of key ks) unasked x l) refl
    ∙ ap (λ (y : HeldAsk). hold (λ (x : HeldAsk). eqb (key_of x.ask) key) marked_twice y (paired ask_at ks xs)) (fresh_at read cell small))

pub returns-else-i-held-clause-held : goal.returns-else-i-held-clause-held
returns-else-i-held-clause-held c =
    let ks = c.self.inside.index.keys in
    let xs = c.self.inside.asked.items in
    let read = c.args.ordinal in
    let cell = c.args.cell in
    let key = ask_key read cell in
    let n : length xs ≡ length ks = c.self.invariant.1 in
    let b = place_bound key ks in
    let p : place_of key ks ≡ length ks =
    (let v = c.len-held.ensures.length in let f = c.hold-i.ensures.place ∙ ap (λ k. place_of k ks) c.ask_key-key.ensures in
    omega (arith, v, f, b, c.if-i-held.false)) in
    let small = c.requires.cell in
    let last : c.hold-i.result ≡ length ks = c.hold-i.ensures.place ∙ ap (λ k. place_of k ks) c.ask_key-key.ensures ∙ p in
    rw (c.hold-i.ensures.new last, c.ask_key-key.ensures, c.push.ensures.items, ← c.self.view_is)
    (hold_new ask_at (λ (x : HeldAsk). eqb (key_of x.ask) key) marked_twice again key unasked (meant_at read cell) (λ k x. refl) ks xs n p
    ∙ ap (λ (y : HeldAsk). hold (λ (x : HeldAsk). eqb (key_of x.ask) key) marked_twice y (paired ask_at ks xs)) (fresh_at read cell small))

-- it is held where it was found, or last
pub returns-then-i-held-clause-place : goal.returns-then-i-held-clause-place
returns-then-i-held-clause-place c =
    rw (← c.self.view_is) (c.hold-i.ensures.place ∙ ap (λ k. place_of k c.self.inside.index.keys) c.ask_key-key.ensures
    ∙ sym (place_paired c.args.ordinal c.args.cell c.self.inside.index.keys c.self.inside.asked.items c.self.invariant.1))

pub returns-else-i-held-clause-place : goal.returns-else-i-held-clause-place
returns-else-i-held-clause-place c =
    rw (← c.self.view_is) (c.hold-i.ensures.place ∙ ap (λ k. place_of k c.self.inside.index.keys) c.ask_key-key.ensures
    ∙ sym (place_paired c.args.ordinal c.args.cell c.self.inside.index.keys c.self.inside.asked.items c.self.invariant.1))

pub invariant_of-self-else-i-held : goal.invariant_of-self-else-i-held
invariant_of-self-else-i-held c =
    let ks = c.self.inside.index.keys in
    let xs = c.self.inside.asked.items in
    let inv = c.self.invariant in
    let b = place_bound (ask_key c.args.ordinal c.args.cell) ks in
    let f = c.hold-i.ensures.place ∙ ap (λ k. place_of k ks) c.ask_key-key.ensures in
    let last : c.hold-i.result ≡ length ks = (let v = c.len-held.ensures.length in omega (arith, v, f, b, c.if-i-held.false)) in
    let n = length-append xs (unasked ∷ []) in
    let m = length-append ks (c.ask_key-key.result ∷ []) in (
      c.push.ensures.room ∙ inv.0 ∙ sym c.hold-i.ensures.room,
      rw (c.push.ensures.items, c.hold-i.ensures.new last) (let i = inv.1 in omega (arith, n, m, i)),
    )
