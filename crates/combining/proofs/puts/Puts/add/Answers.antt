use Rattle.std.proofs.Common.{length-append, ◌∷◌, [], ◌≡◌, ◌<◌, length, sym, ap, ◌∙◌, arith, refl, eqb}
use Rattle.std.proofs.Common.{w64, to_z, of_z}
use Rattle.std.proofs.lemmas.Int.{to_z-of_z}
use Rattle.write_rules.specs.Combining.{Combining}
use Rattle.superstep_machine.specs.Setting.{combining}
use Rattle.superstep_machine.specs.Words.{CellPut}
use Rattle.superstep_machine.specs.Worker.{HeldWrite}
use Rattle.combining.specs.Places.{place_of}
use Rattle.combining.specs.declared.compact.Compact.{Compact}
use Rattle.combining.specs.Compact.{entry_of, compact_of, held_at}
use Rattle.combining.specs.Held.{entry_of_write, hold, paired, put_at}
use Rattle.combining.proofs.CompactLemmas.{held_back}
use Rattle.combining.proofs.Pairs.{hold_at, hold_new, place_bound, length_paired}
use Rattle.combining.proofs.puts.Puts.add.Goals as goal

pub hold-i-requires : goal.hold-i-requires
hold-i-requires g c =
    let inv = c.self.invariant in
    let n = length_paired held_at c.self.inside.index.keys c.self.inside.entries.items inv.1 in
    let r = rw (← c.self.view_is) at c.requires in
    omega arith

pub push_reserved-requires : goal.push_reserved-requires
push_reserved-requires g c =
    let inv = c.self.invariant in
    let n = length_paired held_at c.self.inside.index.keys c.self.inside.entries.items inv.1 in
    let r = rw (← c.self.view_is) at c.requires in
    omega (arith, c.self.inside.entries.ok.0)

pub returns-then-i-len-clause-held : goal.returns-then-i-len-clause-held
returns-then-i-len-clause-held g c =
    let ks = c.self.inside.index.keys in
    let xs = c.self.inside.entries.items in
    let rule = g.R.WriteRule.rule c.args.rule.now in
    let known : g.R.WriteRule.combining c.args.rule.now ≡ combining rule = g.met.R.WriteRule.known c.args.rule.now in
    let w : HeldWrite = record { processor = c.args.processor; cell = c.args.cell; value = c.args.value } in
    let e = entry_of_write rule w in
    let single = (g.R.WriteRule.combining c.args.rule.now).single in
    let s : c.single-entry.result ≡ e = c.single-entry.ensures
    ∙ ap (λ z. single z (to_z w64 (of_z w64 c.args.value))) (to_z-of_z w64 c.args.processor c.ranges.processor)
    ∙ ap (single c.args.processor) (to_z-of_z w64 c.args.value c.ranges.value)
    ∙ ap (λ (k : Combining). k.single c.args.processor c.args.value) known in
    let f : c.hold-i.result ≡ place_of c.args.cell ks = c.hold-i.ensures.place in
    let n : length xs ≡ length ks = c.self.invariant.1 in
    let l : place_of c.args.cell ks < length xs = (let v = c.self.inside.entries.ok.0 in omega arith) in
    let x = c.index.result.now in
    let is = rw f at c.index.ensures in
    let old = entry_of x in
    let joined : c.join.result ≡ (combining rule).join old e = c.join.ensures
    ∙ ap (λ y. (g.R.WriteRule.combining c.args.rule.now).join y c.single-entry.result) c.entry.ensures
    ∙ ap (λ (k : Combining). k.join old c.single-entry.result) known
    ∙ ap ((combining rule).join old) s in
    let change = λ (x : CellPut). put_at x.cell ((combining rule).join x.entry e) in
    rw (c.hold-i.ensures.held (omega (arith, f, l, n)), f, ← c.self.view_is)
    (hold_at held_at (λ (x : CellPut). eqb x.cell c.args.cell) change
    (λ (x : Compact). compact_of ((combining rule).join (entry_of x) e)) c.args.cell (compact_of e) (λ k x. refl)
    (λ k x. sym (held_back k ((combining rule).join (entry_of x) e))) ks xs x c.of.result n l is
    (c.of.ensures.compact ∙ ap compact_of joined)
    ∙ ap (λ (y : CellPut). hold (λ (x : CellPut). eqb x.cell c.args.cell) change y (paired held_at ks xs)) (held_back c.args.cell e))

pub returns-else-i-len-clause-held : goal.returns-else-i-len-clause-held
returns-else-i-len-clause-held g c =
    let ks = c.self.inside.index.keys in
    let xs = c.self.inside.entries.items in
    let rule = g.R.WriteRule.rule c.args.rule.now in
    let known : g.R.WriteRule.combining c.args.rule.now ≡ combining rule = g.met.R.WriteRule.known c.args.rule.now in
    let w : HeldWrite = record { processor = c.args.processor; cell = c.args.cell; value = c.args.value } in
    let e = entry_of_write rule w in
    let single = (g.R.WriteRule.combining c.args.rule.now).single in
    let s : c.single-entry.result ≡ e = c.single-entry.ensures
    ∙ ap (λ z. single z (to_z w64 (of_z w64 c.args.value))) (to_z-of_z w64 c.args.processor c.ranges.processor)
    ∙ ap (single c.args.processor) (to_z-of_z w64 c.args.value c.ranges.value)
    ∙ ap (λ (k : Combining). k.single c.args.processor c.args.value) known in
    let n : length xs ≡ length ks = c.self.invariant.1 in
    let b = place_bound c.args.cell ks in
    let p : place_of c.args.cell ks ≡ length ks = (let v = c.self.inside.entries.ok.0 in let f = c.hold-i.ensures.place in omega arith) in
    let change = λ (x : CellPut). put_at x.cell ((combining rule).join x.entry e) in
    let last : c.hold-i.result ≡ length ks = c.hold-i.ensures.place ∙ p in
    rw (c.hold-i.ensures.new last, c.push_reserved.ensures.items, c.of-else-i-len.ensures.compact, s, ← c.self.view_is)
    (hold_new held_at (λ (x : CellPut). eqb x.cell c.args.cell) change
    (λ (x : Compact). compact_of ((combining rule).join (entry_of x) e)) c.args.cell (compact_of e) (λ k x. refl)
    (λ k x. sym (held_back k ((combining rule).join (entry_of x) e))) ks xs n p
    ∙ ap (λ (y : CellPut). hold (λ (x : CellPut). eqb x.cell c.args.cell) change y (paired held_at ks xs)) (held_back c.args.cell e))

pub invariant_of-self-else-i-len : goal.invariant_of-self-else-i-len
invariant_of-self-else-i-len g c =
    let ks = c.self.inside.index.keys in
    let xs = c.self.inside.entries.items in
    let inv = c.self.invariant in
    let b = place_bound c.args.cell ks in
    let f = c.hold-i.ensures.place in
    let last : c.hold-i.result ≡ length ks = (let v = c.self.inside.entries.ok.0 in let n = inv.1 in omega arith) in
    let n = length-append xs (c.of-else-i-len.result ∷ []) in
    let m = length-append ks (c.args.cell ∷ []) in (
      c.push_reserved.ensures.capacity ∙ inv.0 ∙ sym c.hold-i.ensures.room,
      rw (c.push_reserved.ensures.items, c.hold-i.ensures.new last) (let i = inv.1 in omega (arith, n, m, i)),
    )
