use Rattle.std.proofs.Common.{◌≡◌, ◌<◌, ◌+◌, ◌-◌, ◌^◌, ◌∷◌, [], ℕ, length, get_or, arith, sym, ap, ◌∙◌, length-append}
use Rattle.std.proofs.Common.{length-set, refl}
use Rattle.std.proofs.lemmas.List.{get_or_default}
use Rattle.combining.specs.Asked.{unasked, ask, ask_at, ask_key}
use Rattle.combining.specs.Held.{paired}
use Rattle.combining.proofs.Ascents.{ascend_more}
use Rattle.combining.proofs.AscendingAsks.{asks_next_cell, asks_next_none, none_of, asked_above, asked_last, above_more}
use Rattle.combining.proofs.ascending.append_ascending.Goals as goal
use Rattle.combining.proofs.ascending.append_ascending.Goals.{in-Some+then-least-next, in-Some+else-least-next+then-least-next-2}
use Rattle.combining.proofs.ascending.append_ascending.Goals.{in_default}

pub processors-preserved : goal.processors-preserved
processors-preserved c =
    let inv = c.processors.invariant in
    let ks = c.processors.keys.items in
    let xs = c.processors.asked.items in
    let j = c.processors.j in
    let read = c.args.ordinal in
    let cells = c.args.cells.now in
    let first = paired ask_at c.args.keys.items c.args.asked.items in
    let more = c.processors-test.true in
    elim c.match-cells-j.branch [
      | in-Some+then-least-next w ↦ (
          let cell = w.in-Some.cell in
          let key = ask_key read cell in
          let small : cell < 2 ^ 20 = c.requires.below j cell w.in-Some.is in
          let next : c.processors.least < key + 1 =
          (let t = w.if-least-next.true in let e = w.from-next.ensures in let f = w.ask_key-key.ensures in omega (arith, t, e, f)) in
          let below : (i : ℕ) → i < length ks → get_or ks i 0 < key =
          (λ i l. let a = inv.above.all i l in omega (arith, a, next)) in
          let n = length-append xs (unasked ∷ []) in
          let m = length-append ks (key ∷ []) in
          rw (
            w.keys-is,
            w.asked-is,
            w.least-is,
            w.push_reserved.ensures.items,
            w.push.ensures.items,
            w.from-next.ensures,
            w.ask_key-key.ensures,
          ) record {
            held = asked_above read cell ks xs inv.long small below ∙ ap (ask read cell) inv.held
                ∙ sym (asks_next_cell read cells j first cell more w.in-Some.is);
            ascend = ascend_more ks key 0 below inv.ascend;
            above = above_more ks c.processors.least key inv.above next;
            long = (let l = inv.long in omega (arith, n, m, l));
            few = (let f = inv.few in omega (arith, m, f));
            room = w.push_reserved.ensures.capacity ∙ inv.room;
            rooms = w.push.ensures.room ∙ inv.rooms;
          })
      | in-Some+else-least-next+then-least-next-2 w ↦ (
          let cell = w.in-Some.cell in
          let key = ask_key read cell in
          let small : cell < 2 ^ 20 = c.requires.below j cell w.in-Some.is in
          let same : c.processors.least ≡ key + 1 =
          (let t = w.if-least-next-2.true in let e = w.from-next.ensures in let f = w.ask_key-key.ensures in omega (arith, t, e, f)) in
          let some = inv.above.some (omega (arith, same)) in
          let n : ℕ = w.len.result - 1 in
          let last : n + 1 ≡ length ks =
          (let v = c.processors.keys.ok.0 in let r = w.len.ensures in omega (arith, v, r, some)) in
          let here : get_or ks n 0 ≡ key = (let a = inv.above.last n last in omega (arith, a, same)) in
          let x = get_or xs n unasked in
          let lx : n < length xs = (let l = inv.long in omega (arith, l, last)) in
          rw (w.keys-is, w.asked-is, w.least-is, w.mark.ensures.items) record {
            held = asked_last read cell ks xs n x _ inv.long small last inv.ascend here (get_or_default xs n unasked x lx) refl
                ∙ ap (ask read cell) inv.held
                ∙ sym (asks_next_cell read cells j first cell more w.in-Some.is);
            ascend = inv.ascend;
            above = inv.above;
            long = length-set xs n _ ∙ inv.long;
            few = (let f = inv.few in omega (arith, f));
            room = inv.room;
            rooms = w.mark.ensures.room ∙ inv.rooms;
          })
      | in_default w ↦
          rw (w.keys-is, w.asked-is, w.least-is) record {
            held = inv.held ∙ sym (asks_next_none read cells j first more (none_of _ w.in_default.not-Some));
            ascend = inv.ascend;
            above = inv.above;
            long = inv.long;
            few = (let f = inv.few in omega (arith, f));
            room = inv.room;
            rooms = inv.rooms;
          }
    ]
