use Rattle.std.proofs.Common.{rules, ◌≡◌, ◌<◌, ◌+◌, ◌∷◌, [], ℕ, length, get_or, FitsSigned, w64, to_z, of_z, arith, sym, ap}
use Rattle.std.proofs.Common.{◌∙◌, length-append}
use Rattle.std.proofs.lemmas.Int.{to_z-of_z}
use Rattle.write_rules.specs.Combining.{Combining}
use Rattle.superstep_machine.specs.Setting.{combining}
use Rattle.superstep_machine.specs.Worker.{HeldWrite}
use Rattle.combining.specs.Compact.{compact_of, held_at}
use Rattle.combining.specs.Held.{entry_of_write, paired, put}
use Rattle.combining.proofs.Ascents.{ascend_more}
use Rattle.combining.proofs.AscendingAsks.{above_more}
use Rattle.combining.proofs.RowWrites.{writes_next, writes_none, put_above}
use Rattle.combining.proofs.writes.append_writes.Goals as goal
use Rattle.combining.proofs.writes.append_writes.Goals.{in-Some+else-next-least, in_default}

pub processors-preserved : goal.processors-preserved
processors-preserved g c =
    let rule = g.R.WriteRule.rule c.args.rule.now in
    let number = g.W.Writes.number c.args.writes.now in
    let written = g.W.Writes.written c.args.writes.now in
    let known : g.R.WriteRule.combining c.args.rule.now ≡ combining rule = g.met.R.WriteRule.known c.args.rule.now in
    let single = (g.R.WriteRule.combining c.args.rule.now).single in
    let inv = c.processors.invariant in
    let ks = c.processors.keys.items in
    let xs = c.processors.entries.items in
    let j = c.processors.j in
    let first = paired held_at c.args.keys.items c.args.entries.items in
    elim c.match-write.branch [
      | in-Some+else-next-least w ↦ (
          let cell = w.in-Some.cell in
          let value = w.in-Some.value in
          let made : HeldWrite = record { processor = number j; cell = cell; value = value } in
          let next : c.processors.least < cell + 1 =
          (let t = w.if-next-least.false in let e = w.from-next.ensures in omega (arith, t, e)) in
          let below : (i : ℕ) → i < length ks → get_or ks i 0 < cell =
          (λ i l. let a = inv.above.all i l in omega (arith, a, next)) in
          let fits : FitsSigned w64 w.processor.result = search rules in
          let within : FitsSigned w64 value = search rules in
          let entry : w.single-entry.result ≡ entry_of_write rule made = w.single-entry.ensures
          ∙ ap (λ z. single z (to_z w64 (of_z w64 value))) (to_z-of_z w64 w.processor.result fits ∙ w.processor.ensures)
          ∙ ap (single (number j)) (to_z-of_z w64 value within)
          ∙ ap (λ (k : Combining). k.single (number j) value) known in
          let n = length-append xs (compact_of (entry_of_write rule made) ∷ []) in
          let m = length-append ks (cell ∷ []) in
          rw (
            w.keys-is,
            w.entries-is,
            w.least-is,
            w.push_reserved.ensures.items,
            w.push_reserved-in-Some.ensures.items,
            w.of.ensures.compact,
            entry,
            w.from-next.ensures,
          ) record {
            held = put_above rule made ks xs inv.long below ∙ ap (put rule made) inv.held
                ∙ sym (writes_next rule number written j cell value first (sym c.write.ensures ∙ w.in-Some.is));
            ascend = ascend_more ks cell 0 below inv.ascend;
            above = above_more ks c.processors.least cell inv.above next;
            long = (let l = inv.long in omega (arith, n, m, l));
            few = (let f = inv.few in omega (arith, m, f));
            room = w.push_reserved.ensures.capacity ∙ inv.room;
            rooms = w.push_reserved-in-Some.ensures.capacity ∙ inv.rooms;
          })
      | in_default w ↦
          rw (w.keys-is, w.entries-is, w.least-is) record {
            held = inv.held ∙ sym (writes_none rule number written j first (sym c.write.ensures ∙ w.in_default.is));
            ascend = inv.ascend;
            above = inv.above;
            long = inv.long;
            few = (let f = inv.few in omega (arith, f));
            room = inv.room;
            rooms = inv.rooms;
          }
    ]
