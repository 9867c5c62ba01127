use Rattle.std.proofs.Common.{◌≡◌, ◌≤◌, ◌+◌, ◌∷◌, length, ℕ, List, map, ap, subst, ◌∙◌, length-set, Option, None, arith}
use Rattle.write_rules.specs.declared.entry.Entry.{Entry}
use Rattle.superstep_machine.specs.WordReading.{entry_of_column}
use Rattle.superstep_machine.specs.Sending.{join, entry_in}
use Rattle.combining.specs.declared.words.PlacedPut.{PlacedPut}
use Rattle.combining.specs.Held.{put_at}
use Rattle.combining.specs.Alone.{cells_put, AscendTo}
use Rattle.combining.proofs.Columns.{column_next, column_end}
use Rattle.combining.proofs.OnlyPuts.{ascend_up, none_below, Leaves_same, settle_only}
use Rattle.combining.proofs.alone.settle_column_alone.Goals as goal

pub loop-put-preserved : goal.loop-put-preserved
loop-put-preserved g c =
    let m = g.M.AddressMap.shape c.args.map.now in
    let lawful = g.met.M.AddressMap.lawful c.args.map.now in
    let rule = g.R.WriteRule.rule c.args.rule.now in
    let op = join rule in
    let j = c.args.part in
    let inv = c.loop-put.invariant in
    let x = c.in-Some.put in
    let ws = c.loop-put.rest.now in
    let behind = c.in-Some.behind.now in
    let placed = c.in-Some.ensures.fits in
    let done = c.settle_alone-noted.ensures in
    let before : (ℕ → Option Entry) → ℕ → Option Entry = λ rest d. op (entry_of_column rule m j d ws) (rest d) in
    let after : (ℕ → Option Entry) → ℕ → Option Entry = λ rest d. op (entry_of_column rule m j d behind) (rest d) in
    record {
      long = ap length done.values ∙ length-set _ _ _ ∙ inv.long;
      left = λ due found rest n k up none known.
          let l = inv.left due found rest n k up none known in
          let cells : cells_put rule m j ws ≡ x.cell ∷ cells_put rule m j behind =
          ap (map (λ (y : PlacedPut). y.cell)) c.in-Some.ensures.item in
          let a : (l.0 ≤ x.cell) × AscendTo (x.cell + 1) (cells_put rule m j behind) k =
          subst (λ (cs : List ℕ). AscendTo l.0 cs k) cells l.1 in
          let b = ascend_up (x.cell + 1) (cells_put rule m j behind) k a.1 in
          let gone : after rest x.cell ≡ None =
          ap (λ y. op y (rest x.cell)) (none_below rule m j behind (x.cell + 1) k x.cell a.1 (omega arith))
          ∙ none x.cell (omega (arith, b)) in (
            x.cell + 1,
            a.1,
            rw (done.values, done.noted, placed.is)
                (settle_only rule m j lawful due found c.loop-put.values (inv.long ∙ c.requires.values) c.loop-put.noted x.cell
                x.entry placed.of
                (after rest) gone
                (Leaves_same rule m j due found c.loop-put.values c.loop-put.noted (before rest)
                (λ d. op (entry_in d (put_at x.cell x.entry)) (after rest d)) (column_next rule m j ws behind x c.in-Some.ensures.item
                rest) l.2)),
          );
    }

pub returns-clause-settled : goal.returns-clause-settled
returns-clause-settled g c due found rest n k up none known =
    let m = g.M.AddressMap.shape c.args.map.now in
    let rule = g.R.WriteRule.rule c.args.rule.now in
    let j = c.args.part in
    let ws = c.loop-put.rest.now in
    let l = c.loop-put.invariant.left due found rest n k up none known in
    Leaves_same rule m j due found c.loop-put.values c.loop-put.noted (λ d. join rule (entry_of_column rule m j d ws) (rest d)) rest
    (column_end rule m j ws (c.next.ensures.none c.in_default.is) rest) l.2
