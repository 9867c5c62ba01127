use Rattle.std.proofs.Common.{ℕ, suc, ◌+◌, ◌-◌, take, ◌∷◌, ◌++◌, [], ◌∙◌, ap, sym, Some, None}
use Rattle.atomic_table.specs.Table.{rest}
use Rattle.turnstile.specs.Turns.{slot, Carried}
use Rattle.turnstile.specs.Loads.{emptied, loaded}
use Rattle.turnstile.proofs.Layings.{two_first, first_empty, laid_more}
use Rattle.turnstile.proofs.steps.lay_all.Goals as goal

pub lay_one-requires-clause-empty : goal.lay_one-requires-clause-empty
lay_one-requires-clause-empty c = let k = c.args.work.now in let l = c.loop-j.work in let i = c.loop-j.invariant in let s = i.0 in
    let j : ℕ = c.loop-j.j in let w : ℕ = k.worker in let p : ℕ = k.workers in let f : ℕ = k.round in
    let L : Carried = loaded p w (f + 1) 0 (take j k.row.items) (take j k.column.items) in let T : Carried =
    emptied p w (f + 1) (suc j) (p - suc j) ++ L in
    two_first l.chair.me.1 T (slot l.workers (l.round + 1) l.worker j, None) (slot l.workers (l.round + 1 + 1) j l.worker, None)
    (i.6 ∙ first_empty p w (f + 1) j L c.loop-j-test.true ∙ (λ q. (slot (sym s.3 q) (sym s.4 q + 1) (sym s.2 q) j, None)
    ∷ (slot (sym s.3 q) (sym s.4 q + 1 + 1) j (sym s.2 q), None) ∷ T))

pub loop-j-preserved : goal.loop-j-preserved
loop-j-preserved c = let k = c.args.work.now in let l = c.loop-j.work in let i = c.loop-j.invariant in let s = i.0 in let n =
    c.lay_one.new.work in let e = c.lay_one.ensures in let t = e.same.0 in let d = e.laid in
    let r = laid_more k.workers k.worker (k.round + 1) c.loop-j.j k.row.items k.column.items n.row.items n.column.items d.0 d.1 l.chair.me.1
    n.chair.me.1 c.loop-j-test.true c.requires.rested.row c.requires.rested.column i.6
    (sym i.3 ∙ d.2) (sym i.4 ∙ d.3) (ap (λ z. z.1) d.4
    ∙ (λ q. rest (rest l.chair.me.1) ++ (slot (s.3 q) (s.4 q + 1) (s.2 q) c.loop-j.j, Some d.0)
    ∷ (slot (s.3 q) (s.4 q + 1 + 1) c.loop-j.j (s.2 q), Some d.1) ∷ [])) in (
      (t.0 ∙ s.0, t.1 ∙ s.1, t.2 ∙ s.2, t.3 ∙ s.3, t.4 ∙ s.4),
      e.same.1 ∙ i.1,
      e.same.2 ∙ i.2,
      r.1,
      r.2,
      ap (λ z. z.0) d.4 ∙ i.5,
      r.0,
    )
