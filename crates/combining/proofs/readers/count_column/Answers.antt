use Rattle.std.proofs.Common.{ℕ, Bool, sym, ap, ◌∙◌, length-set, Option, Some}
use Rattle.superstep_machine.specs.Sending.{several}
use Rattle.superstep_machine.proofs.Collected.{askers_are_monoid}
use Rattle.superstep_machine.specs.WordReading.{askers_of_column}
use Rattle.combining.specs.Gathering.{slot}
use Rattle.combining.proofs.Gathered.{Gathers_same, gather_one, gather_none}
use Rattle.combining.proofs.Askers.{here, askers_next, askers_end, asked_here, asked_others, nothing_asked}
use Rattle.combining.proofs.readers.count_column.Goals as goal

pub loop-ask-preserved-then-ask-k : goal.loop-ask-preserved-then-ask-k
loop-ask-preserved-then-ask-k g c =
    let m = g.M.AddressMap.shape c.args.map.now in
    let lawful = g.met.M.AddressMap.lawful c.args.map.now in
    let j = c.args.part in
    let k = c.args.k in
    let inv = c.loop-ask.invariant in
    let x = c.in-Some.ask in
    let placed = c.in-Some.ensures.fits in
    let before : (ℕ → Option Bool) → ℕ → Option Bool = λ rest d. several (askers_of_column m j k d c.loop-ask.rest.now) (rest d) in
    let after : (ℕ → Option Bool) → ℕ → Option Bool = λ rest d. several (askers_of_column m j k d c.in-Some.behind.now) (rest d) in
    record {
      long = length-set _ _ _ ∙ inv.long;
      gathered = λ whole rest known. rw placed.is
          (gather_one several askers_are_monoid m lawful j c.loop-ask.askers (inv.long ∙ c.requires) x.cell placed.of (λ d. here m j k d x)
          (after rest)
          (asked_others m j k x c.if-ask-k.true) whole c.counted.result
          (c.counted.ensures ∙ ap (λ o. several (slot c.loop-ask.askers o) (Some x.twice)) placed.is
          ∙ ap (several (slot c.loop-ask.askers (m.offset x.cell))) (sym (asked_here m j k x c.if-ask-k.true)))
          (Gathers_same several askers_are_monoid m lawful j whole c.loop-ask.askers (before rest)
          (λ d. several (here m j k d x) (after rest d))
          (askers_next m j k c.loop-ask.rest.now c.in-Some.behind.now x c.in-Some.ensures.item rest) (inv.gathered whole rest known)));
    }

pub loop-ask-preserved : goal.loop-ask-preserved
loop-ask-preserved g c =
    let m = g.M.AddressMap.shape c.args.map.now in
    let lawful = g.met.M.AddressMap.lawful c.args.map.now in
    let j = c.args.part in
    let k = c.args.k in
    let inv = c.loop-ask.invariant in
    let x = c.in-Some.ask in
    let before : (ℕ → Option Bool) → ℕ → Option Bool = λ rest d. several (askers_of_column m j k d c.loop-ask.rest.now) (rest d) in
    let after : (ℕ → Option Bool) → ℕ → Option Bool = λ rest d. several (askers_of_column m j k d c.in-Some.behind.now) (rest d) in
    record {
      long = inv.long;
      gathered = λ whole rest known.
          gather_none several askers_are_monoid m lawful j (λ d. here m j k d x) (after rest) (nothing_asked m j k x c.if-ask-k.false) whole
          c.loop-ask.askers
          (Gathers_same several askers_are_monoid m lawful j whole c.loop-ask.askers (before rest)
          (λ d. several (here m j k d x) (after rest d))
          (askers_next m j k c.loop-ask.rest.now c.in-Some.behind.now x c.in-Some.ensures.item rest) (inv.gathered whole rest known));
    }

pub returns-clause-gathered : goal.returns-clause-gathered
returns-clause-gathered g c whole rest known =
    let m = g.M.AddressMap.shape c.args.map.now in
    let ws = c.loop-ask.rest.now in
    Gathers_same several askers_are_monoid m (g.met.M.AddressMap.lawful c.args.map.now) c.args.part whole c.loop-ask.askers
    (λ d. several (askers_of_column m c.args.part c.args.k d ws) (rest d)) rest
    (askers_end m c.args.part c.args.k ws (c.next.ensures.none c.in_default.is) rest) (c.loop-ask.invariant.gathered whole rest known)
