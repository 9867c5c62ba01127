use Rattle.std.proofs.Common.{length, ℕ, Bool, ap, ◌∙◌, length-set, refl, Option}
use Rattle.superstep_machine.specs.Sending.{several}
use Rattle.superstep_machine.proofs.Collected.{askers_are_monoid}
use Rattle.superstep_machine.specs.WordReading.{askers_of_column}
use Rattle.combining.specs.Merged.{shared}
use Rattle.combining.proofs.Gathered.{Notes_same, note_taken, note_none}
use Rattle.combining.proofs.Askers.{here, askers_next, askers_end, asked_others, nothing_asked}
use Rattle.combining.proofs.readers.note_column.Goals as goal

pub loop-ask-preserved-then-ask-k : goal.loop-ask-preserved-then-ask-k
loop-ask-preserved-then-ask-k g c =
    let m = g.M.AddressMap.shape c.args.map.now in
    let lawful = g.met.M.AddressMap.lawful c.args.map.now in
    let j = c.args.part in
    let k = c.args.k in
    let inv = c.loop-ask.invariant in
    let x = c.in-Some.ask in
    let placed = c.in-Some.ensures.fits in
    let done = c.note_at-noted.ensures in
    let before : (ℕ → Option Bool) → ℕ → Option Bool = λ rest d. several (askers_of_column m j k d c.loop-ask.rest.now) (rest d) in
    let after : (ℕ → Option Bool) → ℕ → Option Bool = λ rest d. several (askers_of_column m j k d c.in-Some.behind.now) (rest d) in
    record {
      long = ap length done.askers ∙ length-set _ _ _ ∙ inv.long;
      notes = λ start rest known. rw (done.askers, done.noted, placed.is)
          (note_taken several askers_are_monoid m lawful j c.loop-ask.askers (inv.long ∙ c.requires) x.cell placed.of (λ d. here m j k d x)
          (after rest)
          (asked_others m j k x c.if-ask-k.true) shared refl start c.loop-ask.noted
          (Notes_same several askers_are_monoid m lawful j shared start c.loop-ask.askers c.loop-ask.noted (before rest)
          (λ d. several (here m j k d x) (after rest d))
          (askers_next m j k c.loop-ask.rest.now c.in-Some.behind.now x c.in-Some.ensures.item rest) (inv.notes start rest known)));
    }

pub loop-ask-preserved : goal.loop-ask-preserved
loop-ask-preserved g c =
    let m = g.M.AddressMap.shape c.args.map.now in
    let lawful = g.met.M.AddressMap.lawful c.args.map.now in
    let j = c.args.part in
    let k = c.args.k in
    let inv = c.loop-ask.invariant in
    let x = c.in-Some.ask in
    let before : (ℕ → Option Bool) → ℕ → Option Bool = λ rest d. several (askers_of_column m j k d c.loop-ask.rest.now) (rest d) in
    let after : (ℕ → Option Bool) → ℕ → Option Bool = λ rest d. several (askers_of_column m j k d c.in-Some.behind.now) (rest d) in
    record {
      long = inv.long;
      notes = λ start rest known.
          note_none several askers_are_monoid m lawful j (λ d. here m j k d x) (after rest) (nothing_asked m j k x c.if-ask-k.false) shared
          start
          c.loop-ask.askers c.loop-ask.noted
          (Notes_same several askers_are_monoid m lawful j shared start c.loop-ask.askers c.loop-ask.noted (before rest)
          (λ d. several (here m j k d x) (after rest d))
          (askers_next m j k c.loop-ask.rest.now c.in-Some.behind.now x c.in-Some.ensures.item rest) (inv.notes start rest known));
    }

pub returns-clause-noted : goal.returns-clause-noted
returns-clause-noted g c start rest known =
    let m = g.M.AddressMap.shape c.args.map.now in
    let ws = c.loop-ask.rest.now in
    Notes_same several askers_are_monoid m (g.met.M.AddressMap.lawful c.args.map.now) c.args.part shared start c.loop-ask.askers
    c.loop-ask.noted
    (λ d. several (askers_of_column m c.args.part c.args.k d ws) (rest d)) rest
    (askers_end m c.args.part c.args.k ws (c.next.ensures.none c.in_default.is) rest) (c.loop-ask.invariant.notes start rest known)
