use Rattle.std.proofs.Common.{◌<◌, ◌+◌, ℕ, Option, Bool, None, length, map, drop, ◌∙◌, arith}
use Rattle.superstep_machine.specs.Sending.{several}
use Rattle.superstep_machine.proofs.Collected.{askers_are_monoid}
use Rattle.superstep_machine.specs.WordReading.{askers_of_column, askers_read}
use Rattle.combining.specs.Merged.{shared}
use Rattle.combining.proofs.Gathered.{Notes_same}
use Rattle.combining.proofs.Columns.{columns_more, columns_end}
use Rattle.combining.proofs.readers.note_all.Goals as goal

pub loop-words-preserved : goal.loop-words-preserved
loop-words-preserved g c =
    let m = g.M.AddressMap.shape c.args.map.now in
    let inv = c.loop-words.invariant in
    let columns = c.args.columns.now in
    let i = c.loop-words.words-index in
    let l : i < length columns = omega arith in
    let left : ℕ → ℕ → Option Bool = λ n. askers_read m c.args.part (map (λ x. x.now) (drop n columns)) c.args.k in
    record {
      long = c.note_column-noted.ensures.length ∙ inv.long;
      notes = λ start known. c.note_column-noted.ensures.noted start (left (i + 1))
          (Notes_same several askers_are_monoid m (g.met.M.AddressMap.lawful c.args.map.now) c.args.part shared start c.loop-words.askers
          c.loop-words.noted (left i) _
          (λ d. columns_more several (askers_of_column m c.args.part c.args.k d) columns i _ l) (inv.notes start known));
    }

pub returns-clause-noted : goal.returns-clause-noted
returns-clause-noted g c start known =
    let m = g.M.AddressMap.shape c.args.map.now in
    let columns = c.args.columns.now in
    let i = c.loop-words.words-index in
    Notes_same several askers_are_monoid m (g.met.M.AddressMap.lawful c.args.map.now) c.args.part shared start c.loop-words.askers
    c.loop-words.noted
    (askers_read m c.args.part (map (λ x. x.now) (drop i columns)) c.args.k) (λ d. None)
    (λ d. columns_end several (askers_of_column m c.args.part c.args.k d) columns i (omega arith))
    (c.loop-words.invariant.notes start known)
