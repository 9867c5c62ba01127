use Rattle.std.proofs.Common.{◌<◌, ◌+◌, ℕ, Option, Bool, None, length, map, drop, ◌∙◌, arith}
use Rattle.superstep_machine.specs.Sending.{several}
use Rattle.superstep_machine.proofs.Collected.{askers_are_monoid}
use Rattle.superstep_machine.specs.WordReading.{askers_of_column, askers_read}
use Rattle.combining.proofs.Gathered.{Gathers_same}
use Rattle.combining.proofs.Columns.{columns_more, columns_end}
use Rattle.combining.proofs.readers.count_all.Goals as goal

pub loop-words-preserved : goal.loop-words-preserved
loop-words-preserved g c =
    let m = g.M.AddressMap.shape c.args.map.now in
    let inv = c.loop-words.invariant in
    let columns = c.args.columns.now in
    let i = c.loop-words.words-index in
    let l : i < length columns = omega arith in
    let left : ℕ → ℕ → Option Bool = λ n. askers_read m c.args.part (map (λ x. x.now) (drop n columns)) c.args.k in
    record {
      long = c.count_column.ensures.length ∙ inv.long;
      gathered = λ whole known. c.count_column.ensures.gathered whole (left (i + 1))
          (Gathers_same several askers_are_monoid m (g.met.M.AddressMap.lawful c.args.map.now) c.args.part whole c.loop-words.askers
          (left i) _
          (λ d. columns_more several (askers_of_column m c.args.part c.args.k d) columns i _ l) (inv.gathered whole known));
    }

pub returns-clause-gathered : goal.returns-clause-gathered
returns-clause-gathered g c whole known =
    let m = g.M.AddressMap.shape c.args.map.now in
    let columns = c.args.columns.now in
    let i = c.loop-words.words-index in
    Gathers_same several askers_are_monoid m (g.met.M.AddressMap.lawful c.args.map.now) c.args.part whole c.loop-words.askers
    (askers_read m c.args.part (map (λ x. x.now) (drop i columns)) c.args.k) (λ d. None)
    (λ d. columns_end several (askers_of_column m c.args.part c.args.k d) columns i (omega arith))
    (c.loop-words.invariant.gathered whole known)
