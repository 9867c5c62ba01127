use Rattle.std.proofs.Common.{◌≡◌, ◌<◌, ◌-◌, length, ap, sym, ◌∙◌, arith}
use Rattle.std.proofs.lemmas.List.{length-map}
use Rattle.superstep_machine.specs.Purposes.{purpose_is}
use Rattle.exchange_counts.specs.declared.count.Count.{Count}
use Rattle.exchange_counts.specs.Columns.{columns_of, column_of, entry_of}
use Rattle.exchange_counts.proofs.CountedExchangeLemmas.{Column, column_is, entry_is, inside, sent_many, sent_is, received_is, purpose_seen}
use Rattle.exchange_counts.proofs.counts.Counts.count.Goals as goal

pub index-requires : goal.index-requires
index-requires c =
    let lists = c.self.inside.columns.items in
    let columns = columns_of lists in
    let k = c.args.k in
    let many = sent_many columns c.args.self.now c.self.view_is k c.requires.first c.requires.last in
    let low = c.requires.worker in
    let l : c.args.w < length columns = omega (arith, many, low) in
    let n = length-map lists (λ (v : Column). v.items) in
    omega (arith, l, n)

pub index-requires-2 : goal.index-requires-2
index-requires-2 c =
    let lists = c.self.inside.columns.items in
    let columns = columns_of lists in
    let k = c.args.k in
    let many = sent_many columns c.args.self.now c.self.view_is k c.requires.first c.requires.last in
    let low = c.requires.worker in
    let l : c.args.w < length columns = omega (arith, many, low) in
    let n = length-map lists (λ (v : Column). v.items) in
    let column = ap length (column_is lists c.args.w c.index.result.now (omega (arith, l, n)) c.index.ensures) in
    let long = c.self.invariant.long c.args.w l in
    let within = inside columns c.args.self.now c.self.view_is k c.requires.first c.requires.last in
    let one = c.requires.first in
    omega (arith, column, long, within, one)

pub returns-clause-sent : goal.returns-clause-sent
returns-clause-sent c =
    let lists = c.self.inside.columns.items in
    let columns = columns_of lists in
    let k = c.args.k in
    let many = sent_many columns c.args.self.now c.self.view_is k c.requires.first c.requires.last in
    let low = c.requires.worker in
    let l : c.args.w < length columns = omega (arith, many, low) in
    let n = length-map lists (λ (v : Column). v.items) in
    let column = column_is lists c.args.w c.index.result.now (omega (arith, l, n)) c.index.ensures in
    let long = c.self.invariant.long c.args.w l in
    let within = inside columns c.args.self.now c.self.view_is k c.requires.first c.requires.last in
    let is : c.index-2.result.now ≡ entry_of (k - 1) (column_of columns c.args.w) =
    entry_is (column_of columns c.args.w) c.index.result.now.items (k - 1) c.index-2.result.now column
    (let one = c.requires.first in omega (arith, within, long, one)) c.index-2.ensures in
    ap (λ (x : Count). x.sent) is ∙ sym (sent_is columns c.args.self.now c.self.view_is k c.requires.first c.requires.last c.args.w l)

pub returns-clause-received : goal.returns-clause-received
returns-clause-received c =
    let lists = c.self.inside.columns.items in
    let columns = columns_of lists in
    let k = c.args.k in
    let many = sent_many columns c.args.self.now c.self.view_is k c.requires.first c.requires.last in
    let low = c.requires.worker in
    let l : c.args.w < length columns = omega (arith, many, low) in
    let n = length-map lists (λ (v : Column). v.items) in
    let column = column_is lists c.args.w c.index.result.now (omega (arith, l, n)) c.index.ensures in
    let long = c.self.invariant.long c.args.w l in
    let within = inside columns c.args.self.now c.self.view_is k c.requires.first c.requires.last in
    let is : c.index-2.result.now ≡ entry_of (k - 1) (column_of columns c.args.w) =
    entry_is (column_of columns c.args.w) c.index.result.now.items (k - 1) c.index-2.result.now column
    (let one = c.requires.first in omega (arith, within, long, one)) c.index-2.ensures in
    ap (λ (x : Count). x.received) is
    ∙ sym (received_is columns c.args.self.now c.self.view_is k c.requires.first c.requires.last c.args.w l)

pub returns-clause-purpose : goal.returns-clause-purpose
returns-clause-purpose c = λ zeroth.
    let lists = c.self.inside.columns.items in
    let columns = columns_of lists in
    let k = c.args.k in
    let many = sent_many columns c.args.self.now c.self.view_is k c.requires.first c.requires.last in
    let low = c.requires.worker in
    let l : c.args.w < length columns = omega (arith, many, low) in
    let n = length-map lists (λ (v : Column). v.items) in
    let column = column_is lists c.args.w c.index.result.now (omega (arith, l, n)) c.index.ensures in
    let long = c.self.invariant.long c.args.w l in
    let within = inside columns c.args.self.now c.self.view_is k c.requires.first c.requires.last in
    let is : c.index-2.result.now ≡ entry_of (k - 1) (column_of columns c.args.w) =
    entry_is (column_of columns c.args.w) c.index.result.now.items (k - 1) c.index-2.result.now column
    (let one = c.requires.first in omega (arith, within, long, one)) c.index-2.ensures in
    ap (λ (x : Count). purpose_is x.purpose) is
    ∙ ap (λ w. purpose_is (entry_of (k - 1) (column_of columns w)).purpose) zeroth
    ∙ sym (purpose_seen columns c.args.self.now c.self.view_is k c.requires.first c.requires.last c.self.invariant.some)
