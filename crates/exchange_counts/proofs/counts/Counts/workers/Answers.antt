use Rattle.std.proofs.Common.{arith}
use Rattle.std.proofs.lemmas.List.{length-map}
use Rattle.exchange_counts.specs.Columns.{columns_of}
use Rattle.exchange_counts.proofs.CountedExchangeLemmas.{Column, sent_many, received_many}
use Rattle.exchange_counts.proofs.counts.Counts.workers.Goals as goal

pub returns-clause-sent : goal.returns-clause-sent
returns-clause-sent c = λ k first last.
    let lists = c.self.inside.columns.items in
    let many = sent_many (columns_of lists) c.args.self.now c.self.view_is k first last in
    let n = length-map lists (λ (v : Column). v.items) in
    let is = c.len.ensures in
    let long = c.self.inside.columns.ok.0 in
    omega (arith, many, n, is, long)

pub returns-clause-received : goal.returns-clause-received
returns-clause-received c = λ k first last.
    let lists = c.self.inside.columns.items in
    let many = received_many (columns_of lists) c.args.self.now c.self.view_is k first last in
    let n = length-map lists (λ (v : Column). v.items) in
    let is = c.len.ensures in
    let long = c.self.inside.columns.ok.0 in
    omega (arith, many, n, is, long)
