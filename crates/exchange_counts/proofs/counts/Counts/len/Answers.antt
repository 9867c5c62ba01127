use Rattle.std.proofs.Common.{length, ap, arith}
use Rattle.std.proofs.lemmas.List.{length-map}
use Rattle.exchange_counts.specs.Columns.{columns_of}
use Rattle.exchange_counts.proofs.CountedExchangeLemmas.{Column, as_long, column_is}
use Rattle.exchange_counts.proofs.counts.Counts.len.Goals as goal

pub returns : goal.returns
returns c =
    let lists = c.self.inside.columns.items in
    let n = length-map lists (λ (v : Column). v.items) in
    let some = c.self.invariant.some in
    let here = ap length (column_is lists 0 c.index.result.now (omega (arith, n, some)) c.index.ensures) in
    let seen = as_long (columns_of lists) c.args.self.now c.self.view_is in
    let is = c.len.ensures in
    let long = c.index.result.now.ok.0 in
    omega (arith, here, seen, is, long)
