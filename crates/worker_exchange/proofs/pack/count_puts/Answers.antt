use Rattle.std.proofs.Common.{◌<◌, length, ap, arith}
use Rattle.std.proofs.Math.Nat.{div-le_self}
use Rattle.worker_exchange.proofs.SendLemmas.{words_at}
use Rattle.worker_exchange.proofs.pack.count_puts.Goals as goal

pub overflow_cast-counts : goal.overflow_cast-counts
overflow_cast-counts g c =
    let j = c.columns.j in
    let v = c.index-columns-j.result in
    let l : j < length c.args.columns.now = omega arith in
    let few = c.requires.few j l in
    let is = ap length (words_at c.args.columns.now j v l c.index-columns-j.is) in
    let n = c.len.ensures in
    let m = v.ok.0 in
    let d = div-le_self c.len.result c.if-sums.size in
    omega (arith, few, is, n, m, d)
