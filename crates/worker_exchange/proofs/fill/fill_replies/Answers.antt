use Rattle.std.proofs.Common.{◌<◌, length, ap, arith}
use Rattle.worker_exchange.proofs.SendLemmas.{words_at}
use Rattle.worker_exchange.proofs.fill.fill_replies.Goals as goal

pub lengthen-requires : goal.lengthen-requires
lengthen-requires g c =
    let j = c.workers.j in
    let l : j < length c.args.asked.now = omega arith in
    let v = c.index-asked-j.result in
    let is = ap length (words_at c.args.asked.now j v l c.index-asked-j.is) in
    let long = c.requires.reply j in
    let same = c.workers.invariant.reply in
    let slice = ap length c.as_slice-words.ensures.value in
    omega (arith, is, long, same, slice)
