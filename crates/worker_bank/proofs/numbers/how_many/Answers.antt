use Rattle.std.proofs.Common.{arith, ◌≡◌, suc, ◌+◌, ◌-◌, ◌*◌, ◌/◌, ◌%◌, ◌<◌, ◌≤◌, map, ap, ◌∙◌, eqb}
use Rattle.std.specs.List.{range_with_len, filter}
use Rattle.std.proofs.Math.Nat.{div-add-mod, mod-lt}
use Rattle.worker_bank.proofs.NumberLemmas.{processors_are}
use Rattle.worker_bank.proofs.numbers.how_many.Goals as goal

pub returns-then-width-worker : goal.returns-then-width-worker
returns-then-width-worker c t e =
    let b = c.requires in
    ap (λ p. filter (λ v. eqb (v % p) c.args.worker) (range_with_len 0 c.args.width)) e
    ∙ processors_are c.args.workers c.args.worker (omega (arith, b)) b c.args.width 0 c.if-width-worker.true

pub returns-else-width-worker : goal.returns-else-width-worker
returns-else-width-worker c t e =
    let b = c.requires in
    let some : 0 < c.args.workers = omega (arith, b) in
    let m = c.args.width - c.args.worker - 1 in
    let d = div-add-mod m c.args.workers in
    let r = mod-lt m some in
    let f = c.if-width-worker.false in
    let many = m / c.args.workers in
    let low : c.args.worker + c.args.workers * many < c.args.width = omega (arith, d, r, f) in
    let high : c.args.width ≤ c.args.worker + c.args.workers * many + c.args.workers = omega (arith, d, r, f) in
    ap (λ p. filter (λ v. eqb (v % p) c.args.worker) (range_with_len 0 c.args.width)) e
    ∙ processors_are c.args.workers c.args.worker some b c.args.width (suc many) (low, high)
    ∙ (let one : suc many ≡ many + 1 = omega arith in ap (λ k. map (λ j. c.args.worker + c.args.workers * j) (range_with_len 0 k)) one)
