use Rattle.std.proofs.Common.{◌-◌, ◌<◌, length, arith}
use Rattle.combining.proofs.Chains.{place_found}
use Rattle.combining.proofs.near.place_near.Goals as goal

pub returns-then-keys-likely-clause-place : goal.returns-then-keys-likely-clause-place
returns-then-keys-likely-clause-place c =
    place_found c.args.key c.args.keys.now c.args.likely c.if-likely-keys.true c.if-keys-likely.true c.requires.apart

pub returns-then-keys-likely-2-clause-place : goal.returns-then-keys-likely-2-clause-place
returns-then-keys-likely-2-clause-place c =
    let l : c.args.likely - 1 < length c.args.keys.now = (let a = c.if-likely-gt0.true in let b = c.if-likely-keys-2.true in
    omega (arith, a, b)) in
    place_found c.args.key c.args.keys.now (c.args.likely - 1) l c.if-keys-likely-2.true c.requires.apart
