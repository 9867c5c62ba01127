use Rattle.std.proofs.Common.{ℕ, ◌-◌, ◌<◌, length, arith}
use Rattle.combining.proofs.Chains.{place_none, place_found}
use Rattle.combining.proofs.linking.linked_place.Goals as goal

pub returns-then-keys-i : goal.returns-then-keys-i
returns-then-keys-i c =
    let keys = c.args.keys.now in
    let i : ℕ = c.loop-left.left - 1 in
    let l : i < length keys = (let w = c.loop-left.invariant.within in omega arith) in
    record { place = place_found c.args.key keys i l c.if-keys-i.true c.requires.linked.apart }

pub returns : goal.returns
returns c = record {
  place = place_none c.args.key c.args.keys.now (λ j l e. c.loop-left.invariant.none j (omega arith) l e);
}
