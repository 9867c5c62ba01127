use Rattle.std.proofs.Common.{arith}
use Rattle.combining.specs.Asked.{ask_at}
use Rattle.combining.proofs.Pairs.{length_paired}
use Rattle.combining.proofs.asks.Asks.add_ascending.Goals as goal

pub hold_ascending-asked-requires-clause-room : goal.hold_ascending-asked-requires-clause-room
hold_ascending-asked-requires-clause-room c =
    let n = length_paired ask_at c.self.inside.index.keys c.self.inside.asked.items c.self.invariant.1 in
    let r = rw (← c.self.view_is) at c.requires.room in
    omega (arith, n, r)

pub returns-clause-most : goal.returns-clause-most
returns-clause-most c =
    let ks = c.self.inside.index.keys in
    let n = length_paired ask_at ks c.self.inside.asked.items c.self.invariant.1 in
    let h = c.hold_ascending-asked in
    let m = length_paired ask_at h.new.self.keys h.result.0.items h.ensures.long in
    let most = h.ensures.most in
    rw (← c.self.view_is) (omega (arith, n, m, most))
