use Rattle.std.proofs.Common.{arith}
use Rattle.combining.specs.Compact.{held_at}
use Rattle.combining.proofs.Pairs.{length_paired}
use Rattle.combining.proofs.puts.Puts.add_ascending.Goals as goal

pub hold_writes-entries-requires-clause-room : goal.hold_writes-entries-requires-clause-room
hold_writes-entries-requires-clause-room g c =
    let n = length_paired held_at c.self.inside.index.keys c.self.inside.entries.items c.self.invariant.1 in
    let r = rw (← c.self.view_is) at c.requires.room in
    omega (arith, n, r)

pub returns-clause-most : goal.returns-clause-most
returns-clause-most g c =
    let ks = c.self.inside.index.keys in
    let n = length_paired held_at ks c.self.inside.entries.items c.self.invariant.1 in
    let h = c.hold_writes-entries in
    let m = length_paired held_at h.new.self.keys h.result.0.items h.ensures.long in
    let most = h.ensures.most in
    rw (← c.self.view_is) (omega (arith, n, m, most))
